-- One step of spelling a number.
use Rattle.std.proofs.Common.{◌≡◌, ℕ, zero, suc, ◌+◌, ◌-◌, ◌/◌, ◌%◌, ◌<◌, ◌≤◌, Bool, ◌∷◌, refl, arith}
use Rattle.std.proofs.lemmas.Bool.{le-ltb}
use Rattle.def_op.specs.Numbers.{digit, digits, low_first}

pub digits_more : (last : ℕ) (negative : Bool) (k n : ℕ) → 0 < k → last ≤ n
    → digits last negative k n ≡ (128 + digit negative (n % 128)) ∷ digits last negative (k - 1) (n / 128)
unfolding digits
digits_more last negative zero n some le = absurd (omega arith)
digits_more last negative (suc k) n some le = let e : suc k - 1 ≡ k = omega arith in rw (e, le-ltb n last le) refl

pub low_first_more : (k n : ℕ) → 0 < k → low_first k n ≡ (n % 256) ∷ low_first (k - 1) (n / 256)
unfolding low_first
low_first_more zero n some = absurd (omega arith)
low_first_more (suc k) n some = let e : suc k - 1 ≡ k = omega arith in rw e refl
