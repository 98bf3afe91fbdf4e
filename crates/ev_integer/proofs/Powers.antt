-- The power by the bound on its exponent is the exact one, where that is within the range.
use Rattle.std.proofs.Common.{◌≡◌, ◌<◌, ◌≤◌, ◌^◌, ◌*◌, ◌%◌, ℕ, zero, suc, ℤ, pos, negsuc, Bool, true, false, cond, Result, Ok, Err, refl, ◌∙◌, ap, arith}
use Rattle.std.specs.Prelude.{neg_ℤ, nat_le, ◌==◌}
use Rattle.std.specs.Int.{int_pow}
use Rattle.std.proofs.Math.Nat.{pow-suc, pow-le-pow_left, pow-le-pow_right, mul-zero}
use Rattle.std.proofs.lemmas.Bool.Decides.{nat_tests}
use Rattle.ev_integer.specs.declared.arithmetic.NumFault.{NumFault}
use Rattle.ev_integer.specs.declared.arithmetic.NumFault.TheVariants.{Overflow}
use Rattle.ev_integer.specs.Ints.{fits, in_range, power}

one_pow : (n : ℕ) → 1 ^ n ≡ 1
one_pow zero = refl
one_pow (suc n) = pow-suc 1 n ∙ ap (λ x. x * 1) (one_pow n)

zero_pow : (n : ℕ) → 0 ^ suc n ≡ 0
zero_pow n = pow-suc 0 n ∙ mul-zero (0 ^ n)

huge : (m n : ℕ) → 2 ≤ m → 127 < n → 2 ^ 128 ≤ m ^ n
huge m n h k =
    let two : 0 < 2 = omega arith in
    let up : 128 ≤ n = omega arith in
    let a : 2 ^ n ≤ m ^ n = pow-le-pow_left h n in
    let b : 2 ^ 128 ≤ 2 ^ n = pow-le-pow_right two up in
    omega arith

-- neither a number of 2^128 or more nor its negative is within the range
beyond : (even : Bool) (p : ℕ) → 2 ^ 128 ≤ p → fits (cond even (pos p) (neg_ℤ (pos p))) ≡ false
beyond true p h = grind (arith, nat_tests)
beyond false zero h = absurd (omega arith)
beyond false (suc p) h = grind (arith, nat_tests)

not_small : (m : ℕ) → nat_le (suc (suc m)) 1 ≡ false
not_small m = grind (arith, nat_tests)

not_zero : (n : ℕ) → (suc n == 0) ≡ false
not_zero n = grind (arith, nat_tests)

same_twice : {X : Type 0} (b : Bool) (x : X) → cond b x x ≡ x
same_twice true x = refl
same_twice false x = refl

same_thrice : {X : Type 0} (b c : Bool) (x : X) → cond b x (cond c x x) ≡ x
same_thrice true c x = refl
same_thrice false c x = same_twice c x

-- the powers of -1 from the first on
alternates : (even : Bool) → ◌≡◌ {A = Result ℤ NumFault} (cond even (Ok (pos 1)) (Ok (negsuc 0))) (in_range (cond even (pos 1) (neg_ℤ (pos 1))))
alternates true = refl
alternates false = refl

small_bound : (m n : ℕ) (low : Bool) → nat_le n 127 ≡ low
    → cond low (in_range (pos (suc (suc m) ^ n))) (Err Overflow) ≡ in_range (pos (suc (suc m) ^ n))
small_bound m n true e = refl
small_bound m n false e =
    let h : 127 < n = grind (arith, nat_tests) in
    rw (beyond true (suc (suc m) ^ n) (huge (suc (suc m)) n (omega arith) h)) refl

small_bound_below : (m n : ℕ) (low : Bool) → nat_le n 127 ≡ low
    → cond low (in_range (int_pow (negsuc (suc m)) n)) (Err Overflow) ≡ in_range (int_pow (negsuc (suc m)) n)
small_bound_below m n true e = refl
small_bound_below m n false e =
    let h : 127 < n = grind (arith, nat_tests) in
    rw (beyond (n % 2 == 0) (suc (suc m) ^ n) (huge (suc (suc m)) n (omega arith) h)) refl

pub power_exact : (a : ℤ) (n : ℕ) → power a n ≡ in_range (int_pow a n)
power_exact (pos zero) zero = refl
power_exact (pos zero) (suc n) = rw (not_zero n, zero_pow n) (same_twice (suc n % 2 == 0) (Ok (pos 0)))
power_exact (pos (suc zero)) n = rw (one_pow n) (same_thrice (n == 0) (n % 2 == 0) (Ok (pos 1)))
power_exact (pos (suc (suc m))) n = rw (not_small m) (small_bound m n (nat_le n 127) refl)
power_exact (negsuc zero) zero = refl
power_exact (negsuc zero) (suc n) = rw (not_zero n, one_pow (suc n)) (alternates (suc n % 2 == 0))
power_exact (negsuc (suc m)) n = rw (not_small m) (small_bound_below m n (nat_le n 127) refl)
