-- What the checked operations answer, and the two divisions.
use Rattle.std.proofs.Common.{◌≡◌, ◌<◌, ◌^◌, ℕ, zero, suc, ◌-◌, ℤ, pos, negsuc, true, false, Option, None, Some, Result, Ok, arith, refl, sym, ◌∙◌, ap}
use Rattle.std.specs.Prelude.{◌+ℤ◌, ◌-ℤ◌, ◌*ℤ◌, SomeIff, FitsSigned, ok_or, int_div, int_rem, neg_ℤ, bit_or, bit_xor}
use Rattle.std.specs.Int.{w128, cast_signed, cast_unsigned}
use Rattle.std.proofs.lemmas.Bool.Decides.{nat_tests}
use Rattle.std.proofs.lemmas.Nat.{or_lt, xor_lt}
use Rattle.std.proofs.lemmas.Int.{quot-rem, ints}
use Rattle.std.proofs.Math.IntN.{*ℤ_comm, pred_ℤ, pred_ℤ-*ℤ}
use Rattle.ev_integer.specs.declared.arithmetic.NumFault.{NumFault}
use Rattle.ev_integer.specs.declared.arithmetic.NumFault.TheVariants.{Overflow}
use Rattle.ev_integer.specs.Ints.{fits, in_range, is_zero, rounds_up, modulo, divided, of_bits, bits_of}

pub within : (z : ℤ) → FitsSigned w128 z → fits z ≡ true
within (pos n) h = let k : n < 2 ^ 127 = h.sfits in grind (arith, nat_tests)
within (negsuc n) h = let k : n < 2 ^ 127 = h.sfits in grind (arith, nat_tests)

pub without : (z : ℤ) → ¬ (FitsSigned w128 z) → fits z ≡ false
without (pos n) h = let k : (n < 2 ^ 127) → ⊥ = λ (l : n < 2 ^ 127). h (record { sfits = l }) in grind (arith, nat_tests)
without (negsuc n) h = let k : (n < 2 ^ 127) → ⊥ = λ (l : n < 2 ^ 127). h (record { sfits = l }) in grind (arith, nat_tests)

-- a checked result is the exact one, where that is within the range
pub checked : (o : Option ℤ) (z : ℤ) → SomeIff o (FitsSigned w128 z) z → ok_or o Overflow ≡ in_range z
checked None z h = rw (without z h) refl
checked (Some x) z h = rw (within z h.0) (ap Ok h.1)

fits_rest : (z : ℤ) → FitsSigned w128 z → in_range z ≡ Ok z
fits_rest z h = rw (within z h) refl

-- the rest by the quotient rounded downwards
ring : (a b q r : ℤ) → q *ℤ b +ℤ r ≡ a → a -ℤ (b *ℤ q) ≡ r
ring a b q r e = let k : b *ℤ q ≡ q *ℤ b = *ℤ_comm b q in rw k (omega (arith, ints))

one_less : (q : ℤ) → q -ℤ pos 1 ≡ pred_ℤ q
one_less (pos zero) = refl
one_less (pos (suc n)) = omega (arith, ints)
one_less (negsuc n) = omega (arith, ints)

ring_below : (a b q r : ℤ) → q *ℤ b +ℤ r ≡ a → a -ℤ (b *ℤ (q -ℤ pos 1)) ≡ r +ℤ b
ring_below a b q r e =
    let k : b *ℤ (q -ℤ pos 1) ≡ q *ℤ b -ℤ b = *ℤ_comm b (q -ℤ pos 1) ∙ ap (λ x. x *ℤ b) (one_less q) ∙ pred_ℤ-*ℤ q b in
    rw k (omega (arith, ints))

pub modulo_same : (a b : ℤ) → rounds_up (int_rem a b) b ≡ false → modulo a b ≡ int_rem a b
modulo_same a b h = rw h (ring a b (int_div a b) (int_rem a b) (quot-rem a b))

pub modulo_below : (a b : ℤ) → rounds_up (int_rem a b) b ≡ true → modulo a b ≡ int_rem a b +ℤ b
modulo_below a b h = rw h (ring_below a b (int_div a b) (int_rem a b) (quot-rem a b))

-- what the code's bits are
negated : (k n : ℕ) → k ≡ suc n → neg_ℤ (pos k) ≡ negsuc n
negated k n e = rw e refl

pub bits_are : (u : ℕ) → u < 2 ^ 128 → cast_signed w128 u ≡ of_bits u
bits_are u h =
    let e : neg_ℤ (pos (2 ^ 128 - u)) ≡ negsuc (2 ^ 128 - suc u) = negated (2 ^ 128 - u) (2 ^ 128 - suc u) (omega arith) in
    rw e refl

bits_below : (z : ℤ) → FitsSigned w128 z → cast_unsigned w128 z < 2 ^ 128
bits_below (pos n) h = let k : n < 2 ^ 127 = h.sfits in omega arith
bits_below (negsuc n) h = omega arith

same_bits : (z : ℤ) → cast_unsigned w128 z ≡ bits_of z
same_bits (pos n) = refl
same_bits (negsuc n) = refl

pub or_bits : (a b : ℤ) → FitsSigned w128 a → FitsSigned w128 b
    → cast_signed w128 (bit_or (cast_unsigned w128 a) (cast_unsigned w128 b)) ≡ of_bits (bit_or (bits_of a) (bits_of b))
or_bits a b f g =
    bits_are _ (or_lt 128 (cast_unsigned w128 a) (cast_unsigned w128 b) (bits_below a f) (bits_below b g))
    ∙ rw (same_bits a, same_bits b) refl

pub xor_bits : (a b : ℤ) → FitsSigned w128 a → FitsSigned w128 b
    → cast_signed w128 (bit_xor (cast_unsigned w128 a) (cast_unsigned w128 b)) ≡ of_bits (bit_xor (bits_of a) (bits_of b))
xor_bits a b f g =
    bits_are _ (xor_lt 128 (cast_unsigned w128 a) (cast_unsigned w128 b) (bits_below a f) (bits_below b g))
    ∙ rw (same_bits a, same_bits b) refl

pub modulo_then : (a b r : ℤ) (o : Result ℤ NumFault) → is_zero b ≡ false → r ≡ int_rem a b → true ≡ rounds_up r b
    → o ≡ in_range (r +ℤ b) → o ≡ divided b (modulo a b)
modulo_then a b r o z e u s =
    let above : rounds_up (int_rem a b) b ≡ true = rw e at (sym u) in
    rw (z, modulo_below a b above, ← e) s
