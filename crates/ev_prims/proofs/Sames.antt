-- Each definition of the one beside that of the other.
use Rattle.std.proofs.Common.{◌≡◌, ℕ, ℤ, pos, negsuc, Bool, true, false, cond, Ok, Err, refl, ap, ◌∙◌}
use Rattle.std.specs.Prelude.{neg_ℤ, nat_le, nat_lt, unsigned_abs, int_div, int_rem, ◌-ℤ◌, ◌*ℤ◌, ◌+ℤ◌, ◌==◌, ◌%◌, ◌^◌, ◌-◌, suc, bit_and, bit_or, bit_xor, not, ◌&&◌, if◌then◌else◌, codes}
use Rattle.std.specs.Int.{int_pow}
use Rattle.def_machine.specs.Ints as machine
use Rattle.ev_integer.specs.Ints as num
use Rattle.ev_integer.specs.declared.arithmetic.IntOp.{IntOp}
use Rattle.ev_integer.specs.declared.arithmetic.IntOp.TheVariants as op
use Rattle.ev_integer.specs.declared.arithmetic.NumFault.TheVariants.{Overflow, ZeroDivisor}
use Rattle.ev_prims.specs.Same.{op_of, told}

ranged : (z : ℤ) (b : Bool) → elim b [ true ↦ Ok z | false ↦ Err (codes "integer overflow") ] ≡ told (if b then Ok z else Err Overflow)
ranged z true = refl
ranged z false = refl

same_range : (z : ℤ) → machine.in_range z ≡ told (num.in_range z)
unfolding machine.in_range machine.fits
same_range z = ranged z (num.fits z)

-- the quotient rounded downwards, by what the signs are
rounded : (zero below_rest below_divisor : Bool) (q : ℤ) → elim zero [
  | true ↦ q
  | false ↦ elim below_rest [
    | true ↦ elim below_divisor [ true ↦ q | false ↦ q -ℤ pos 1 ]
    | false ↦ elim below_divisor [ true ↦ q -ℤ pos 1 | false ↦ q ]
  ]
] ≡ (if not zero && num.differ below_rest below_divisor then q -ℤ pos 1 else q)
rounded true true true q = refl
rounded true true false q = refl
rounded true false true q = refl
rounded true false false q = refl
rounded false true true q = refl
rounded false true false q = refl
rounded false false true q = refl
rounded false false false q = refl

same_zero : (z : ℤ) → machine.is_zero z ≡ num.is_zero z
unfolding machine.is_zero
same_zero (pos n) = refl
same_zero (negsuc n) = refl

same_negative : (z : ℤ) → machine.is_negative z ≡ num.is_negative z
unfolding machine.is_negative
same_negative (pos n) = refl
same_negative (negsuc n) = refl

same_floored : (q rest b : ℤ) → machine.floored q rest b ≡ num.floored q rest b
unfolding machine.floored machine.is_zero machine.is_negative
same_floored q (pos n) (pos m) = rounded (n == 0) false false q
same_floored q (pos n) (negsuc m) = rounded (n == 0) false true q
same_floored q (negsuc n) (pos m) = refl
same_floored q (negsuc n) (negsuc m) = refl

same_floor : (a b : ℤ) → machine.floor_divide a b ≡ num.floor_divide a b
unfolding machine.floor_divide
same_floor a b = same_floored (int_div a b) (int_rem a b) b

divisible : (b : Bool) (answer : ℤ) → elim b [ true ↦ Err (codes "zero divisor") | false ↦ machine.in_range answer ] ≡ told (if b then Err ZeroDivisor else num.in_range answer)
divisible true answer = refl
divisible false answer = same_range answer

same_divided : (b answer : ℤ) → machine.divided b answer ≡ told (num.divided b answer)
unfolding machine.divided
same_divided b answer = rw (machine.divided, same_zero b) (divisible (num.is_zero b) answer)

signed : (even : Bool) (m n : ℕ) → machine.signed_power even (negsuc m) n ≡ cond even (pos (suc m ^ n)) (neg_ℤ (pos (suc m ^ n)))
unfolding machine.signed_power
signed true m n = refl
signed false m n = refl

same_signed : (a : ℤ) (n : ℕ) → machine.signed_power (n % 2 == 0) a n ≡ int_pow a n
unfolding machine.signed_power
same_signed (pos m) n = refl
same_signed (negsuc m) n = signed (n % 2 == 0) m n

-- a power by whether the number is small, whether its exponent is zero, even, and not too large
powers : (small none even low : Bool) (z z' square a : ℤ) → z ≡ z' → elim small [
  | true ↦ elim none [ true ↦ Ok (pos 1) | false ↦ elim even [ true ↦ Ok square | false ↦ Ok a ] ]
  | false ↦ elim low [ true ↦ machine.in_range z | false ↦ Err (codes "integer overflow") ]
] ≡ told (if small then (if none then Ok (pos 1) else if even then Ok square else Ok a) else if low then num.in_range z' else Err Overflow)
powers true true even low z z' square a e = refl
powers true false true low z z' square a e = refl
powers true false false low z z' square a e = refl
powers false none even true z z' square a e = ap machine.in_range e ∙ same_range z'
powers false none even false z z' square a e = refl

same_power : (a : ℤ) (n : ℕ) → machine.power a n ≡ told (num.power a n)
unfolding machine.power machine.is_small
same_power a n = powers (num.is_small a) (n == 0) (n % 2 == 0) (nat_le n 127) (machine.signed_power (n % 2 == 0) a n) (int_pow a n) (pos (unsigned_abs a)) a (same_signed a n)

same_powered : (a b : ℤ) → machine.powered a b ≡ told (num.powered a b)
unfolding machine.powered
same_powered a (pos n) = same_power a n
same_powered a (negsuc n) = refl

same_bits : (a : ℤ) → machine.bits_of a ≡ num.bits_of a
unfolding machine.bits_of
same_bits (pos n) = refl
same_bits (negsuc n) = refl

of_either : (b : Bool) (x y : ℤ) → elim b [ true ↦ x | false ↦ y ] ≡ (if b then x else y)
of_either true x y = refl
of_either false x y = refl

same_number : (u : ℕ) → machine.of_bits u ≡ num.of_bits u
unfolding machine.of_bits
same_number u = of_either (nat_lt u (2 ^ 127)) (pos u) (neg_ℤ (pos (2 ^ 128 - u)))

same_modulo : (a b : ℤ) → machine.divided b (a -ℤ (b *ℤ machine.floor_divide a b)) ≡ told (num.divided b (num.modulo a b))
same_modulo a b = rw (same_floor a b) (same_divided b (num.modulo a b))

pub same : (o : IntOp) (a b : ℤ) → machine.apply (op_of o) a b ≡ told (num.apply o a b)
unfolding machine.apply
same op.Add a b = same_range (a +ℤ b)
same op.Subtract a b = same_range (a -ℤ b)
same op.Multiply a b = same_range (a *ℤ b)
same op.FloorDivide a b = rw (same_floor a b) (same_divided b (num.floor_divide a b))
same op.Remainder a b = same_divided b (int_rem a b)
same op.Mod a b = same_modulo a b
same op.Pow a b = same_powered a b
same op.And a b = rw (same_bits a, same_bits b) (ap Ok (same_number (bit_and (num.bits_of a) (num.bits_of b))))
same op.Or a b = rw (same_bits a, same_bits b) (ap Ok (same_number (bit_or (num.bits_of a) (num.bits_of b))))
same op.Xor a b = rw (same_bits a, same_bits b) (ap Ok (same_number (bit_xor (num.bits_of a) (num.bits_of b))))
