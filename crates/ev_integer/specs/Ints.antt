-- The arithmetic of integers within 128 bits with a sign.
use Rattle.std.specs.Prelude.{ℕ, suc, ◌-◌, ◌%◌, ◌^◌, ℤ, pos, negsuc, ◌+ℤ◌, ◌-ℤ◌, ◌*ℤ◌, neg_ℤ, unsigned_abs, int_le, int_lt, int_div, int_rem, nat_le, nat_lt, Bool, true, false, not, ◌&&◌, ◌==◌, if◌then◌else◌, bit_and, bit_or, bit_xor, Result, Ok, Err}
use Rattle.std.specs.Int.{int_pow}
use Rattle.ev_integer.specs.declared.arithmetic.IntOp.{IntOp}
use Rattle.ev_integer.specs.declared.arithmetic.IntOp.TheVariants.{Add, Subtract, Multiply, FloorDivide, Remainder, Mod, Pow, And, Or, Xor}
use Rattle.ev_integer.specs.declared.arithmetic.NumFault.{NumFault}
use Rattle.ev_integer.specs.declared.arithmetic.NumFault.TheVariants.{Overflow, ZeroDivisor, NegativePower}

abbrev pub is_zero : ℤ → Bool
is_zero (pos n) = n == 0
is_zero (negsuc n) = false

abbrev pub is_negative : ℤ → Bool
is_negative (pos n) = false
is_negative (negsuc n) = true

-- from -2^127 to 2^127 - 1
abbrev pub fits : ℤ → Bool
fits z = int_le (neg_ℤ (pos (2 ^ 127))) z && int_lt z (pos (2 ^ 127))

-- the number, where it is within the range
abbrev pub in_range : ℤ → Result ℤ NumFault
in_range z = if fits z then Ok z else Err Overflow

-- one of two is true and the other is not
abbrev pub differ : Bool → Bool → Bool
differ true b = not b
differ false b = b

-- a quotient rounded to zero that leaves this rest is above the exact one: the exact one is below 0 and no integer
abbrev pub rounds_up : ℤ → ℤ → Bool
rounds_up rest b = not (is_zero rest) && differ (is_negative rest) (is_negative b)

-- the quotient rounded downwards, from that rounded to zero and its rest
abbrev pub floored : ℤ → ℤ → ℤ → ℤ
floored quotient rest b = if rounds_up rest b then quotient -ℤ pos 1 else quotient

abbrev pub floor_divide : ℤ → ℤ → ℤ
floor_divide a b = floored (int_div a b) (int_rem a b) b

-- what is left of the quotient rounded downwards
abbrev pub modulo : ℤ → ℤ → ℤ
modulo a b = a -ℤ (b *ℤ floor_divide a b)

-- what a division answers: nothing where the divisor is 0
abbrev pub divided : ℤ → ℤ → Result ℤ NumFault
divided b answer = if is_zero b then Err ZeroDivisor else in_range answer

-- -1, 0 and 1: each power is one of the number itself, its square and 1
abbrev pub is_small : ℤ → Bool
is_small z = nat_le (unsigned_abs z) 1

-- A power. Above 127 only those of -1, 0 and 1 are within the range, so that no larger number is ever computed; `power_is_exact`
-- says that it is the exact power, where that is within the range.
abbrev pub power : ℤ → ℕ → Result ℤ NumFault
power a n =
    if is_small a then (if n == 0 then Ok (pos 1) else if n % 2 == 0 then Ok (pos (unsigned_abs a)) else Ok a)
    else if nat_le n 127 then in_range (int_pow a n)
    else Err Overflow

abbrev pub powered : ℤ → ℤ → Result ℤ NumFault
powered a (pos n) = power a n
powered a (negsuc n) = Err NegativePower

-- the 128 bits of a number, and the number of 128 bits
abbrev pub bits_of : ℤ → ℕ
bits_of (pos n) = n
bits_of (negsuc n) = 2 ^ 128 - suc n

abbrev pub of_bits : ℕ → ℤ
of_bits u = if nat_lt u (2 ^ 127) then pos u else neg_ℤ (pos (2 ^ 128 - u))

-- what an operation answers
abbrev pub apply : IntOp → ℤ → ℤ → Result ℤ NumFault
apply Add a b = in_range (a +ℤ b)
apply Subtract a b = in_range (a -ℤ b)
apply Multiply a b = in_range (a *ℤ b)
apply FloorDivide a b = divided b (floor_divide a b)
apply Remainder a b = divided b (int_rem a b)
apply Mod a b = divided b (modulo a b)
apply Pow a b = powered a b
apply And a b = Ok (of_bits (bit_and (bits_of a) (bits_of b)))
apply Or a b = Ok (of_bits (bit_or (bits_of a) (bits_of b)))
apply Xor a b = Ok (of_bits (bit_xor (bits_of a) (bits_of b)))
