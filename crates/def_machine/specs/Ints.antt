-- The arithmetic of integers within 128 bits with a sign.
use Rattle.std.specs.Prelude.{ℕ, suc, ◌-◌, ◌%◌, ◌^◌, ℤ, pos, negsuc, ◌+ℤ◌, ◌-ℤ◌, ◌*ℤ◌, neg_ℤ, nat_abs, int_le, int_lt, int_div, int_rem, nat_le, nat_lt, Bool, true, false, ◌&&◌, ◌==◌, bit_and, bit_or, bit_xor, Result, Ok, Err, codes}
use Rattle.def_machine.specs.Values.{Words}

pub data IntOp : Type 0 where
  Add : IntOp
  Subtract : IntOp
  Multiply : IntOp
  FloorDivide : IntOp
  Remainder : IntOp
  Mod : IntOp
  Pow : IntOp
  And : IntOp
  Or : IntOp
  Xor : IntOp

unfoldable pub is_zero : ℤ → Bool
is_zero (pos n) = n == 0
is_zero (negsuc n) = false

unfoldable pub is_negative : ℤ → Bool
is_negative (pos n) = false
is_negative (negsuc n) = true

unfoldable pub same_int : ℤ → ℤ → Bool
same_int (pos m) (pos n) = m == n
same_int (negsuc m) (negsuc n) = m == n
same_int (pos m) (negsuc n) = false
same_int (negsuc m) (pos n) = false

unfoldable pub fits : ℤ → Bool
fits z = int_le (neg_ℤ (pos (2 ^ 127))) z && int_lt z (pos (2 ^ 127))

-- the number, where it is within the range
unfoldable pub in_range : ℤ → Result ℤ Words
in_range z = elim (fits z) [ true ↦ Ok z | false ↦ Err (codes "integer overflow") ]

-- the quotient rounded downwards, from that rounded to zero and its remainder
unfoldable pub floored : ℤ → ℤ → ℤ → ℤ
floored quotient rest b = elim (is_zero rest) [
  | true ↦ quotient
  | false ↦ elim (is_negative rest) [
    | true ↦ elim (is_negative b) [ true ↦ quotient | false ↦ quotient -ℤ pos 1 ]
    | false ↦ elim (is_negative b) [ true ↦ quotient -ℤ pos 1 | false ↦ quotient ]
  ]
]

unfoldable pub floor_divide : ℤ → ℤ → ℤ
floor_divide a b = floored (int_div a b) (int_rem a b) b

-- what a division answers, where the divisor is not 0
unfoldable pub divided : ℤ → ℤ → Result ℤ Words
divided b answer = elim (is_zero b) [ true ↦ Err (codes "zero divisor") | false ↦ in_range answer ]

-- a number to a power, by whether the power is even
unfoldable pub signed_power : Bool → ℤ → ℕ → ℤ
signed_power even (pos m) n = pos (m ^ n)
signed_power true (negsuc m) n = pos (suc m ^ n)
signed_power false (negsuc m) n = neg_ℤ (pos (suc m ^ n))

-- whether each power of it is one of it itself, its square and 1
unfoldable pub is_small : ℤ → Bool
is_small z = nat_le (nat_abs z) 1

-- above 127 only the powers of 0, 1 and -1 are within the range
unfoldable pub power : ℤ → ℕ → Result ℤ Words
power a n = elim (is_small a) [
  | true ↦ elim (n == 0) [ true ↦ Ok (pos 1) | false ↦ elim (n % 2 == 0) [ true ↦ Ok (pos (nat_abs a)) | false ↦ Ok a ] ]
  | false ↦ elim (nat_le n 127) [ true ↦ in_range (signed_power (n % 2 == 0) a n) | false ↦ Err (codes "integer overflow") ]
]

unfoldable pub powered : ℤ → ℤ → Result ℤ Words
powered a (pos n) = power a n
powered a (negsuc n) = Err (codes "negative power")

-- the 128 bits of a number, and the number of 128 bits
unfoldable pub bits_of : ℤ → ℕ
bits_of (pos n) = n
bits_of (negsuc n) = 2 ^ 128 - suc n

unfoldable pub of_bits : ℕ → ℤ
of_bits u = elim (nat_lt u (2 ^ 127)) [ true ↦ pos u | false ↦ neg_ℤ (pos (2 ^ 128 - u)) ]

unfoldable pub apply : IntOp → ℤ → ℤ → Result ℤ Words
apply Add a b = in_range (a +ℤ b)
apply Subtract a b = in_range (a -ℤ b)
apply Multiply a b = in_range (a *ℤ b)
apply FloorDivide a b = divided b (floor_divide a b)
apply Remainder a b = divided b (int_rem a b)
apply Mod a b = divided b (a -ℤ (b *ℤ floor_divide a b))
apply Pow a b = powered a b
apply And a b = Ok (of_bits (bit_and (bits_of a) (bits_of b)))
apply Or a b = Ok (of_bits (bit_or (bits_of a) (bits_of b)))
apply Xor a b = Ok (of_bits (bit_xor (bits_of a) (bits_of b)))

-- opens each definition of this file
unfoldable pub opened_ints : Unit {0}
unfolding is_zero is_negative same_int fits in_range floored floor_divide divided signed_power is_small power powered bits_of of_bits apply
opened_ints = tt
