-- The numbers of rows of digits.
use Rattle.std.proofs.Common.{◌≡◌, ◌<◌, ◌+◌, ◌*◌, ◌&&◌, ℕ, List, [], ◌∷◌, true, false, refl, ap, None, length, get_or, take, arith}
use Rattle.std.specs.Int.{IsInRange}
use Rattle.std.specs.List.{list_all}
use Rattle.std.specs.Char.{is_ascii_digit}
use Rattle.std.proofs.Math.Bool.{and-false}
use Rattle.std.specs.Str.{all_ascii_digits}
use Rattle.std.specs.Str.Parse.{digits_value}
use Rattle.std.proofs.lemmas.Bool.Decides.{nat_tests}
use Rattle.std.proofs.lemmas.Int.Digits.{digits_value_more}
use Rattle.std.proofs.lemmas.Str.{digit_value_digit}
use Rattle.std.proofs.lemmas.Str.Parse.{IsNumeralModel, numerals_by_value, tells_all_ascii_digits, digit_at, digits_value-take-le}
use Rattle.ev_integer.specs.Numerals.{greatest, number_of}

own : IsNumeralModel (λ ds. all_ascii_digits ds ≡ true) (digits_value 10)
own = numerals_by_value _ tells_all_ascii_digits

-- a byte of a row of digits is a digit
pub digit_in_row : (ds : List ℕ) (i : ℕ) → all_ascii_digits ds ≡ true → i < length ds → IsInRange 48 57 (get_or ds i 0)
digit_in_row ds i all lt = digit_at ds i (own.to ds all) lt

-- the number of one digit more
pub value_more : (ds : List ℕ) (i : ℕ) → all_ascii_digits ds ≡ true → i < length ds
    → digits_value 10 (take (i + 1) ds) + 48 ≡ 10 * digits_value 10 (take i ds) + get_or ds i 0
value_more ds i all lt =
    let digit = digit_value_digit (get_or ds i 0) (digit_in_row ds i all lt) in
    omega (arith, digits_value_more 10 ds i lt, digit)

-- a row whose front is too large has no number
pub number_of-large : (ds : List ℕ) (i : ℕ) → greatest < digits_value 10 (take i ds) → number_of ds ≡ None
number_of-large ds i large =
    let more : greatest < digits_value 10 ds = omega (arith, digits_value-take-le 10 ds i (omega arith)) in
    grind (arith, nat_tests)

pub all_are_digits : (xs : List ℕ) → list_all is_ascii_digit xs ≡ all_ascii_digits xs
all_are_digits [] = refl
all_are_digits (x ∷ xs) = ap (λ b. is_ascii_digit x && b) (all_are_digits xs)

pub number_of_other : (xs : List ℕ) → all_ascii_digits xs ≡ false → number_of xs ≡ None
number_of_other xs h = simp (h, and-false)
