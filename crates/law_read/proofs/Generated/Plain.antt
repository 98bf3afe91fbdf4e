-- Bytes that JSON writes as they are.
use Rattle.std.proofs.Common.{◌≡◌, ◌≢◌, ◌<◌, ◌≤◌, ◌==◌, ◌^◌, inl, inr, ℕ, zero, suc, Bool, true, false, not, ◌&&◌, ◌||◌, nat_lt, List, [], ◌∷◌, ◌++◌, decimal, refl, sym, ap₂, subst, arith}
use Rattle.std.specs.Prelude.{nat_le}
use Rattle.std.specs.Char.{is_ascii_digit}
use Rattle.std.specs.Str.{all_ascii_digits}
use Rattle.std.specs.Str.Parse.{digits_value}
use Rattle.std.proofs.lemmas.Bool.{and_parts, cases_eq}
use Rattle.std.proofs.lemmas.Bool.Decides.{nat_tests}
use Rattle.std.proofs.lemmas.Fmt.{digits_decimal, digits_value-decimal}
use Rattle.std.proofs.lemmas.Str.Parse.{numerals_by_value, tells_all_ascii_digits}
use Rattle.json.specs.Print.{escape_byte, escape}
use Rattle.json.proofs.Printed.Strings.{escape_byte_plain}
use Rattle.json.proofs.Printed.Utf8.{are_ascii}

abbrev pub is_plain : ℕ → Bool
is_plain x = nat_le 32 x && (not (x == 34) && (not (x == 92) && nat_lt x 128))

abbrev pub are_plain : List ℕ → Bool
are_plain [] = true
are_plain (x ∷ xs) = is_plain x && are_plain xs

pub both : (a b : Bool) → a ≡ true → b ≡ true → (a && b) ≡ true
both true true p q = refl
both true false p q = q
both false b p q = cc

-- ---- two lists

pub plain_append : (xs ys : List ℕ) → are_plain xs ≡ true → are_plain ys ≡ true → are_plain (xs ++ ys) ≡ true
plain_append [] ys p q = q
plain_append (x ∷ xs) ys p q = let h = and_parts (is_plain x) (are_plain xs) p in both (is_plain x) (are_plain (xs ++ ys)) h.0 (plain_append xs ys h.1 q)

-- ---- what a plain byte is

other_than : (x y : ℕ) → not (y == y) ≡ false → not (x == y) ≡ true → x ≢ y
other_than x y same differs e = let h : not (y == y) ≡ true = subst (λ (z : ℕ). not (z == y) ≡ true) e differs in cc

small : (x : ℕ) → is_plain x ≡ true → nat_lt x 128 ≡ true
small x h =
    let a = and_parts (nat_le 32 x) (not (x == 34) && (not (x == 92) && nat_lt x 128)) h in
    let b = and_parts (not (x == 34)) (not (x == 92) && nat_lt x 128) a.1 in
    (and_parts (not (x == 92)) (nat_lt x 128) b.1).1

at_least : (x : ℕ) → nat_le 32 x ≡ true → 32 ≤ x
at_least x h = grind (arith, nat_tests)

escaped_plain : (x : ℕ) → is_plain x ≡ true → escape_byte x ≡ x ∷ []
escaped_plain x h =
    let a = and_parts (nat_le 32 x) (not (x == 34) && (not (x == 92) && nat_lt x 128)) h in
    let b = and_parts (not (x == 34)) (not (x == 92) && nat_lt x 128) a.1 in
    let c = and_parts (not (x == 92)) (nat_lt x 128) b.1 in
    escape_byte_plain x (other_than x 34 refl b.0) (other_than x 92 refl c.0) (at_least x a.0)

pub escape_plain : (xs : List ℕ) → are_plain xs ≡ true → escape xs ≡ xs
escape_plain [] h = refl
escape_plain (x ∷ xs) h =
    let p = and_parts (is_plain x) (are_plain xs) h in ap₂ (λ (a b : List ℕ). a ++ b) (escaped_plain x p.0) (escape_plain xs p.1)

pub ascii_plain : (xs : List ℕ) → are_plain xs ≡ true → are_ascii xs ≡ true
ascii_plain [] h = refl
ascii_plain (x ∷ xs) h =
    let p = and_parts (is_plain x) (are_plain xs) h in both (nat_lt x 128) (are_ascii xs) (small x p.0) (ascii_plain xs p.1)

-- ---- numbers below a bound

abbrev pub below : (ℕ → Bool) → ℕ → Bool
below f zero = true
below f (suc n) = f n && below f n

pub at_below : (f : ℕ → Bool) (n : ℕ) → below f n ≡ true → (x : ℕ) → x < n → f x ≡ true
at_below f zero h x less = absurd (omega (arith, less))
at_below f (suc n) h x less =
    let p = and_parts (f n) (below f n) h in
    elim (cases_eq x n) [ inl same ↦ subst (λ (y : ℕ). f y ≡ true) (sym same) p.0 | inr other ↦ at_below f n p.1 x (omega arith) ]

-- ---- digits

abbrev digit_plain : ℕ → Bool
digit_plain x = not (is_ascii_digit x) || is_plain x

digits_below : below digit_plain 58 ≡ true
digits_below = refl

digit_is : (c : ℕ) → is_ascii_digit c ≡ true → c < 58
digit_is c h = let p = and_parts (nat_le 48 c) (nat_le c 57) h in let q = p.1 in grind (arith, nat_tests)

chosen_or : (a b : Bool) → a ≡ true → (not a || b) ≡ true → b ≡ true
chosen_or true b p q = q
chosen_or false b p q = cc

digits_plain : (cs : List ℕ) → all_ascii_digits cs ≡ true → are_plain cs ≡ true
digits_plain [] h = refl
digits_plain (c ∷ cs) h =
    let p = and_parts (is_ascii_digit c) (all_ascii_digits cs) h in
    both (is_plain c) (are_plain cs) (chosen_or (is_ascii_digit c) (is_plain c) p.0 (at_below digit_plain 58 digits_below c (digit_is c p.0))) (digits_plain cs p.1)

pub decimal_digits : (n : ℕ) → n < 2 ^ 64 → all_ascii_digits (decimal n) ≡ true
decimal_digits n h = digits_decimal (numerals_by_value (λ ds. all_ascii_digits ds ≡ true) tells_all_ascii_digits) n h

pub decimal_value : (n : ℕ) → n < 2 ^ 64 → digits_value 10 (decimal n) ≡ n
decimal_value n h = digits_value-decimal (numerals_by_value (λ ds. all_ascii_digits ds ≡ true) tells_all_ascii_digits) n h

pub decimal_plain : (n : ℕ) → n < 2 ^ 64 → are_plain (decimal n) ≡ true
decimal_plain n h = digits_plain (decimal n) (decimal_digits n h)
