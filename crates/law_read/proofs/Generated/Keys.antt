-- The key of a generated script, as 64 digits.
use Rattle.std.proofs.Common.{◌≡◌, ◌<◌, ◌+◌, ◌*◌, ◌/◌, ◌%◌, ◌==◌, ℕ, Bool, true, ◌&&◌, nat_lt, List, [], ◌∷◌, Some, None, if◌then◌else◌, length, refl, ap, ◌∙◌, arith}
use Rattle.std.specs.Prelude.{slice_index}
use Rattle.std.specs.List.{list_all}
use Rattle.std.proofs.lemmas.Bool.{and_parts}
use Rattle.std.proofs.lemmas.Bool.Decides.{nat_tests}
use Rattle.hex.specs.Hex.{encode_lower, encode_with, lower_digits}
use Rattle.ev_generate.specs.Generated.{generated_key}
use Rattle.ev_script.specs.Head.{hex_value, is_hex_digit, is_key, key_bytes, key_from}
use Rattle.law_read.proofs.Generated.Plain.{are_plain, at_below, below, both, is_plain}

-- ---- one byte

abbrev high : ℕ → ℕ
high b = slice_index lower_digits (b / 16)

abbrev low : ℕ → ℕ
low b = slice_index lower_digits (b % 16)

-- its digits are plain, are digits of a key, and tell it
abbrev told : ℕ → Bool
told b = (is_plain (high b) && is_plain (low b)) && ((is_hex_digit (high b) && is_hex_digit (low b)) && (16 * hex_value (high b) + hex_value (low b) == b))

told_below : below told 256 ≡ true
told_below = refl

told_byte : (b : ℕ) → b < 256 → told b ≡ true
told_byte b h = at_below told 256 told_below b h

same_value : (x y : ℕ) → (x == y) ≡ true → x ≡ y
same_value x y h = grind (arith, nat_tests)

value_told : (b : ℕ) → b < 256 → 16 * hex_value (high b) + hex_value (low b) ≡ b
value_told b h =
    let p = and_parts (is_plain (high b) && is_plain (low b)) ((is_hex_digit (high b) && is_hex_digit (low b)) && (16 * hex_value (high b) + hex_value (low b) == b)) (told_byte b h) in
    same_value (16 * hex_value (high b) + hex_value (low b)) b (and_parts (is_hex_digit (high b) && is_hex_digit (low b)) (16 * hex_value (high b) + hex_value (low b) == b) p.1).1

-- ---- bytes

abbrev are_bytes : List ℕ → Bool
are_bytes [] = true
are_bytes (b ∷ bs) = nat_lt b 256 && are_bytes bs

is_byte : (b : ℕ) → nat_lt b 256 ≡ true → b < 256
is_byte b h = grind (arith, nat_tests)

hex_plain : (bs : List ℕ) → are_bytes bs ≡ true → are_plain (encode_lower bs) ≡ true
unfolding encode_with
hex_plain [] h = refl
hex_plain (b ∷ bs) h =
    let p = and_parts (nat_lt b 256) (are_bytes bs) h in
    let t = and_parts (is_plain (high b) && is_plain (low b)) ((is_hex_digit (high b) && is_hex_digit (low b)) && (16 * hex_value (high b) + hex_value (low b) == b)) (told_byte b (is_byte b p.0)) in
    let q = and_parts (is_plain (high b)) (is_plain (low b)) t.0 in
    both (is_plain (high b)) (is_plain (low b) && are_plain (encode_lower bs)) q.0 (both (is_plain (low b)) (are_plain (encode_lower bs)) q.1 (hex_plain bs p.1))

hex_digits : (bs : List ℕ) → are_bytes bs ≡ true → list_all is_hex_digit (encode_lower bs) ≡ true
unfolding encode_with
hex_digits [] h = refl
hex_digits (b ∷ bs) h =
    let p = and_parts (nat_lt b 256) (are_bytes bs) h in
    let t = and_parts (is_plain (high b) && is_plain (low b)) ((is_hex_digit (high b) && is_hex_digit (low b)) && (16 * hex_value (high b) + hex_value (low b) == b)) (told_byte b (is_byte b p.0)) in
    let v = and_parts (is_hex_digit (high b) && is_hex_digit (low b)) (16 * hex_value (high b) + hex_value (low b) == b) t.1 in
    let q = and_parts (is_hex_digit (high b)) (is_hex_digit (low b)) v.0 in
    both (is_hex_digit (high b)) (is_hex_digit (low b) && list_all is_hex_digit (encode_lower bs)) q.0
    (both (is_hex_digit (low b)) (list_all is_hex_digit (encode_lower bs)) q.1 (hex_digits bs p.1))

-- ---- the key

rest_low : (n : ℕ) → n % 256 < 256
rest_low n = omega arith

byte_test : (n : ℕ) → nat_lt (n % 256) 256 ≡ true
byte_test n = let h = rest_low n in grind (arith, nat_tests)

key_are_bytes : (n : ℕ) → are_bytes (generated_key n) ≡ true
key_are_bytes n =
    both (nat_lt (n % 256) 256) _ (byte_test n) (both (nat_lt (n / 256 % 256) 256) _ (byte_test (n / 256))
    (both (nat_lt (n / 65536 % 256) 256) _ (byte_test (n / 65536)) (both (nat_lt (n / 16777216 % 256) 256) true (byte_test (n / 16777216)) refl)))

pub key_plain : (n : ℕ) → are_plain (encode_lower (generated_key n)) ≡ true
key_plain n = hex_plain (generated_key n) (key_are_bytes n)

-- a key of four bytes and zeros
abbrev four : ℕ → ℕ → ℕ → ℕ → List ℕ
four a b c d = a ∷ b ∷ c ∷ d ∷ 0 ∷ 0 ∷ 0 ∷ 0 ∷ 0 ∷ 0 ∷ 0 ∷ 0 ∷ 0 ∷ 0 ∷ 0 ∷ 0 ∷ 0 ∷ 0 ∷ 0 ∷ 0 ∷ 0 ∷ 0 ∷ 0 ∷ 0 ∷ 0 ∷ 0 ∷ 0 ∷ 0 ∷ 0 ∷ 0 ∷ 0 ∷ 0 ∷ []

four_bytes : (a b c d : ℕ) → a < 256 → b < 256 → c < 256 → d < 256 → key_bytes (encode_lower (four a b c d)) ≡ four a b c d
unfolding encode_with
four_bytes a b c d ha hb hc hd =
    ap (λ (x : ℕ). four x (16 * hex_value (high b) + hex_value (low b)) (16 * hex_value (high c) + hex_value (low c)) (16 * hex_value (high d) + hex_value (low d))) (value_told a ha)
    ∙ ap (λ (x : ℕ). four a x (16 * hex_value (high c) + hex_value (low c)) (16 * hex_value (high d) + hex_value (low d))) (value_told b hb)
    ∙ ap (λ (x : ℕ). four a b x (16 * hex_value (high d) + hex_value (low d))) (value_told c hc)
    ∙ ap (λ (x : ℕ). four a b c x) (value_told d hd)

four_long : (a b c d : ℕ) → (length (encode_lower (four a b c d)) == 64) ≡ true
unfolding encode_with
four_long a b c d = refl

pub key_read : (n : ℕ) → key_from (encode_lower (generated_key n)) ≡ Some (generated_key n)
key_read n =
    let text = encode_lower (generated_key n) in
    let digits : is_key text ≡ true =
    both (length text == 64) (list_all is_hex_digit text) (four_long (n % 256) (n / 256 % 256) (n / 65536 % 256) (n / 16777216 % 256)) (hex_digits (generated_key n) (key_are_bytes n)) in
    ap (λ (b : Bool). if b then Some (key_bytes text) else None) digits
    ∙ ap Some (four_bytes (n % 256) (n / 256 % 256) (n / 65536 % 256) (n / 16777216 % 256) (rest_low n) (rest_low (n / 256)) (rest_low (n / 65536)) (rest_low (n / 16777216)))
