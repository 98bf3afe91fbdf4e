-- What stands behind the mark of a gift that a hostile vat claimed tells its provider and its number.
use Rattle.std.proofs.Common.{◌≡◌, ℕ, zero, suc, ◌+◌, ◌*◌, ◌/◌, ◌%◌, ◌<◌, ◌^◌, true, List, [], ◌∷◌, ◌++◌, length, length-append, refl, sym, ◌∙◌, ap, arith}
use Rattle.std.specs.Prelude.{decimal}
use Rattle.std.specs.Char.{is_ascii_digit}
use Rattle.std.specs.Str.{all_ascii_digits}
use Rattle.std.specs.Str.Parse.{digits_value}
use Rattle.std.proofs.lemmas.Bool.{and_parts}
use Rattle.std.proofs.lemmas.Fmt.{decimal_is_IsNumeral}
use Rattle.std.proofs.lemmas.Nat.{div_below}
use Rattle.std.proofs.lemmas.Str.Parse.{IsNumeralModel, numerals_by_value, tells_all_ascii_digits}
use Rattle.def_event.specs.Lines.{hex, low_first}
use Rattle.law_text.proofs.Text.Front.{true_false, head_is, tail_is, cons_is}
use Rattle.law_text.proofs.Text.Hexed.{hex_told}

-- ---- a number in decimal has no colon

own : IsNumeralModel (λ ds. all_ascii_digits ds ≡ true) (digits_value 10)
own = numerals_by_value _ tells_all_ascii_digits

a_colon : (front behind : List ℕ) → all_ascii_digits (front ++ 58 ∷ behind) ≡ true → ⊥
a_colon [] behind e = true_false (sym e)
a_colon (c ∷ front) behind e = a_colon front behind (and_parts (is_ascii_digit c) (all_ascii_digits (front ++ 58 ∷ behind)) e).1

pub no_colon : (n : ℕ) (front behind : List ℕ) → n < 2 ^ 64 → decimal n ≡ front ++ 58 ∷ behind → ⊥
no_colon n front behind h e = a_colon front behind (sym (ap all_ascii_digits e) ∙ own.from (decimal n) (decimal_is_IsNumeral n h).0.1)

-- ---- two texts that end in as many bytes

too_long : (n : ℕ) (xs ys zs : List ℕ) → length xs ≡ length ys → xs ≡ n ∷ (zs ++ ys) → ⊥
too_long n xs ys zs l e = let m : length xs ≡ suc (length (zs ++ ys)) = ap length e in let k = length-append zs ys in absurd (omega (arith, l, m, k))

same_ends : (zs ws xs ys : List ℕ) → length xs ≡ length ys → zs ++ xs ≡ ws ++ ys → (zs ≡ ws) × (xs ≡ ys)
same_ends [] [] xs ys l e = (refl, e)
same_ends [] (b ∷ ws) xs ys l e = absurd (too_long b xs ys ws l e)
same_ends (a ∷ zs) [] xs ys l e = absurd (too_long a ys xs zs (sym l) (sym e))
same_ends (a ∷ zs) (b ∷ ws) xs ys l e =
    let more = same_ends zs ws xs ys l (tail_is a b (zs ++ xs) (ws ++ ys) e) in
    (cons_is a b zs ws (head_is a b (zs ++ xs) (ws ++ ys) e) more.0, more.1)

-- ---- numbers by their bytes

hex_length : (xs : List ℕ) → length (hex xs) ≡ 2 * length xs
hex_length [] = refl
hex_length (x ∷ xs) = let more = hex_length xs in omega (arith, more)

low_length : (k n : ℕ) → length (low_first k n) ≡ k
unfolding low_first
low_length zero n = refl
low_length (suc k) n = ap suc (low_length k (n / 256))

low_told : (k m n : ℕ) → m < 256 ^ k → n < 256 ^ k → low_first k m ≡ low_first k n → m ≡ n
unfolding low_first
low_told zero m n h l e = omega arith
low_told (suc k) m n h l e =
    let low : m % 256 ≡ n % 256 = head_is (m % 256) (n % 256) (low_first k (m / 256)) (low_first k (n / 256)) e in
    let high : m / 256 ≡ n / 256 =
    low_told k (m / 256) (n / 256) (div_below m 256 (256 ^ k) (omega arith) (omega arith)) (div_below n 256 (256 ^ k) (omega arith) (omega arith))
    (tail_is (m % 256) (n % 256) (low_first k (m / 256)) (low_first k (n / 256)) e) in
    omega (arith, low, high)

key_length : (n : ℕ) → length (hex (low_first 16 n)) ≡ 32
key_length n = let bytes = low_length 16 n in hex_length (low_first 16 n) ∙ (omega (arith, bytes))

-- a provider, a colon and the bytes of a number
pub provided_told : (zs ws : List ℕ) (m n : ℕ) → m < 2 ^ 128 → n < 2 ^ 128 → zs ++ 58 ∷ hex (low_first 16 m) ≡ ws ++ 58 ∷ hex (low_first 16 n) → (zs ≡ ws) × (m ≡ n)
provided_told zs ws m n h k e =
    let long : length (58 ∷ hex (low_first 16 m)) ≡ length (58 ∷ hex (low_first 16 n)) = ap suc (key_length m ∙ sym (key_length n)) in
    let same = same_ends zs ws (58 ∷ hex (low_first 16 m)) (58 ∷ hex (low_first 16 n)) long e in
    (same.0, low_told 16 m n h k (hex_told (low_first 16 m) (low_first 16 n) (tail_is 58 58 (hex (low_first 16 m)) (hex (low_first 16 n)) same.1)))
