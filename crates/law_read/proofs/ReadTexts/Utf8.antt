-- Pieces of lines are UTF-8.
use Rattle.std.proofs.Common.{◌≡◌, ◌++◌, ◌+◌, ◌-◌, ◌/◌, ◌%◌, ◌<◌, ◌&&◌, ℕ, zero, suc, Bool, true, false, cond, eqb, leb, ltb, List, [], ◌∷◌, length, take, refl, sym, subst, arith}
use lib.Utf8.{scalar, scalars}
use Rattle.std.specs.Prelude.{chars, decimal}
use Rattle.std.specs.List.{flat_map, list_all}
use Rattle.std.specs.Char.{IsScalar, digit_char, encode_utf8}
use Rattle.std.specs.Str.{IsAscii, IsUtf8, encode_utf8_all}
use Rattle.std.proofs.lemmas.Bool.{and_parts, ltb-true}
use Rattle.std.proofs.lemmas.Bool.Decides.{nat_tests}
use Rattle.std.proofs.lemmas.Str.{IsUtf8-append, IsUtf8-encode, IsUtf8-from_ascii, IsUtf8-nil, encodes-chars, scalars-chars}
use Rattle.def_text.specs.Quoting.{by_number, escaped, escaped_character, quoted, quoted_character, shortened, shown_length}
use Rattle.def_text.specs.Keywords.{is_identifier, printed_verb}
use Rattle.ev_text.proofs.QuotingLemmas.{escaped_first}
use Rattle.law_text.proofs.Text.Front.{both_true}
use Rattle.law_text.proofs.Text.Valued.{decimal_passes}

-- a byte of a word in ASCII
abbrev pub is_low : ℕ → Bool
is_low b = ltb b 128

all_low : (w : List ℕ) → list_all is_low w ≡ true → IsAscii w
all_low [] h i = omega arith
all_low (b ∷ w) h zero = ltb-true b 128 (and_parts (is_low b) (list_all is_low w) h).0
all_low (b ∷ w) h (suc i) = all_low w (and_parts (is_low b) (list_all is_low w) h).1 i

pub ascii : (w : List ℕ) → list_all is_low w ≡ true → IsUtf8 w
ascii w h = IsUtf8-from_ascii w (all_low w h)

digit_low : (d : ℕ) → d < 10 → is_low (48 + d) ≡ true
digit_low d h = grind (arith, nat_tests)

pub decimal_low : (n : ℕ) → list_all is_low (decimal n) ≡ true
decimal_low n = decimal_passes is_low digit_low n

pub pick_text : (t : Bool) (xs ys : List ℕ) → (t ≡ true → IsUtf8 xs) → (t ≡ false → IsUtf8 ys) → IsUtf8 (cond t xs ys)
pick_text true xs ys h k = h refl
pick_text false xs ys h k = k refl

-- ---- between quotes

pick_low : (t : Bool) (xs ys : List ℕ) → (t ≡ true → list_all is_low xs ≡ true) → (t ≡ false → list_all is_low ys ≡ true) → list_all is_low (cond t xs ys) ≡ true
pick_low true xs ys h k = h refl
pick_low false xs ys h k = k refl

hexadecimal_low : (d : ℕ) → d < 16 → is_low (digit_char d) ≡ true
hexadecimal_low d h = grind (arith, nat_tests)

number_low : (b : ℕ) → b < 32 → list_all is_low (by_number b) ≡ true
number_low b h =
    both_true (is_low (digit_char (b / 16))) (is_low (digit_char (b % 16)) && true) (hexadecimal_low (b / 16) (omega (arith, h)))
    (both_true (is_low (digit_char (b % 16))) true (hexadecimal_low (b % 16) (omega arith)) refl)

escaped_low : (b : ℕ) → is_low b ≡ true → list_all is_low (escaped b) ≡ true
escaped_low b h =
    pick_low (eqb b 10) _ _ (λ e. refl) (λ e.
    pick_low (eqb b 9) _ _ (λ e. refl) (λ e.
    pick_low (eqb b 13) _ _ (λ e. refl) (λ e.
    pick_low (eqb b 92) _ _ (λ e. refl) (λ e.
    pick_low (eqb b 34) _ _ (λ e. refl) (λ e.
    pick_low (ltb b 32) _ _ (λ f. number_low b (ltb-true b 32 f)) (λ f. both_true (is_low b) true h refl))))))

character_utf8 : (c : ℕ) → IsScalar c → IsUtf8 (escaped_character c)
character_utf8 c h = pick_text (ltb c 128) (escaped c) (encode_utf8 c) (λ e. ascii (escaped c) (escaped_low c e)) (λ e. IsUtf8-encode c h)

characters_utf8 : (cs : List ℕ) → scalars cs ≡ true → IsUtf8 (flat_map escaped (encode_utf8_all cs))
characters_utf8 [] h = IsUtf8-nil
characters_utf8 (c ∷ cs) h =
    let t = and_parts (scalar c) (scalars cs) h in
    subst IsUtf8 (sym (escaped_first c (encode_utf8_all cs) (encode_utf8_all (c ∷ cs)) refl)) (IsUtf8-append (escaped_character c) (flat_map escaped (encode_utf8_all cs)) (character_utf8 c t.0) (characters_utf8 cs t.1))

within : (b : ℕ) (w : List ℕ) → is_low b ≡ true → IsUtf8 w → IsUtf8 (b ∷ (w ++ b ∷ []))
within b w h u = let one = ascii (b ∷ []) (both_true (is_low b) true h refl) in IsUtf8-append (b ∷ []) (w ++ b ∷ []) one (IsUtf8-append w (b ∷ []) u one)

pub quoted_utf8 : (text : List ℕ) → IsUtf8 text → IsUtf8 (quoted text)
quoted_utf8 text u = within 34 (flat_map escaped text) refl (subst (λ t. IsUtf8 (flat_map escaped t)) (encodes-chars text u) (characters_utf8 (chars text) (scalars-chars text u)))

pub quoted_character_utf8 : (c : ℕ) → IsScalar c → IsUtf8 (quoted_character c)
quoted_character_utf8 c h = within 39 (cond (eqb c 39) (92 ∷ 39 ∷ []) (escaped_character c)) refl (pick_text (eqb c 39) (92 ∷ 39 ∷ []) (escaped_character c) (λ e. ascii (92 ∷ 39 ∷ []) refl) (λ e. character_utf8 c h))

first_scalars : (n : ℕ) (cs : List ℕ) → scalars cs ≡ true → scalars (take n cs) ≡ true
first_scalars zero [] h = refl
first_scalars zero (c ∷ cs) h = refl
first_scalars (suc n) [] h = refl
first_scalars (suc n) (c ∷ cs) h = let t = and_parts (scalar c) (scalars cs) h in both_true (scalar c) (scalars (take n cs)) t.0 (first_scalars n cs t.1)

pub shortened_utf8 : (text : List ℕ) → IsUtf8 text → IsUtf8 (shortened text)
shortened_utf8 text u =
    let first = take shown_length (chars text) in let more = decimal (length (chars text) - shown_length) in
    pick_text (leb (length (chars text)) shown_length) (quoted text) (quoted (encode_utf8_all first) ++ 43 ∷ more) (λ e. quoted_utf8 text u)
    (λ e. IsUtf8-append (quoted (encode_utf8_all first)) (43 ∷ more) (quoted_utf8 (encode_utf8_all first) (first, (first_scalars shown_length (chars text) (scalars-chars text u), refl))) (ascii (43 ∷ more) (decimal_low (length (chars text) - shown_length))))

pub verb_utf8 : (verb : List ℕ) → IsUtf8 verb → IsUtf8 (printed_verb verb)
verb_utf8 verb u = pick_text (is_identifier verb) verb (quoted verb) (λ e. u) (λ e. quoted_utf8 verb u)
