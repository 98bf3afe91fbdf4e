-- Pieces of a line without a line feed.
use Rattle.std.proofs.Common.{◌≡◌, ℕ, zero, suc, ◌+◌, ◌-◌, ◌/◌, ◌%◌, ◌<◌, ◌&&◌, cond, eqb, ltb, leb, not, Bool, true, false, ℤ, pos, negsuc, List, [], ◌∷◌, ◌++◌, refl, sym, ◌∙◌, ap, subst, arith}
use Rattle.std.specs.Prelude.{decimal, chars, take, length}
use Rattle.std.specs.List.{flat_map, list_all}
use Rattle.std.specs.Char.{digit_char, encode_utf8}
use Rattle.std.specs.Fmt.{digit_glyph, digits_onto, digits, signed_decimal}
use Rattle.std.specs.Str.{IsUtf8, encode_utf8_all}
use Rattle.std.proofs.lemmas.Bool.{and_parts, eqb-true}
use Rattle.std.proofs.lemmas.Bool.Decides.{nat_tests}
use Rattle.std.proofs.lemmas.List.Folds.{list_all-append}
use Rattle.std.proofs.lemmas.Str.{encodes-chars}
use Rattle.def_text.specs.Quoting.{by_number, escaped, quoted, escaped_character, quoted_character, shown_length, shortened}
use Rattle.def_text.specs.Keywords.{begins_identifier, continues_identifier, has_identifier_form, is_identifier, printed_verb}
use Rattle.law_text.proofs.Text.Front.{both_true}
use Rattle.law_text.specs.Text.Feeds.{IsOneLine}

-- no line feed
abbrev pub plain : ℕ → Bool
plain c = not (eqb c 10)

pub line_cons : (c : ℕ) (cs : List ℕ) → plain c ≡ true → IsOneLine cs → IsOneLine (c ∷ cs)
line_cons c cs h k = both_true (plain c) (list_all plain cs) h k

pub line_append : (xs ys : List ℕ) → IsOneLine xs → IsOneLine ys → IsOneLine (xs ++ ys)
line_append xs ys h k = list_all-append plain xs ys ∙ both_true (list_all plain xs) (list_all plain ys) h k

pub above : (c : ℕ) → 10 < c → plain c ≡ true
above c h = grind (arith, nat_tests)

differs : (c : ℕ) (p : ℕ → Bool) → p 10 ≡ false → p c ≡ true → plain c ≡ true
differs c p at is = by (eqb c 10) refl
  where
    true_false : true ≡ false → ⊥
    true_false e = cc

    by : (b : Bool) → eqb c 10 ≡ b → not b ≡ true
    by true e = absurd (true_false (sym is ∙ ap p (eqb-true c 10 e) ∙ at))
    by false e = refl

-- ---- by cases

pub pick_line : (t : Bool) (xs ys : List ℕ) → (t ≡ true → IsOneLine xs) → (t ≡ false → IsOneLine ys) → IsOneLine (cond t xs ys)
pick_line true xs ys h k = h refl
pick_line false xs ys h k = k refl

pick_above : (t : Bool) (x y : ℕ) → 10 < x → 10 < y → 10 < cond t x y
pick_above true x y h k = h
pick_above false x y h k = k

pub flat_line : {A : Type 0} (f : A → List ℕ) (xs : List A) → ((x : A) → IsOneLine (f x)) → IsOneLine (flat_map f xs)
flat_line f [] h = refl
flat_line f (x ∷ xs) h = line_append (f x) (flat_map f xs) (h x) (flat_line f xs h)

-- ---- numbers

glyph_above : (d : ℕ) → 10 < digit_glyph false d
glyph_above d = pick_above (ltb d 10) (48 + d) (87 + d) (omega arith) (omega arith)

onto_line : (k base n : ℕ) (acc : List ℕ) → IsOneLine acc → IsOneLine (digits_onto k base false n acc)
onto_line zero base n acc h = h
onto_line (suc k) base n acc h =
    let one : IsOneLine (digit_glyph false (n % base) ∷ acc) = line_cons (digit_glyph false (n % base)) acc (above (digit_glyph false (n % base)) (glyph_above (n % base))) h in
    pick_line (eqb (n / base) 0) (digit_glyph false (n % base) ∷ acc) (digits_onto k base false (n / base) (digit_glyph false (n % base) ∷ acc)) (λ e. one) (λ e. onto_line k base (n / base) (digit_glyph false (n % base) ∷ acc) one)

pub decimal_line : (n : ℕ) → IsOneLine (decimal n)
unfolding digits
decimal_line n = onto_line 64 10 n [] refl

pub signed_line : (z : ℤ) → IsOneLine (signed_decimal z)
signed_line (pos n) = decimal_line n
signed_line (negsuc n) = line_cons 45 (decimal (suc n)) refl (decimal_line (suc n))

pub digit_line : (d : ℕ) → plain (digit_char d) ≡ true
digit_line d = above (digit_char d) (pick_above (ltb d 10) (48 + d) (87 + d) (omega arith) (omega arith))

-- ---- texts and characters

number_line : (c : ℕ) → IsOneLine (by_number c)
number_line c = line_cons (digit_char (c / 16)) (digit_char (c % 16) ∷ []) (digit_line (c / 16)) (line_cons (digit_char (c % 16)) [] (digit_line (c % 16)) refl)

itself : (b : ℕ) → eqb b 10 ≡ false → IsOneLine (b ∷ [])
itself b e = line_cons b [] (ap not e) refl

escaped_line : (b : ℕ) → IsOneLine (escaped b)
escaped_line b =
    pick_line (eqb b 10) _ _ (λ e. refl) (λ no.
    pick_line (eqb b 9) _ _ (λ e. refl) (λ e.
    pick_line (eqb b 13) _ _ (λ e. refl) (λ e.
    pick_line (eqb b 92) _ _ (λ e. refl) (λ e.
    pick_line (eqb b 34) _ _ (λ e. refl) (λ e.
    pick_line (ltb b 32) _ _ (λ e. number_line b) (λ e. itself b no))))))

pub quoted_line : (text : List ℕ) → IsOneLine (quoted text)
quoted_line text = line_cons 34 (flat_map escaped text ++ 34 ∷ []) refl (line_append (flat_map escaped text) (34 ∷ []) (flat_line escaped text escaped_line) refl)

-- a byte that goes on with a character
abbrev further : ℕ → List ℕ → List ℕ
further bits bs = (128 + bits % 64) ∷ bs

high : (b : ℕ) (bs : List ℕ) → 10 < b → IsOneLine bs → IsOneLine (b ∷ bs)
high b bs h k = line_cons b bs (above b h) k

further_line : (bits : ℕ) (bs : List ℕ) → IsOneLine bs → IsOneLine (further bits bs)
further_line bits bs h = high (128 + bits % 64) bs (omega arith) h

pub encode_line : (c : ℕ) → plain c ≡ true → IsOneLine (encode_utf8 c)
unfolding encode_utf8
encode_line c h =
    pick_line (ltb c 128) (c ∷ []) (cond (ltb c 2048) two (cond (ltb c 65536) three four)) (λ e. line_cons c [] h refl)
    (λ e. pick_line (ltb c 2048) two (cond (ltb c 65536) three four) (λ f. high (192 + c / 64) (further c []) (omega arith) (further_line c [] refl))
    (λ f. pick_line (ltb c 65536) three four
    (λ g. high (224 + c / 4096) (further (c / 64) (further c [])) (omega arith) (further_line (c / 64) (further c []) (further_line c [] refl)))
    (λ g. high (240 + c / 262144) (further (c / 4096) (further (c / 64) (further c []))) (omega arith) (further_line (c / 4096) (further (c / 64) (further c [])) (further_line (c / 64) (further c []) (further_line c [] refl))))))
  where
    two : List ℕ
    two = (192 + c / 64) ∷ further c []

    three : List ℕ
    three = (224 + c / 4096) ∷ further (c / 64) (further c [])

    four : List ℕ
    four = (240 + c / 262144) ∷ further (c / 4096) (further (c / 64) (further c []))

wide_plain : (c : ℕ) → ltb c 128 ≡ false → plain c ≡ true
wide_plain c e = grind (arith, nat_tests)

character_line : (c : ℕ) → IsOneLine (escaped_character c)
character_line c = pick_line (ltb c 128) (escaped c) (encode_utf8 c) (λ e. escaped_line c) (λ e. encode_line c (wide_plain c e))

pub quoted_character_line : (c : ℕ) → IsOneLine (quoted_character c)
quoted_character_line c = line_cons 39 (cond (eqb c 39) (92 ∷ 39 ∷ []) (escaped_character c) ++ 39 ∷ []) refl
    (line_append (cond (eqb c 39) (92 ∷ 39 ∷ []) (escaped_character c)) (39 ∷ []) (pick_line (eqb c 39) (92 ∷ 39 ∷ []) (escaped_character c) (λ e. refl) (λ e. character_line c)) refl)

pub shortened_line : (text : List ℕ) → IsOneLine (shortened text)
shortened_line text = pick_line (leb (length (chars text)) shown_length) (quoted text) (quoted (encode_utf8_all (take shown_length (chars text))) ++ 43 ∷ decimal (length (chars text) - shown_length)) (λ e. quoted_line text)
    (λ e. line_append (quoted (encode_utf8_all (take shown_length (chars text)))) (43 ∷ decimal (length (chars text) - shown_length)) (quoted_line (encode_utf8_all (take shown_length (chars text)))) (line_cons 43 (decimal (length (chars text) - shown_length)) refl (decimal_line (length (chars text) - shown_length))))

-- ---- verbs

all_continue : (cs : List ℕ) → list_all continues_identifier cs ≡ true → IsOneLine (encode_utf8_all cs)
all_continue [] h = refl
all_continue (c ∷ cs) h = let both = and_parts (continues_identifier c) (list_all continues_identifier cs) h in
    line_append (encode_utf8 c) (encode_utf8_all cs) (encode_line c (differs c continues_identifier refl both.0)) (all_continue cs both.1)

form_line : (cs : List ℕ) → has_identifier_form cs ≡ true → IsOneLine (encode_utf8_all cs)
form_line [] h = refl
form_line (c ∷ cs) h = let both = and_parts (begins_identifier c) (list_all continues_identifier cs) h in
    line_append (encode_utf8 c) (encode_utf8_all cs) (encode_line c (differs c begins_identifier refl both.0)) (all_continue cs both.1)

first_of_three : (a b c : Bool) → (a && b && c) ≡ true → a ≡ true
first_of_three true b c h = refl
first_of_three false b c h = cc

pub verb_line : (verb : List ℕ) → IsUtf8 verb → IsOneLine (printed_verb verb)
verb_line verb utf8 = pick_line (is_identifier verb) verb (quoted verb)
    (λ e. subst IsOneLine (encodes-chars verb utf8) (form_line (chars verb) (first_of_three (has_identifier_form (chars verb)) _ _ e)))
    (λ e. quoted_line verb)
