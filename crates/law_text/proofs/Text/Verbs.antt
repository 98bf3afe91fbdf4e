-- Verbs are told by how they are printed.
use Rattle.std.proofs.Common.{◌≡◌, ℕ, ◌+◌, ◌*◌, ◌-◌, ◌/◌, ◌%◌, ◌<◌, ◌≤◌, ◌&&◌, cond, eqb, ltb, leb, Bool, true, false, List, [], ◌∷◌, ◌++◌, refl, sym, ◌∙◌, ap, subst, append_assoc, arith}
use Rattle.std.specs.Prelude.{chars, encode_utf8, encode_utf8_all, flat_map}
use Rattle.std.specs.List.{list_all}
use Rattle.std.specs.Char.{digit_char}
use Rattle.std.specs.Str.{IsUtf8}
use Rattle.std.proofs.lemmas.Bool.{and_parts, eqb-true}
use Rattle.std.proofs.lemmas.Bool.Decides.{nat_tests}
use Rattle.std.proofs.lemmas.Str.{encodes-chars}
use Rattle.def_text.specs.Quoting.{escaped, quoted}
use Rattle.def_text.specs.Keywords.{begins_identifier, continues_identifier, has_identifier_form, is_identifier, printed_verb}
use Rattle.law_text.proofs.Text.Front.{true_false, tail_is, cons_is}
use Rattle.law_text.proofs.Text.Quotes.{encoded}
use Rattle.law_text.proofs.Text.Reading.{differs, unmet}

-- ---- the first byte of what stands between quotes, and what is behind it

abbrev digit : ℕ → ℕ
digit c = cond (leb c 57) (c - 48) (c - 87)

abbrev Back : Type 0
Back = ℕ × List ℕ

abbrev by_digits : List ℕ → Back
by_digits (a ∷ b ∷ high ∷ low ∷ r) = (16 * digit high + digit low, r)
by_digits _ = (0, [])

abbrev by_letter : ℕ → List ℕ → Back
by_letter c r = cond (eqb c 110) (10, r) (cond (eqb c 116) (9, r) (cond (eqb c 114) (13, r) (cond (eqb c 92) (92, r) (cond (eqb c 34) (34, r) (by_digits r)))))

abbrev back : List ℕ → Back
back [] = (0, [])
back (c ∷ []) = (c, [])
back (c ∷ d ∷ r) = cond (eqb c 92) (by_letter d r) (c, d ∷ r)

low_digit : (d : ℕ) → ltb d 10 ≡ true → d < 10
low_digit d e = grind (arith, nat_tests)

high_digit : (d : ℕ) → ltb d 10 ≡ false → 10 ≤ d
high_digit d e = grind (arith, nat_tests)

low_byte : (d : ℕ) → d < 10 → leb (48 + d) 57 ≡ true
low_byte d h = grind (arith, nat_tests)

high_byte : (d : ℕ) → leb (87 + d) 57 ≡ false
high_byte d = grind (arith, nat_tests)

pick_number : (t : Bool) (m n k : ℕ) → (t ≡ true → m ≡ k) → (t ≡ false → n ≡ k) → cond t m n ≡ k
pick_number true m n k h g = h refl
pick_number false m n k h g = g refl

low_is : (d : ℕ) → d < 10 → digit (48 + d) ≡ d
low_is d h = pick_number (leb (48 + d) 57) (48 + d - 48) (48 + d - 87) d (λ e. omega arith) (λ e. absurd (true_false (sym (low_byte d h) ∙ e)))

high_is : (d : ℕ) → digit (87 + d) ≡ d
high_is d = pick_number (leb (87 + d) 57) (87 + d - 48) (87 + d - 87) d (λ e. absurd (true_false (sym e ∙ high_byte d))) (λ e. omega arith)

digit_by : (d : ℕ) (t : Bool) → ltb d 10 ≡ t → digit (cond t (48 + d) (87 + d)) ≡ d
digit_by d true e = low_is d (low_digit d e)
digit_by d false e = high_is d

digit_is : (d : ℕ) → digit (digit_char d) ≡ d
digit_is d = digit_by d (ltb d 10) refl

two_digits : (b high low : ℕ) → high ≡ b / 16 → low ≡ b % 16 → 16 * high + low ≡ b
two_digits b high low h l = omega arith

module _ (b : ℕ) (r : List ℕ) where
  pick : (t : Bool) (xs ys : List ℕ) → (t ≡ true → back (xs ++ r) ≡ (b, r)) → (t ≡ false → back (ys ++ r) ≡ (b, r)) → back (cond t xs ys ++ r) ≡ (b, r)
  pick true xs ys h k = h refl
  pick false xs ys h k = k refl

  known : (c : ℕ) → eqb b c ≡ true → ◌≡◌ {A = Back} (c, r) (b, r)
  known c e = ap (λ x. (x, r)) (sym (eqb-true b c e))

  numbered : back ((92 ∷ 117 ∷ 48 ∷ 48 ∷ digit_char (b / 16) ∷ digit_char (b % 16) ∷ []) ++ r) ≡ (b, r)
  numbered = ap (λ x. (x, r)) (two_digits b (digit (digit_char (b / 16))) (digit (digit_char (b % 16))) (digit_is (b / 16)) (digit_is (b % 16)))

plain_by : (t : Bool) (x y z : Back) → t ≡ false → y ≡ z → cond t x y ≡ z
plain_by true x y z e h = absurd (true_false e)
plain_by false x y z e h = h

plain_back : (b : ℕ) (r : List ℕ) → eqb b 92 ≡ false → back (b ∷ r) ≡ (b, r)
plain_back b [] e = refl
plain_back b (d ∷ r) e = plain_by (eqb b 92) (by_letter d r) (b, d ∷ r) (b, d ∷ r) e refl

back_escaped : (b : ℕ) (r : List ℕ) → back (escaped b ++ r) ≡ (b, r)
back_escaped b r = pick b r (eqb b 10) (92 ∷ 110 ∷ []) _ (λ e. known b r 10 e) (λ e1. pick b r (eqb b 9) (92 ∷ 116 ∷ []) _ (λ e. known b r 9 e) (λ e2. pick b r (eqb b 13) (92 ∷ 114 ∷ []) _ (λ e. known b r 13 e)
    (λ e3. pick b r (eqb b 92) (92 ∷ 92 ∷ []) _ (λ e. known b r 92 e) (λ slash. pick b r (eqb b 34) (92 ∷ 34 ∷ []) _ (λ e. known b r 34 e) (λ e5. pick b r (ltb b 32) _ (b ∷ []) (λ e. numbered b r) (λ e6. plain_back b r slash))))))

first_of : (a b : ℕ) (r q : List ℕ) → ◌≡◌ {A = Back} (a, r) (b, q) → a ≡ b
first_of a b r q e = ap (λ (x : Back). x.0) e

second_of : (a b : ℕ) (r q : List ℕ) → ◌≡◌ {A = Back} (a, r) (b, q) → r ≡ q
second_of a b r q e = ap (λ (x : Back). x.1) e

escaped_apart : (a b : ℕ) (r q : List ℕ) → escaped a ++ r ≡ escaped b ++ q → (a ≡ b) × (r ≡ q)
escaped_apart a b r q e = let both = sym (back_escaped a r) ∙ ap back e ∙ back_escaped b q in (first_of a b r q both, second_of a b r q both)

behind_quote : (xs : List ℕ) → [] ≡ xs ++ 34 ∷ [] → ⊥
behind_quote [] e = cc
behind_quote (x ∷ xs) e = cc

inside_told : (v w : List ℕ) → flat_map escaped v ++ 34 ∷ [] ≡ flat_map escaped w ++ 34 ∷ [] → v ≡ w
inside_told [] [] e = refl
inside_told [] (y ∷ w) e = absurd (behind_quote (flat_map escaped w) (second_of 34 y [] (flat_map escaped w ++ 34 ∷ []) (ap back (e ∙ append_assoc (escaped y) (flat_map escaped w) (34 ∷ [])) ∙ back_escaped y (flat_map escaped w ++ 34 ∷ []))))
inside_told (x ∷ v) [] e = absurd (behind_quote (flat_map escaped v) (second_of 34 x [] (flat_map escaped v ++ 34 ∷ []) (ap back (sym e ∙ append_assoc (escaped x) (flat_map escaped v) (34 ∷ [])) ∙ back_escaped x (flat_map escaped v ++ 34 ∷ []))))
inside_told (x ∷ v) (y ∷ w) e =
    let one = escaped_apart x y (flat_map escaped v ++ 34 ∷ []) (flat_map escaped w ++ 34 ∷ []) (sym (append_assoc (escaped x) (flat_map escaped v) (34 ∷ [])) ∙ e ∙ append_assoc (escaped y) (flat_map escaped w) (34 ∷ [])) in
    cons_is x y v w one.0 (inside_told v w one.1)

quoted_told : (v w : List ℕ) → quoted v ≡ quoted w → v ≡ w
quoted_told v w e = inside_told v w (tail_is 34 34 (flat_map escaped v ++ 34 ∷ []) (flat_map escaped w ++ 34 ∷ []) e)

-- ---- an identifier begins with no quote

abbrev quote_first : List ℕ → Bool
quote_first [] = false
quote_first (c ∷ cs) = eqb c 34

abbrev NoQuote : List ℕ → Type 0
NoQuote xs = quote_first xs ≡ false

none_append : (xs ys : List ℕ) → NoQuote xs → NoQuote ys → NoQuote (xs ++ ys)
none_append [] ys h k = k
none_append (x ∷ xs) ys h k = h

wide_differs : (x : ℕ) → 127 < x → eqb x 34 ≡ false
wide_differs x h = grind (arith, nat_tests)

by_test : (p : ℕ → Bool) → p 34 ≡ false → (c : ℕ) → p c ≡ true → NoQuote (encode_utf8 c)
by_test p fails c is = encoded NoQuote refl (λ x xs l k. wide_differs x l) c (λ low. unmet (eqb c 34) (differs c 34 p fails is))

all_continue : (cs : List ℕ) → list_all continues_identifier cs ≡ true → NoQuote (encode_utf8_all cs)
all_continue [] h = refl
all_continue (c ∷ cs) h = let both = and_parts (continues_identifier c) (list_all continues_identifier cs) h in
    none_append (encode_utf8 c) (encode_utf8_all cs) (by_test continues_identifier refl c both.0) (all_continue cs both.1)

no_form : (cs : List ℕ) → has_identifier_form cs ≡ true → NoQuote (encode_utf8_all cs)
no_form [] h = refl
no_form (c ∷ cs) h = let both = and_parts (begins_identifier c) (list_all continues_identifier cs) h in
    none_append (encode_utf8 c) (encode_utf8_all cs) (by_test begins_identifier refl c both.0) (all_continue cs both.1)

first_of_three : (a b c : Bool) → (a && b && c) ≡ true → a ≡ true
first_of_three true b c h = refl
first_of_three false b c h = cc

bare : (verb : List ℕ) → IsUtf8 verb → is_identifier verb ≡ true → NoQuote verb
bare verb utf8 e = subst NoQuote (encodes-chars verb utf8) (no_form (chars verb) (first_of_three (has_identifier_form (chars verb)) _ _ e))

told_by : (v w : List ℕ) (s t : Bool) → (s ≡ true → NoQuote v) → (t ≡ true → NoQuote w) → cond s v (quoted v) ≡ cond t w (quoted w) → v ≡ w
told_by v w true true h k e = e
told_by v w true false h k e = absurd (true_false (sym (ap quote_first e) ∙ h refl))
told_by v w false true h k e = absurd (true_false (ap quote_first e ∙ k refl))
told_by v w false false h k e = quoted_told v w e

pub verb_told : (v w : List ℕ) → IsUtf8 v → IsUtf8 w → printed_verb v ≡ printed_verb w → v ≡ w
verb_told v w h k e = told_by v w (is_identifier v) (is_identifier w) (bare v h) (bare w k) e
