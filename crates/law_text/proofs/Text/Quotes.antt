-- Texts, characters and verbs are words.
use Rattle.std.proofs.Common.{◌≡◌, ℕ, ◌+◌, ◌-◌, ◌/◌, ◌%◌, ◌<◌, ◌&&◌, cond, eqb, ltb, leb, Bool, true, false, List, [], ◌∷◌, ◌++◌, Option, Some, refl, sym, ◌∙◌, subst, arith}
use Rattle.std.specs.Prelude.{decimal, chars, take, length}
use Rattle.std.specs.List.{flat_map, list_all}
use Rattle.std.specs.Char.{digit_char, encode_utf8}
use Rattle.std.specs.Str.{IsUtf8, encode_utf8_all}
use Rattle.std.proofs.lemmas.Bool.{and_parts}
use Rattle.std.proofs.lemmas.Bool.Decides.{nat_tests}
use Rattle.std.proofs.lemmas.Str.{encodes-chars}
use Rattle.def_text.specs.Quoting.{by_number, escaped, quoted, escaped_character, quoted_character, shown_length, shortened}
use Rattle.def_text.specs.Keywords.{begins_identifier, continues_identifier, has_identifier_form, is_identifier, printed_verb}
use Rattle.law_text.specs.Text.Words.{Place, Outside, Inside, Escaping, Within, Shielding, behind, IsWord, ordinary}
use Rattle.law_text.proofs.Text.Reading.{Goes, goes_on, goes_first, passed, differs, six, letter_ordinary, word_append, word_cons, decimal_word}

-- between quotes of one kind, where a byte that is neither the quote nor a backslash stays there, and an escape comes back
record Quotes (at shield : Place) (quote : ℕ) : Type 0 where
  on : (c : ℕ) → eqb c quote ≡ false → eqb c 92 ≡ false → behind at c ≡ Some at
  slash : behind at 92 ≡ Some shield
  back : (c : ℕ) → behind shield c ≡ Some at

double : (d : ℕ) → Quotes (Inside d) (Escaping d) 34
double d = record {
  on = λ c a b. passed (Option Place) (eqb c 34) _ _ _ a (passed (Option Place) (eqb c 92) _ _ _ b refl);
  slash = refl;
  back = λ c. refl;
}

single : (d : ℕ) → Quotes (Within d) (Shielding d) 39
single d = record {
  on = λ c a b. passed (Option Place) (eqb c 39) _ _ _ a (passed (Option Place) (eqb c 92) _ _ _ b refl);
  slash = refl;
  back = λ c. refl;
}

pick : (t : Bool) (p q : Place) (xs ys : List ℕ) → (t ≡ true → Goes p xs q) → (t ≡ false → Goes p ys q) → Goes p (cond t xs ys) q
pick true p q xs ys h k = h refl
pick false p q xs ys h k = k refl

-- digits are neither quotes nor backslashes
pick_differs : (b : Bool) (x y k : ℕ) → (b ≡ true → eqb x k ≡ false) → (b ≡ false → eqb y k ≡ false) → eqb (cond b x y) k ≡ false
pick_differs true x y k h g = h refl
pick_differs false x y k h g = g refl

low_differs : (d k : ℕ) → k < 48 → eqb (48 + d) k ≡ false
low_differs d k h = grind (arith, nat_tests)

high_differs : (d k : ℕ) → k < 87 → eqb (87 + d) k ≡ false
high_differs d k h = grind (arith, nat_tests)

digit_no_quote : (d k : ℕ) → k < 48 → eqb (digit_char d) k ≡ false
digit_no_quote d k h = pick_differs (ltb d 10) (48 + d) (87 + d) k (λ e. low_differs d k h) (λ e. high_differs d k (omega arith))

low_no_slash : (d : ℕ) → ltb d 10 ≡ true → eqb (48 + d) 92 ≡ false
low_no_slash d e = grind (arith, nat_tests)

high_no_slash : (d : ℕ) → ltb d 10 ≡ false → eqb (87 + d) 92 ≡ false
high_no_slash d e = grind (arith, nat_tests)

digit_no_slash : (d : ℕ) → eqb (digit_char d) 92 ≡ false
digit_no_slash d = pick_differs (ltb d 10) (48 + d) (87 + d) 92 (low_no_slash d) (high_no_slash d)

module _ (at shield : Place) (quote : ℕ) (q : Quotes at shield quote) (low : quote < 48) where
  one_on : (c : ℕ) → eqb c quote ≡ false → eqb c 92 ≡ false → Goes at (c ∷ []) at
  one_on c a b = goes_first at at at c [] (q.on c a b) refl

  shielded : (c : ℕ) (cs : List ℕ) → Goes at cs at → Goes at (92 ∷ c ∷ cs) at
  shielded c cs h = goes_first at shield at 92 (c ∷ cs) q.slash (goes_first shield at at c cs (q.back c) h)

  digit_on : (d : ℕ) (cs : List ℕ) → Goes at cs at → Goes at (digit_char d ∷ cs) at
  digit_on d cs h = goes_first at at at (digit_char d) cs (q.on (digit_char d) (digit_no_quote d quote low) (digit_no_slash d)) h

  zero_differs : eqb 48 quote ≡ false
  zero_differs = low_differs 0 quote low

  numbered_on : (c : ℕ) → Goes at (by_number c) at
  numbered_on c = shielded 117 (48 ∷ 48 ∷ digit_char (c / 16) ∷ digit_char (c % 16) ∷ [])
      (goes_first at at at 48 (48 ∷ digit_char (c / 16) ∷ digit_char (c % 16) ∷ []) (q.on 48 zero_differs refl)
      (goes_first at at at 48 (digit_char (c / 16) ∷ digit_char (c % 16) ∷ []) (q.on 48 zero_differs refl)
      (digit_on (c / 16) (digit_char (c % 16) ∷ []) (digit_on (c % 16) [] refl))))

  -- what stands for a byte, where that is not the quote or has an escape
  escaped_on : (b : ℕ) → (eqb b 34 ≡ false → eqb b quote ≡ false) → Goes at (escaped b) at
  escaped_on b apart =
      pick (eqb b 10) at at _ _ (λ e. shielded 110 [] refl) (λ e.
      pick (eqb b 9) at at _ _ (λ e. shielded 116 [] refl) (λ e.
      pick (eqb b 13) at at _ _ (λ e. shielded 114 [] refl) (λ e.
      pick (eqb b 92) at at _ _ (λ e. shielded 92 [] refl) (λ slash.
      pick (eqb b 34) at at _ _ (λ e. shielded 34 [] refl) (λ e.
      pick (ltb b 32) at at _ _ (λ f. numbered_on b) (λ f. one_on b (apart e) slash))))))

  flat_on : (text : List ℕ) → ((b : ℕ) → Goes at (escaped b) at) → Goes at (flat_map escaped text) at
  flat_on [] h = refl
  flat_on (b ∷ bs) h = goes_on at at at (escaped b) (flat_map escaped bs) (h b) (flat_on bs h)

  wide_differs : (b k : ℕ) → 127 < b → k < 128 → eqb b k ≡ false
  wide_differs b k h l = grind (arith, nat_tests)

  wide_on : (b : ℕ) (bs : List ℕ) → 127 < b → Goes at bs at → Goes at (b ∷ bs) at
  wide_on b bs h k = goes_first at at at b bs (q.on b (wide_differs b quote h (omega arith)) (wide_differs b 92 h (omega arith))) k

-- the bytes of a character that is not of one byte, by what such a byte does
module _ (Q : List ℕ → Type 0) (none : Q []) (one : (b : ℕ) (bs : List ℕ) → 127 < b → Q bs → Q (b ∷ bs)) where
  pick_wide : (t : Bool) (xs ys : List ℕ) → (t ≡ true → Q xs) → (t ≡ false → Q ys) → Q (cond t xs ys)
  pick_wide true xs ys h k = h refl
  pick_wide false xs ys h k = k refl

  abbrev further : ℕ → List ℕ → List ℕ
  further bits bs = (128 + bits % 64) ∷ bs

  further_wide : (bits : ℕ) (bs : List ℕ) → Q bs → Q (further bits bs)
  further_wide bits bs h = one (128 + bits % 64) bs (omega arith) h

  pub encoded : (c : ℕ) → (ltb c 128 ≡ true → Q (c ∷ [])) → Q (encode_utf8 c)
  unfolding encode_utf8
  encoded c h =
      pick_wide (ltb c 128) (c ∷ []) (cond (ltb c 2048) two (cond (ltb c 65536) three four)) h
      (λ e. pick_wide (ltb c 2048) two (cond (ltb c 65536) three four) (λ f. one (192 + c / 64) (further c []) (omega arith) (further_wide c [] none))
      (λ f. pick_wide (ltb c 65536) three four
      (λ g. one (224 + c / 4096) (further (c / 64) (further c [])) (omega arith) (further_wide (c / 64) (further c []) (further_wide c [] none)))
      (λ g. one (240 + c / 262144) (further (c / 4096) (further (c / 64) (further c []))) (omega arith) (further_wide (c / 4096) (further (c / 64) (further c [])) (further_wide (c / 64) (further c []) (further_wide c [] none))))))
    where
      two : List ℕ
      two = (192 + c / 64) ∷ further c []

      three : List ℕ
      three = (224 + c / 4096) ∷ further (c / 64) (further c [])

      four : List ℕ
      four = (240 + c / 262144) ∷ further (c / 4096) (further (c / 64) (further c []))

pub quoted_word : (text : List ℕ) → IsWord (quoted text)
quoted_word text d = goes_first (Outside d) (Inside d) (Outside d) 34 (flat_map escaped text ++ 34 ∷ []) refl
    (goes_on (Inside d) (Inside d) (Outside d) (flat_map escaped text) (34 ∷ []) (flat_on (Inside d) (Escaping d) 34 (double d) (omega arith) text (λ b. escaped_on (Inside d) (Escaping d) 34 (double d) (omega arith) b (λ e. e))) refl)

true_false : (b : Bool) → b ≡ true → b ≡ false → ⊥
true_false b h k = let e : true ≡ false = sym h ∙ k in cc

character_on : (d c : ℕ) → eqb c 39 ≡ false → Goes (Within d) (escaped_character c) (Within d)
character_on d c apart = pick (ltb c 128) (Within d) (Within d) (escaped c) (encode_utf8 c) (λ e. escaped_on (Within d) (Shielding d) 39 (single d) (omega arith) c (λ f. apart))
    (λ e. encoded (λ bs. Goes (Within d) bs (Within d)) refl (λ b bs h k. wide_on (Within d) (Shielding d) 39 (single d) (omega arith) b bs h k) c (λ f. absurd (true_false (ltb c 128) f e)))

pub quoted_character_word : (c : ℕ) → IsWord (quoted_character c)
quoted_character_word c d = goes_first (Outside d) (Within d) (Outside d) 39 (cond (eqb c 39) (92 ∷ 39 ∷ []) (escaped_character c) ++ 39 ∷ []) refl
    (goes_on (Within d) (Within d) (Outside d) (cond (eqb c 39) (92 ∷ 39 ∷ []) (escaped_character c)) (39 ∷ [])
    (pick (eqb c 39) (Within d) (Within d) (92 ∷ 39 ∷ []) (escaped_character c) (λ e. refl) (λ e. character_on d c e)) refl)

pick_word : (t : Bool) (xs ys : List ℕ) → (t ≡ true → IsWord xs) → (t ≡ false → IsWord ys) → IsWord (cond t xs ys)
pick_word true xs ys h k = h refl
pick_word false xs ys h k = k refl

pub shortened_word : (text : List ℕ) → IsWord (shortened text)
shortened_word text = pick_word (leb (length (chars text)) shown_length) (quoted text) (quoted (encode_utf8_all (take shown_length (chars text))) ++ 43 ∷ decimal (length (chars text) - shown_length)) (λ e. quoted_word text)
    (λ e. word_append (quoted (encode_utf8_all (take shown_length (chars text)))) (43 ∷ decimal (length (chars text) - shown_length)) (quoted_word (encode_utf8_all (take shown_length (chars text))))
    (word_cons 43 (decimal (length (chars text) - shown_length)) refl (decimal_word (length (chars text) - shown_length))))

-- ---- verbs

wide_ordinary : (b : ℕ) → 127 < b → ordinary b ≡ true
wide_ordinary b h = letter_ordinary b (omega arith)

by_test : (p : ℕ → Bool) → p 10 ≡ false → p 32 ≡ false → p 34 ≡ false → p 39 ≡ false → p 91 ≡ false → p 93 ≡ false → (c : ℕ) → p c ≡ true → IsWord (encode_utf8 c)
by_test p a b e f g h c is = encoded IsWord (λ d. refl) (λ x xs l k. word_cons x xs (wide_ordinary x l) k) c
    (λ low. word_cons c [] (six c (differs c 10 p a is) (differs c 32 p b is) (differs c 34 p e is) (differs c 39 p f is) (differs c 91 p g is) (differs c 93 p h is)) (λ d. refl))

all_continue : (cs : List ℕ) → list_all continues_identifier cs ≡ true → IsWord (encode_utf8_all cs)
all_continue [] h = λ d. refl
all_continue (c ∷ cs) h = let both = and_parts (continues_identifier c) (list_all continues_identifier cs) h in
    word_append (encode_utf8 c) (encode_utf8_all cs) (by_test continues_identifier refl refl refl refl refl refl c both.0) (all_continue cs both.1)

form_word : (cs : List ℕ) → has_identifier_form cs ≡ true → IsWord (encode_utf8_all cs)
form_word [] h = cc
form_word (c ∷ cs) h = let both = and_parts (begins_identifier c) (list_all continues_identifier cs) h in
    word_append (encode_utf8 c) (encode_utf8_all cs) (by_test begins_identifier refl refl refl refl refl refl c both.0) (all_continue cs both.1)

first_of_three : (a b c : Bool) → (a && b && c) ≡ true → a ≡ true
first_of_three true b c h = refl
first_of_three false b c h = cc

pub verb_word : (verb : List ℕ) → IsUtf8 verb → IsWord (printed_verb verb)
verb_word verb utf8 = pick_word (is_identifier verb) verb (quoted verb)
    (λ e. subst IsWord (encodes-chars verb utf8) (form_word (chars verb) (first_of_three (has_identifier_form (chars verb)) _ _ e)))
    (λ e. quoted_word verb)
