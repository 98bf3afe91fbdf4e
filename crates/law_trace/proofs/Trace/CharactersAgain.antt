-- What is printed of characters is read again as a value.
use Rattle.std.proofs.Common.{◌≡◌, ◌<◌, ◌+◌, ◌*◌, ◌/◌, ◌%◌, ◌++◌, ◌&&◌, ℕ, Bool, true, false, cond, eqb, ltb, List, [], ◌∷◌, Option, Some, None, option_and_then, refl, sym, ◌∙◌, ap, subst, arith}
use Rattle.std.specs.Prelude.{option_map, slice_get, Result, Ok, Err}
use Rattle.std.specs.List.{list_all}
use Rattle.std.specs.Char.{IsScalar, digit_char, digit_value, encode_utf8}
use Rattle.std.specs.Str.{IsUtf8, bytes_eq, chars}
use Rattle.std.proofs.lemmas.Bool.{eqb-true, lt-ltb, ltb-true}
use Rattle.std.proofs.lemmas.Bool.Decides.{nat_tests}
use Rattle.std.proofs.lemmas.Slice.Eq.{bytes_eq-Decides}
use Rattle.std.proofs.lemmas.Str.{IsUtf8-append, IsUtf8-encode, chars_past_char, digit_value-digit_char, encode_ascii}
use lib.Utf8.{low_scalar}
use Rattle.def_text.specs.Quoting.{by_number, escaped, escaped_character, quoted_character}
use Rattle.def_event.specs.declared.shown.Shown.{Char}
use Rattle.ev_text.specs.Unquoting.{hexadecimal, numbered}
use Rattle.ev_script.specs.Script.{◌>>=◌}
use Rattle.ev_script.specs.Vats.{is_vat_name}
use Rattle.ev_trace_words.specs.Parts.{behind_mark, constant, primitive, split_at}
use Rattle.ev_trace_words.specs.Parts as parts
use Rattle.ev_trace_words.specs.Texts.{character, character_behind}
use Rattle.ev_trace_words.specs.Values.{quoted_value, value}
use Rattle.ev_trace_words.proofs.Printed.{split_again}
use Rattle.law_trace.specs.Trace.Laws.{CharactersAreReadAgain}
use Rattle.law_trace.proofs.Trace.IntegersAgain.{no_constant, numbered_by}
use Rattle.law_trace.proofs.Trace.TextsAgain.{no_name, no_primitive}

-- ---- the character behind the opening quote

pick : (c : ℕ) (t : Bool) (xs ys : List ℕ) → (t ≡ true → character_behind (xs ++ 39 ∷ []) ≡ Some c) → (t ≡ false → character_behind (ys ++ 39 ∷ []) ≡ Some c) → character_behind (cond t xs ys ++ 39 ∷ []) ≡ Some c
pick c true xs ys h k = h refl
pick c false xs ys h k = k refl

known : (c k : ℕ) → eqb c k ≡ true → ◌≡◌ {A = Option ℕ} (Some k) (Some c)
known c k e = ap Some (sym (eqb-true c k e))

-- by its number
abbrev digits : ℕ → ℕ → Option ℕ
digits u v = cond (true && true && ltb u 16 && ltb v 16) (Some (((0 * 16 + 0) * 16 + u) * 16 + v)) None

sum : (u v c : ℕ) → u * 16 + v ≡ c → ((0 * 16 + 0) * 16 + u) * 16 + v ≡ c
sum u v c e = omega arith

digits_are : (u v c : ℕ) → u < 16 → v < 16 → u * 16 + v ≡ c → digits u v ≡ Some c
digits_are u v c small less e =
    ap (λ t. cond (true && true && t && ltb v 16) (Some (((0 * 16 + 0) * 16 + u) * 16 + v)) None) (lt-ltb u 16 small)
    ∙ ap (λ t. cond t (Some (((0 * 16 + 0) * 16 + u) * 16 + v)) None) (lt-ltb v 16 less) ∙ ap Some (sum u v c e)

digits_of : (c : ℕ) → c < 32 → hexadecimal 48 48 (digit_char (c / 16)) (digit_char (c % 16)) ≡ Some c
digits_of c h =
    ap (λ u. digits u (digit_value (digit_char (c % 16)))) (digit_value-digit_char (c / 16) (omega arith))
    ∙ ap (digits (c / 16)) (digit_value-digit_char (c % 16) (omega arith)) ∙ digits_are (c / 16) (c % 16) c (omega arith) (omega arith) (omega arith)

by_number_back : (c : ℕ) → c < 32 → character_behind (by_number c ++ 39 ∷ []) ≡ Some c
by_number_back c h =
    ap (λ o. option_map (λ (found : ℕ × ℕ). found.0) (option_and_then numbered o)) (digits_of c h)
    ∙ ap (λ t. option_map (λ (found : ℕ × ℕ). found.0) (cond t (Some (c, 5)) None)) (low_scalar c (omega (arith, h)))

-- by itself
quote_utf8 : IsUtf8 (39 ∷ [])
quote_utf8 = subst IsUtf8 (encode_ascii 39 (omega arith)) (IsUtf8-encode 39 refl)

first_is : (c : ℕ) → IsScalar c → slice_get (chars (encode_utf8 c ++ 39 ∷ [])) 0 ≡ Some c
first_is c s = ap (λ cs. slice_get cs 0) (chars_past_char (encode_utf8 c ++ 39 ∷ []) (39 ∷ []) c (IsUtf8-append (encode_utf8 c) (39 ∷ []) (IsUtf8-encode c s) quote_utf8) refl)

abbrev NoSlash : List ℕ → Type 0
NoSlash [] = ⊥
NoSlash (b ∷ bs) = eqb b 92 ≡ false

no_slash : (xs : List ℕ) → NoSlash xs → character_behind (xs ++ 39 ∷ []) ≡ slice_get (chars (xs ++ 39 ∷ [])) 0
no_slash [] h = absurd h
no_slash (b ∷ bs) h = rw h refl

pick_slash : (t : Bool) (xs ys : List ℕ) → (t ≡ true → NoSlash xs) → (t ≡ false → NoSlash ys) → NoSlash (cond t xs ys)
pick_slash true xs ys h k = h refl
pick_slash false xs ys h k = k refl

high : (k x : ℕ) → 92 < k → eqb (k + x) 92 ≡ false
high k x h = grind (arith, nat_tests)

wide_first : (c : ℕ) → ltb c 128 ≡ false → NoSlash (encode_utf8 c)
unfolding encode_utf8
wide_first c e = pick_slash (ltb c 128) _ _ (λ t. absurd (no_true t)) (λ f. pick_slash (ltb c 2048) _ _ (λ g. high 192 _ (omega arith)) (λ g. pick_slash (ltb c 65536) _ _ (λ i. high 224 _ (omega arith)) (λ i. high 240 _ (omega arith))))
  where
    no_true : ltb c 128 ≡ true → ⊥
    no_true t = let both : true ≡ false = sym t ∙ e in cc

wide_back : (c : ℕ) → ltb c 128 ≡ false → IsScalar c → character_behind (encode_utf8 c ++ 39 ∷ []) ≡ Some c
wide_back c e s = no_slash (encode_utf8 c) (wide_first c e) ∙ first_is c s

plain_back : (c : ℕ) → ltb c 128 ≡ true → eqb c 92 ≡ false → IsScalar c → character_behind (c ∷ 39 ∷ []) ≡ Some c
plain_back c low slash s = no_slash (c ∷ []) slash ∙ subst (λ xs. slice_get (chars (xs ++ 39 ∷ [])) 0 ≡ Some c) (encode_ascii c (ltb-true c 128 low)) (first_is c s)

low_back : (c : ℕ) → ltb c 128 ≡ true → IsScalar c → character_behind (escaped c ++ 39 ∷ []) ≡ Some c
low_back c low s = pick c (eqb c 10) (92 ∷ 110 ∷ []) _ (known c 10) (λ n1. pick c (eqb c 9) (92 ∷ 116 ∷ []) _ (known c 9) (λ n2. pick c (eqb c 13) (92 ∷ 114 ∷ []) _ (known c 13)
    (λ n3. pick c (eqb c 92) (92 ∷ 92 ∷ []) _ (known c 92) (λ slash. pick c (eqb c 34) (92 ∷ 34 ∷ []) _ (known c 34) (λ n5. pick c (ltb c 32) (by_number c) (c ∷ []) (λ h. by_number_back c (ltb-true c 32 h)) (λ n6. plain_back c low slash s))))))

character_back : (c : ℕ) → IsScalar c → character_behind (cond (eqb c 39) (92 ∷ 39 ∷ []) (escaped_character c) ++ 39 ∷ []) ≡ Some c
character_back c s = pick c (eqb c 39) (92 ∷ 39 ∷ []) (escaped_character c) (known c 39) (λ n. pick c (ltb c 128) (escaped c) (encode_utf8 c) (λ low. low_back c low s) (λ e. wide_back c e s))

-- ---- the value

character_is : (word rest : List ℕ) (c : ℕ) → behind_mark 39 word ≡ Some rest → character_behind rest ≡ Some c → bytes_eq (quoted_character c) word ≡ true → character word ≡ Ok c
character_is word rest c q k e = rw q (rw k (ap (λ (t : Bool). cond {A = Result ℕ ℕ} t (Ok c) (Err 42)) e))

quoted_is : (names : List (List ℕ)) (word : List ℕ) → parts.numbered names 37 word ≡ None → parts.numbered names 38 word ≡ None → parts.plain names word ≡ None → value names word ≡ quoted_value word (behind_mark 39 word)
quoted_is names word l s p = rw l (rw s (rw p refl))

character_by : (names : List (List ℕ)) (word rest : List ℕ) (c : ℕ) → parts.numbered names 37 word ≡ None → parts.numbered names 38 word ≡ None → parts.plain names word ≡ None → behind_mark 39 word ≡ Some rest
    → character_behind rest ≡ Some c → bytes_eq (quoted_character c) word ≡ true → value names word ≡ Ok (Char c)
character_by names word rest c l s p q k e = quoted_is names word l s p ∙ ap (quoted_value word) q ∙ ap (λ (r : Result ℕ ℕ). r >>= (λ (d : ℕ). Ok (Char d))) (character_is word rest c q k e)

plain_by : (names : List (List ℕ)) (rest : List ℕ) → constant (39 ∷ rest) ≡ None → primitive (39 ∷ rest) ≡ None → parts.name names (39 ∷ rest) ≡ None → parts.plain names (39 ∷ rest) ≡ None
plain_by names rest c p n = rw c (rw p (rw n refl))

behind_quote : (rest : List ℕ) → behind_mark 39 (39 ∷ rest) ≡ Some rest
behind_quote rest = rw (split_again 39 [] rest refl) refl

read_again : (names : List (List ℕ)) (rest : List ℕ) (c : ℕ) → list_all is_vat_name names ≡ true → quoted_character c ≡ 39 ∷ rest → character_behind rest ≡ Some c → value names (39 ∷ rest) ≡ Ok (Char c)
read_again names rest c lawful is back =
    let word = 39 ∷ rest in
    character_by names word rest c (numbered_by names 37 word (split_at 37 word) refl lawful refl) (numbered_by names 38 word (split_at 38 word) refl lawful refl)
    (plain_by names rest (no_constant word refl refl refl) (no_primitive word refl) (no_name names word lawful refl refl)) (behind_quote rest) back ((bytes_eq-Decides (quoted_character c) word).1 is)

pub characters_again : CharactersAreReadAgain
characters_again names c are s = read_again names (cond (eqb c 39) (92 ∷ 39 ∷ []) (escaped_character c) ++ 39 ∷ []) c are.lawful refl (character_back c s)
