-- What the words of a surface tree stand for is within the bounds of the kernel: a text in UTF-8, a character, a number.
use Rattle.std.proofs.Common.{lit<, ◌≡◌, inl, inr, ⊎_elim, ℕ, zero, suc, ◌+◌, ◌-◌, ◌^◌, ◌<◌, ◌≤◌, Bool, true, false, ◌&&◌, ◌||◌, not, cond, eqb, List, [], ◌∷◌, ◌++◌, length, take, drop, slice_get, slice_index, slice_range, nat_le, nat_lt, Option, Some, None, option_map, Result, Ok, Err, pos, refl, sym, ◌∙◌, ap, subst, arith}
use Rattle.std.specs.Char.{IsScalar, encode_utf8}
use Rattle.std.specs.List.{prefix_len}
use Rattle.std.specs.Str.{IsUtf8, IsCharBoundary, chars, all_ascii_digits}
use Rattle.std.specs.Str.Parse.{digits_value}
use Rattle.std.proofs.Math.Utf8.{scalar, scalars, low_scalar}
use Rattle.std.proofs.lemmas.Bool.Decides.{nat_tests}
use Rattle.std.proofs.lemmas.Bool.{eqb-true}
use Rattle.std.proofs.lemmas.List.{length-drop}
use Rattle.std.proofs.lemmas.Option.{option_and_then_some, same_Some}
use Rattle.std.proofs.lemmas.Str.{IsUtf8-nil, IsUtf8-take, IsUtf8-drop, IsUtf8-append, IsUtf8-encode, IsUtf8-between, IsCharBoundary-after_ascii, scalars-chars}
use Rattle.def_syntax.specs.declared.token.Token.{Token}
use Rattle.def_syntax.specs.declared.syntax.Word.{Word}
use Rattle.def_kernel.specs.Trees.{IsInt}
use Rattle.ev_text.specs.Unquoting.{text_behind, unquoted, escape, by_digits, hexadecimal, numbered, named, with_front, closed, is_plain}
use Rattle.ev_text.proofs.UnquotingLemmas.{bool_cases, chosen, closing, no_escape, some_escapes, cut_behind, plain_front, cut_plain}
use Rattle.ev_integer.specs.Numerals.{greatest}
use Rattle.ev_desugar.specs.Words.{number_found, number, text_found, text, verb_behind, first_of, escape_text, character_behind, character}
use Rattle.ev_parser.specs.Surface.{is_boundary, token_text, word_text}

-- ---- a text

record Fronted (front : List ℕ) (r : Result (List ℕ) ℕ) (t : List ℕ) : Type 0 where
  rest : List ℕ
  found : r ≡ Ok rest
  is : front ++ rest ≡ t

ok_is : {A B : Type 0} (a b : A) → ◌≡◌ {A = Result A B} (Ok a) (Ok b) → a ≡ b
ok_is a b e = cc

fronted : (front : List ℕ) (r : Result (List ℕ) ℕ) (t : List ℕ) → with_front front r ≡ Ok t → Fronted front r t
fronted front (Ok s) t e = record { rest = s; found = refl; is = ok_is (front ++ s) t e }
fronted front (Err p) t e = absurd (cc)

named_low : (letter c : ℕ) → named letter ≡ Some c → c < 128
named_low letter c e = grind (arith, nat_tests)

numbered_scalar : (n : ℕ) (found : ℕ × ℕ) → numbered n ≡ Some found → IsScalar found.0
numbered_scalar n found e = elim (chosen (scalar n) _ _ (Some found) e) [
  | inl h ↦ subst (λ (c : ℕ). IsScalar c) (ap (λ (p : ℕ × ℕ). p.0) (same_Some _ _ h.1)) h.0
  | inr h ↦ absurd (cc)
]

digits_scalar : (more : List ℕ) (found : ℕ × ℕ) → by_digits more ≡ Some found → IsScalar found.0
digits_scalar (a ∷ b ∷ c ∷ d ∷ more) found e = option_and_then_some numbered (hexadecimal a b c d) found e (λ n at is. numbered_scalar n found is)
digits_scalar other found e = absurd (cc)

letter_scalar : (o : Option ℕ) (found : ℕ × ℕ) → ((c : ℕ) → o ≡ Some c → c < 128) → option_map (λ (c : ℕ). (c, 1)) o ≡ Some found → IsScalar found.0
letter_scalar None found low e = absurd (cc)
letter_scalar (Some c) found low e = subst (λ (x : ℕ). IsScalar x) (ap (λ (p : ℕ × ℕ). p.0) (same_Some _ _ e)) (low_scalar c (let l = low c refl in omega arith))

escape_scalar : (more : List ℕ) (found : ℕ × ℕ) → escape more ≡ Some found → IsScalar found.0
escape_scalar [] found e = absurd (cc)
escape_scalar (letter ∷ more) found e =
    ⊎_elim (λ h. digits_scalar more found h.1) (λ h. letter_scalar (named letter) found (named_low letter) h.1) (chosen (eqb letter 117) _ _ (Some found) e)

closed_empty : (place : ℕ) (more t : List ℕ) → closed place more ≡ Ok t → IsUtf8 t
closed_empty place [] t e = subst IsUtf8 (ok_is {B = ℕ} [] t e) IsUtf8-nil
closed_empty place (b ∷ more) t e = absurd (cc)

-- some bytes stand for themselves
some_plain : (b : ℕ) (more : List ℕ) → eqb b 34 ≡ false → eqb b 92 ≡ false → 0 < prefix_len is_plain (b ∷ more)
some_plain b more q s =
    let plain : is_plain b ≡ true = ap (λ (x : Bool). not x && not (eqb b 92)) q ∙ ap (λ (x : Bool). not x) s in
    subst (λ (t : Bool). 0 < cond t (1 + prefix_len is_plain more) 0) (sym plain) (omega arith)

-- what an escape stands for, and the text behind it
escape_utf8 : (b : ℕ) (more : List ℕ) (place : ℕ) (t : List ℕ) → eqb b 92 ≡ true → IsUtf8 (b ∷ more) → (o : Option (ℕ × ℕ)) → escape more ≡ o
    → ((rest : List ℕ) (p : ℕ) (s : List ℕ) → length rest ≤ length more → IsUtf8 rest → text_behind zero p rest ≡ Ok s → IsUtf8 s)
    → text_behind zero place (b ∷ more) ≡ Ok t → IsUtf8 t
escape_utf8 b more place t is u None e below d = absurd (let n = no_escape b place more (eqb-true b 92 is) e in cc)
escape_utf8 b more place t is u (Some found) e below d =
    let here : slice_get (b ∷ more) 0 ≡ Some 92 = ap (λ (x : ℕ). Some x) (eqb-true b 92 is) in
    let more_is = some_escapes (b ∷ more) (drop (1 + found.1) (b ∷ more)) found here e refl in
    let f = fronted (encode_utf8 found.0) _ t (sym (more_is.1 place) ∙ d) in
    let rest_utf8 = IsUtf8-drop (b ∷ more) (1 + found.1) u (cut_behind (b ∷ more) found u here e) in
    subst IsUtf8 f.is (IsUtf8-append (encode_utf8 found.0) f.rest (IsUtf8-encode found.0 (escape_scalar more found e)) (below (drop (1 + found.1) (b ∷ more)) _ f.rest (let l = more_is.0 in omega arith) rest_utf8 f.found))

behind_utf8 : (n : ℕ) (rest : List ℕ) (place : ℕ) (t : List ℕ) → length rest ≤ n → IsUtf8 rest → text_behind zero place rest ≡ Ok t → IsUtf8 t
unfolding text_behind
behind_utf8 n [] place t l u d = absurd (cc)
behind_utf8 zero (b ∷ more) place t l u d = absurd (omega arith)
behind_utf8 (suc n) (b ∷ more) place t l u d = elim (bool_cases (eqb b 34)) [
  | inl q ↦ closed_empty (suc place) more t (sym (closing b place more (eqb-true b 34 q)) ∙ d)
  | inr q ↦ elim (bool_cases (eqb b 92)) [
    | inl s ↦ escape_utf8 b more place t s u (escape more) refl (λ rest p x m v e. behind_utf8 n rest p x (omega arith) v e) d
    | inr s ↦
        let k : ℕ = prefix_len is_plain (b ∷ more) in
        let long : 0 < k = some_plain b more q s in
        let cuts : IsCharBoundary (b ∷ more) k = cut_plain (b ∷ more) k refl in
        let f = fronted (take k (b ∷ more)) _ t (sym ((plain_front (b ∷ more)).1 place) ∙ d) in
        subst IsUtf8 f.is (IsUtf8-append (take k (b ∷ more)) f.rest (IsUtf8-take (b ∷ more) k u cuts)
        (behind_utf8 n (drop k (b ∷ more)) _ f.rest (omega (arith, length-drop k (b ∷ more), l, long)) (IsUtf8-drop (b ∷ more) k u cuts) f.found))
  ]
]

-- behind a byte in ASCII
past_first : (b : ℕ) (more : List ℕ) → b < 128 → IsUtf8 (b ∷ more) → IsUtf8 more
past_first b more l u = IsUtf8-drop (b ∷ more) (0 + 1) u (IsCharBoundary-after_ascii (b ∷ more) 0 u (omega arith) l)

found_utf8 : (r : Result (List ℕ) ℕ) → ((t : List ℕ) → r ≡ Ok t → IsUtf8 t) → IsUtf8 (text_found r)
unfolding text_found
found_utf8 (Ok t) h = h t refl
found_utf8 (Err p) h = IsUtf8-nil

unquoted_utf8 : (x t : List ℕ) → IsUtf8 x → unquoted x ≡ Ok t → IsUtf8 t
unquoted_utf8 [] t u e = absurd (cc)
unquoted_utf8 (b ∷ more) t u e = elim (chosen (eqb b 34) _ _ (Ok t) e) [
  | inl h ↦ behind_utf8 (length more) more 1 t (omega arith) (past_first b more (let q : b ≡ 34 = eqb-true b 34 h.0 in omega arith) u) h.1
  | inr h ↦ absurd (cc)
]

pub text_utf8 : (x : List ℕ) → IsUtf8 x → IsUtf8 (text x)
unfolding text
text_utf8 x u = found_utf8 (unquoted x) (λ t e. unquoted_utf8 x t u e)

chosen_utf8 : (b : Bool) (x y : List ℕ) → IsUtf8 x → IsUtf8 y → IsUtf8 (cond b x y)
chosen_utf8 true x y u v = u
chosen_utf8 false x y u v = v

pub verb_utf8 : (x : List ℕ) → IsUtf8 x → IsUtf8 (verb_behind x)
unfolding verb_behind
verb_utf8 [] u = IsUtf8-nil
verb_utf8 (b ∷ more) u = chosen_utf8 (eqb b 34) (text (b ∷ more)) (b ∷ more) (text_utf8 (b ∷ more) u) u

-- ---- a character

and_first : (a b : Bool) → (a && b) ≡ true → a ≡ true
and_first true b e = refl
and_first false b e = e

first_scalar : (cs : List ℕ) → scalars cs ≡ true → IsScalar (first_of cs)
unfolding first_of
first_scalar [] e = low_scalar 0 (omega arith)
first_scalar (c ∷ cs) e = and_first (scalar c) (scalars cs) e

first_of_text : (x : List ℕ) → IsUtf8 x → IsScalar (first_of (chars x))
first_of_text x u = first_scalar (chars x) (scalars-chars x u)

quote_utf8 : IsUtf8 (34 ∷ [])
unfolding encode_utf8
quote_utf8 = IsUtf8-encode 34 (low_scalar 34 (omega arith))

escape_text_utf8 : (x : List ℕ) → IsUtf8 x → IsUtf8 (escape_text x)
unfolding escape_text
escape_text_utf8 x u = text_utf8 (34 ∷ (x ++ 34 ∷ [])) (IsUtf8-append (34 ∷ []) (x ++ 34 ∷ []) quote_utf8 (IsUtf8-append x (34 ∷ []) u quote_utf8))

chosen_scalar : (b : Bool) (c d : ℕ) → IsScalar c → IsScalar d → IsScalar (cond b c d)
chosen_scalar true c d h k = h
chosen_scalar false c d h k = k

behind_scalar : (x : List ℕ) → IsUtf8 x → IsScalar (character_behind x)
unfolding character_behind
behind_scalar [] u = low_scalar 0 (omega arith)
behind_scalar (b ∷ x) u = chosen_scalar (eqb b 92) (first_of (chars (escape_text (b ∷ x)))) (first_of (chars (b ∷ x))) (first_of_text (escape_text (b ∷ x)) (escape_text_utf8 (b ∷ x) u)) (first_of_text (b ∷ x) u)

character_chosen : (b : ℕ) (x : List ℕ) (t : Bool) → eqb b 39 ≡ t → IsUtf8 (b ∷ x) → IsScalar (cond t (character_behind x) 0)
character_chosen b x true e u = behind_scalar x (past_first b x (let q : b ≡ 39 = eqb-true b 39 e in omega arith) u)
character_chosen b x false e u = low_scalar 0 (omega arith)

pub character_scalar : (x : List ℕ) → IsUtf8 x → IsScalar (character x)
unfolding character
character_scalar [] u = low_scalar 0 (omega arith)
character_scalar (b ∷ x) u = character_chosen b x (eqb b 39) refl u

-- ---- a number

number_chosen : (b : Bool) (n : ℕ) → (b ≡ true → n < 2 ^ 127) → IsInt (number_found (cond b (Some (pos n)) None))
unfolding number_found
number_chosen true n h = h refl
number_chosen false n h = lit< tt

and_second : (a b : Bool) → (a && b) ≡ true → b ≡ true
and_second true b e = e
and_second false b e = absurd (cc)

le_is : (i j : ℕ) → nat_le i j ≡ true → i ≤ j
le_is i j e = grind (arith, nat_tests)

below_next : (n m : ℕ) → 0 < m → n ≤ m - 1 → n < m
below_next n m some h = omega arith

not_greater : (n : ℕ) → nat_le n greatest ≡ true → n < 2 ^ 127
not_greater n e = below_next n (2 ^ 127) (lit< tt) (le_is n greatest e)

pub number_int : (x : List ℕ) → IsInt (number x)
unfolding number
number_int x = number_chosen (nat_lt 0 (length x) && all_ascii_digits x && nat_le (digits_value 10 x) greatest) (digits_value 10 x)
    (λ e. not_greater (digits_value 10 x) (and_second (nat_lt 0 (length x) && all_ascii_digits x) (nat_le (digits_value 10 x) greatest) e))

-- ---- the text of a token

high_lead : (i n b : ℕ) → (not (nat_lt i n) || (nat_lt b 128 || nat_le 192 b)) ≡ true → i < n → 128 ≤ b → 192 ≤ b
high_lead i n b e l h = grind (arith, nat_tests)

cut_boundary : (s : List ℕ) (i : ℕ) → is_boundary s i ≡ true → IsCharBoundary s i
cut_boundary s i e = (
  le_is i (length s) (and_first (nat_le i (length s)) (not (nat_lt i (length s)) || (nat_lt (slice_index s i) 128 || nat_le 192 (slice_index s i))) e),
  high_lead i (length s) (slice_index s i) (and_second (nat_le i (length s)) (not (nat_lt i (length s)) || (nat_lt (slice_index s i) 128 || nat_le 192 (slice_index s i))) e),
)

cut_chosen : (s : List ℕ) (i j : ℕ) (b : Bool) → (nat_le i j && (is_boundary s i && is_boundary s j)) ≡ b → IsUtf8 s → IsUtf8 (cond b (slice_range s i j) [])
cut_chosen s i j true e u =
    let within = and_second (nat_le i j) (is_boundary s i && is_boundary s j) e in
    IsUtf8-between s i j u (le_is i j (and_first (nat_le i j) (is_boundary s i && is_boundary s j) e)) (cut_boundary s i (and_first (is_boundary s i) (is_boundary s j) within)) (cut_boundary s j (and_second (is_boundary s i) (is_boundary s j) within))
cut_chosen s i j false e u = IsUtf8-nil

token_utf8 : (s : List ℕ) (o : Option Token) → IsUtf8 s → IsUtf8 (token_text s o)
token_utf8 s None u = IsUtf8-nil
token_utf8 s (Some t) u = cut_chosen s t.start t.end (nat_le t.start t.end && (is_boundary s t.start && is_boundary s t.end)) refl u

pub word_utf8 : (s : List ℕ) (ts : List Token) (w : Word) → IsUtf8 s → IsUtf8 (word_text s ts w)
word_utf8 s ts w u = token_utf8 s (slice_get ts w.number) u
