-- A text may be cut behind the piece at its front.
use Rattle.std.proofs.Common.{◌≡◌, ◌⊎◌, inl, inr, ⊎_elim, ℕ, zero, suc, ◌+◌, ◌-◌, ◌<◌, ◌≤◌, ◌&&◌, not, Bool, true, false, cond, eqb, List, [], ◌∷◌, length, take, drop, get_or, Option, Some, None, option_map, is_some, refl, sym, ◌∙◌, ap, subst, arith, slice_range}
use Rattle.std.proofs.Math.Utf8.{scalars}
use Rattle.std.proofs.lemmas.Bool.{cases_lt, eqb-true}
use Rattle.std.proofs.lemmas.Bool.Decides.{nat_tests}
use Rattle.std.proofs.lemmas.List.{length-take-le, length-drop, take-append-drop}
use Rattle.std.proofs.lemmas.List.Sums.{prefix_len-le-length, prefix_len_passes, prefix_len_stops}
use Rattle.std.proofs.lemmas.Option.{same_Some, cond_some}
use Rattle.std.proofs.lemmas.Str.{IsCharBoundary-after_ascii, IsCharBoundary-before_ascii, IsCharBoundary-at_seam, IsCharBoundary-end, IsUtf8-drop, encodes-append, encodes-chars, scalars-chars, length-le-encodes}
use Rattle.std.specs.Char.{is_ascii_digit}
use Rattle.std.specs.List.{prefix_len}
use Rattle.std.specs.Str.{chars, IsUtf8, IsCharBoundary, encode_utf8_all}
use Rattle.def_syntax.specs.declared.token.TokenKind.{TokenKind}
use Rattle.def_text.specs.Keywords.{begins_identifier, continues_identifier}
use Rattle.ev_integer.specs.Numerals.{number_of}
use Rattle.ev_lexer.specs.declared.pieces.Piece.{Piece}
use Rattle.ev_lexer.specs.declared.pieces.Piece.TheVariants.{Blank, Whole, Fault}
use Rattle.ev_lexer.specs.declared.pieces.Start.{Start}
use Rattle.ev_lexer.specs.declared.pieces.Start.TheVariants.{Space, LineFeed, CarriageReturn, Backslash, Hash, Slash, Quote, Apostrophe, Digit, Other}
use Rattle.ev_lexer.specs.Words.{kind_among, operators, operator_of, or_else, longest_operator}
use Rattle.ev_lexer.specs.Pieces.{start, line_end, blank_before, blank_with, comment_end, commented, closing, bad_escape, escape_length, is_one, literal, text_of, character_of, number, operator, slashed, front_word, word, word_or_operator, piece_of, piece}
use Rattle.ev_lexer.proofs.Operators.{both, operator_cut}

pub record Cut (text : List ℕ) (n : ℕ) : Type 0 where
  pub some : 0 < n
  pub boundary : IsCharBoundary text n

-- behind white space and a token the text may be cut, and a fault stands within it
abbrev pub Cuts : Piece → List ℕ → Type 0
Cuts (Blank n) text = Cut text n
Cuts (Whole kind n) text = Cut text n
Cuts (Fault kind behind) text = behind ≤ length text

behind_ascii : (text : List ℕ) (i n : ℕ) → IsUtf8 text → i < length text → get_or text i 0 < 128 → i + 1 ≡ n → Cut text n
behind_ascii text i n utf8 lt narrow e = record {
  some = omega arith;
  boundary = subst (IsCharBoundary text) e (IsCharBoundary-after_ascii text i utf8 lt narrow);
}

chosen_cuts : (t : Bool) (x y : Piece) (text : List ℕ) → Cuts x text → Cuts y text → Cuts (cond t x y) text
chosen_cuts true x y text p q = p
chosen_cuts false x y text p q = q

chosen : {A : Type 0} (b : Bool) (x y z : A) → cond b x y ≡ z → ((b ≡ true) × (x ≡ z)) ⊎ ((b ≡ false) × (y ≡ z))
chosen true x y z e = inl (refl, e)
chosen false x y z e = inr (refl, e)

map_some : {A B P : Type 0} (f : A → B) (o : Option A) (y : B) → option_map f o ≡ Some y → ((x : A) → o ≡ Some x → f x ≡ y → P) → P
map_some f None y e k = absurd (cc)
map_some f (Some x) y e k = k x refl (same_Some _ _ e)

-- so many bytes, the last of them in ASCII
record Ends (bytes : List ℕ) (n : ℕ) : Type 0 where
  pub last : ℕ
  pub long : n ≡ suc last
  pub within : last < length bytes
  pub narrow : get_or bytes last 0 < 128

later_end : (b n m : ℕ) (bytes : List ℕ) → suc m ≡ n → Ends bytes m → Ends (b ∷ bytes) n
later_end b n m bytes e so_far = record {
  last = suc so_far.last;
  long = sym e ∙ ap suc so_far.long;
  within = let w : so_far.last < length bytes = so_far.within in omega arith;
  narrow = so_far.narrow;
}

slash_narrow : (a b : ℕ) → (eqb a 42 && eqb b 47) ≡ true → b < 128
slash_narrow a b e = grind (arith, nat_tests)

comment_end_at : (bytes : List ℕ) (n : ℕ) → comment_end bytes ≡ Some n → Ends bytes n
unfolding comment_end
comment_end_at [] n e = absurd (cc)
comment_end_at (a ∷ []) n e = absurd (cc)
comment_end_at (a ∷ b ∷ more) n e =
    ⊎_elim (λ h. record { last = 1; long = sym (same_Some _ _ h.1); within = omega arith; narrow = slash_narrow a b h.0 })
    (λ h. map_some suc (comment_end (b ∷ more)) n h.1 (λ m found is. later_end a n m (b ∷ more) is (comment_end_at (b ∷ more) m found)))
    (chosen (eqb a 42 && eqb b 47) _ _ (Some n) e)

line_feed_narrow : (a : ℕ) → eqb a 10 ≡ true → a < 128
line_feed_narrow a e = grind (arith, nat_tests)

return_narrow : (a b : ℕ) → (eqb a 13 && eqb b 10) ≡ true → b < 128
return_narrow a b e = grind (arith, nat_tests)

first_ends : (a : ℕ) (more : List ℕ) (n : ℕ) → eqb a 10 ≡ true → Some 1 ≡ Some n → Ends (a ∷ more) n
first_ends a more n h e = record { last = 0; long = sym (same_Some _ _ e); within = omega arith; narrow = line_feed_narrow a h }

second_ends : (a b : ℕ) (more : List ℕ) (n : ℕ) → cond (eqb a 13 && eqb b 10) (Some 2) None ≡ Some n → Ends (a ∷ b ∷ more) n
second_ends a b more n e =
    let h : ((eqb a 13 && eqb b 10) ≡ true) × (2 ≡ n) = cond_some (eqb a 13 && eqb b 10) 2 n e in
    record { last = 1; long = sym h.1; within = omega arith; narrow = return_narrow a b h.0 }

line_end_at : (bytes : List ℕ) (n : ℕ) → line_end bytes ≡ Some n → Ends bytes n
line_end_at [] n e = absurd (cc)
line_end_at (a ∷ []) n e = let h : (eqb a 10 ≡ true) × (1 ≡ n) = cond_some (eqb a 10) 1 n e in first_ends a [] n h.0 (ap Some h.1)
line_end_at (a ∷ b ∷ more) n e = ⊎_elim (λ h. first_ends a (b ∷ more) n h.0 h.1) (λ h. second_ends a b more n h.1) (chosen (eqb a 10) _ _ (Some n) e)

-- a closing quote stands where it was found
pub record Closes (mark : ℕ) (bytes : List ℕ) (n : ℕ) : Type 0 where
  pub within : n < length bytes
  pub here : get_or bytes n 0 ≡ mark

closes_first : (mark a : ℕ) (more : List ℕ) (n : ℕ) → eqb a mark ≡ true → Some 0 ≡ Some n → Closes mark (a ∷ more) n
closes_first mark a more n h e = subst (Closes mark (a ∷ more)) (same_Some _ _ e) (record { within = omega arith; here = eqb-true a mark h })

closes_later : (mark a n m : ℕ) (bytes : List ℕ) → suc m ≡ n → Closes mark bytes m → Closes mark (a ∷ bytes) n
closes_later mark a n m bytes e so_far = subst (Closes mark (a ∷ bytes)) e (record { within = let w : m < length bytes = so_far.within in omega arith; here = so_far.here })

pub closing_at : (mark : ℕ) (bytes : List ℕ) (n : ℕ) → closing mark bytes ≡ Some n → Closes mark bytes n
unfolding closing
closing_at mark [] n e = absurd (cc)
closing_at mark (a ∷ []) n e = let h : (eqb a mark ≡ true) × (0 ≡ n) = cond_some (eqb a mark) 0 n e in closes_first mark a [] n h.0 (ap Some h.1)
closing_at mark (a ∷ b ∷ more) n e =
    ⊎_elim (λ h. closes_first mark a (b ∷ more) n h.0 h.1)
    (λ h. ⊎_elim
    (λ g. map_some (λ k. suc (suc k)) (closing mark more) n g.1 (λ m found is. closes_later mark a n (suc m) (b ∷ more) is (closes_later mark b (suc m) m more refl (closing_at mark more m found))))
    (λ g. map_some suc (closing mark (b ∷ more)) n g.1 (λ m found is. closes_later mark a n m (b ∷ more) is (closing_at mark (b ∷ more) m found)))
    (chosen (eqb a 92) _ _ (Some n) h.1))
    (chosen (eqb a mark) _ _ (Some n) e)

pub bad_escape_within : (passed : ℕ) (bytes : List ℕ) (place : ℕ) → bad_escape passed bytes ≡ Some place → place < length bytes
unfolding bad_escape
bad_escape_within zero [] place e = absurd (cc)
bad_escape_within (suc passed) [] place e = absurd (cc)
bad_escape_within (suc passed) (b ∷ more) place e =
    map_some suc (bad_escape passed more) place e (λ m found is. let w : m < length more = bad_escape_within passed more m found in omega arith)
bad_escape_within zero (b ∷ more) place e =
    ⊎_elim (λ h. (elim (escape_length more) as (λ o. (elim o [ None ↦ Some 0 | Some n ↦ option_map suc (bad_escape n more) ]) ≡ Some place → place < length (b ∷ more)) [
      | None ↦ λ g. let z : 0 ≡ place = same_Some _ _ g in omega arith
      | Some n ↦ λ g. map_some suc (bad_escape n more) place g (λ m found is. let w : m < length more = bad_escape_within n more m found in omega arith)
    ]) h.1)
    (λ h. map_some suc (bad_escape zero more) place h.1 (λ m found is. let w : m < length more = bad_escape_within zero more m found in omega arith))
    (chosen (eqb b 92) _ _ (Some place) e)

-- what stands behind a quote

pub behind_quote : (rest behind : List ℕ) → IsUtf8 rest → rest ≡ 39 ∷ behind → IsCharBoundary rest 1
behind_quote [] behind utf8 e = absurd (cc)
behind_quote (b ∷ more) behind utf8 e =
    let quote : b ≡ 39 = cc in
    (behind_ascii (b ∷ more) 0 1 utf8 (omega arith) (omega arith) refl).boundary

pub before_closing : (rest behind : List ℕ) (n : ℕ) → rest ≡ 39 ∷ behind → Some n ≡ closing 39 behind → IsCharBoundary rest (1 + n)
before_closing rest behind n whole closed =
    let closes : Closes 39 behind n = closing_at 39 behind n (sym closed) in
    let within : n < length behind = closes.within in
    let here : get_or behind n 0 ≡ 39 = closes.here in
    let next : suc n ≡ 1 + n = omega arith in
    let narrow : get_or (39 ∷ behind) (suc n) 0 < 128 = omega arith in
    subst (λ xs. IsCharBoundary xs (1 + n)) (sym whole) (subst (IsCharBoundary (39 ∷ behind)) next (IsCharBoundary-before_ascii (39 ∷ behind) (suc n) (omega arith) narrow))

pub between_quotes : (rest behind spelled : List ℕ) (n : ℕ) → rest ≡ 39 ∷ behind → spelled ≡ slice_range rest 1 (1 + n) → spelled ≡ take n behind
between_quotes rest behind spelled n whole is =
    let same : (1 + n) - 1 ≡ n = omega arith in
    is ∙ ap (λ xs. slice_range xs 1 (1 + n)) whole ∙ ap (λ k. take k behind) same

-- an operator

abbrev OperatorCuts : Option (TokenKind × ℕ) → List ℕ → Type 0
OperatorCuts None text = Unit {0}
OperatorCuts (Some found) text = Cut text found.1

operator_of_cuts : (kind : Option TokenKind) (most : ℕ) (text : List ℕ) → IsUtf8 text → kind_among operators (take most text) ≡ kind
    → OperatorCuts (option_map (λ (k : TokenKind). (k, length (take most text))) kind) text
operator_of_cuts None most text utf8 e = tt
operator_of_cuts (Some k) most text utf8 e =
    let cut : (0 < length (take most text)) × IsCharBoundary text (length (take most text)) = operator_cut most text k utf8 e in
    record { some = cut.0; boundary = cut.1 }

or_cuts : (a b : Option (TokenKind × ℕ)) (text : List ℕ) → OperatorCuts a text → OperatorCuts b text → OperatorCuts (or_else a b) text
or_cuts None b text p q = q
or_cuts (Some found) b text p q = p

found_cuts : (o : Option (TokenKind × ℕ)) (text : List ℕ) → OperatorCuts o text → Cuts (operator o) text
found_cuts None text p = omega arith
found_cuts (Some found) text p = p

operator_cuts : (text : List ℕ) → IsUtf8 text → Cuts (operator (longest_operator text)) text
operator_cuts text utf8 =
    found_cuts (longest_operator text) text
    (or_cuts (operator_of 3 text) _ text (operator_of_cuts _ 3 text utf8 refl)
    (or_cuts (operator_of 2 text) (operator_of 1 text) text (operator_of_cuts _ 2 text utf8 refl) (operator_of_cuts _ 1 text utf8 refl)))

-- a comment

commented_cuts : (o : Option ℕ) (a b c : ℕ) (inside : List ℕ) → IsUtf8 (a ∷ b ∷ c ∷ inside) → comment_end inside ≡ o → Cuts (commented o) (a ∷ b ∷ c ∷ inside)
commented_cuts None a b c inside utf8 e = omega arith
commented_cuts (Some n) a b c inside utf8 e =
    let ends : Ends inside n = comment_end_at inside n e in
    let long : n ≡ suc ends.last = ends.long in
    let within : ends.last < length inside = ends.within in
    behind_ascii (a ∷ b ∷ c ∷ inside) (suc (suc (suc ends.last))) (3 + n) utf8 (omega arith) ends.narrow (omega arith)

slashed_cuts : (a : ℕ) (more : List ℕ) → IsUtf8 (a ∷ more) → Cuts (slashed (a ∷ more) more) (a ∷ more)
slashed_cuts a [] utf8 = operator_cuts (a ∷ []) utf8
slashed_cuts a (b ∷ []) utf8 = operator_cuts (a ∷ b ∷ []) utf8
slashed_cuts a (b ∷ c ∷ inside) utf8 =
    chosen_cuts (eqb b 42 && eqb c 42) (commented (comment_end inside)) (operator (longest_operator (a ∷ b ∷ c ∷ inside))) (a ∷ b ∷ c ∷ inside)
    (commented_cuts (comment_end inside) a b c inside utf8 refl) (operator_cuts (a ∷ b ∷ c ∷ inside) utf8)

feed_narrow : (b : ℕ) → not (eqb b 10) ≡ false → b < 128
feed_narrow b e = grind (arith, nat_tests)

-- a comment that ends before a line feed, or with the text
hash_cuts : (a k : ℕ) (more : List ℕ) → k ≡ prefix_len (λ c. not (eqb c 10)) more → Cut (a ∷ more) (1 + k)
hash_cuts a k more e = elim (cases_lt k (length more)) [
  | inl lt ↦ record {
    some = omega arith;
    boundary = let next : suc k ≡ 1 + k = omega arith in
        let stops : not (eqb (get_or more k 0) 10) ≡ false = subst (λ n. not (eqb (get_or more n 0) 10) ≡ false) (sym e) (prefix_len_stops (λ c. not (eqb c 10)) more 0 (subst (λ n. n < length more) e lt)) in
        subst (IsCharBoundary (a ∷ more)) next (IsCharBoundary-before_ascii (a ∷ more) (suc k) (omega arith) (feed_narrow (get_or more k 0) stops));
  }
  | inr le ↦ record {
    some = omega arith;
    boundary = let at : length (a ∷ more) ≡ 1 + k = omega (arith, prefix_len-le-length (λ c. not (eqb c 10)) more) in
        subst (IsCharBoundary (a ∷ more)) at (IsCharBoundary-end (a ∷ more));
  }
]

-- line ends

return_cuts : (o : Option ℕ) (a : ℕ) (more : List ℕ) → IsUtf8 (a ∷ more) → a < 128 → Cuts (blank_before o) (a ∷ more)
return_cuts None a more utf8 narrow = omega arith
return_cuts (Some n) a more utf8 narrow = behind_ascii (a ∷ more) 0 1 utf8 (omega arith) narrow refl

backslash_cuts : (o : Option ℕ) (a : ℕ) (more : List ℕ) → IsUtf8 (a ∷ more) → line_end more ≡ o → Cuts (blank_with o) (a ∷ more)
backslash_cuts None a more utf8 e = omega arith
backslash_cuts (Some n) a more utf8 e =
    let ends : Ends more n = line_end_at more n e in
    let long : n ≡ suc ends.last = ends.long in
    let within : ends.last < length more = ends.within in
    behind_ascii (a ∷ more) (suc ends.last) (1 + n) utf8 (omega arith) ends.narrow (omega arith)

-- literals

literal_cuts : (kind : TokenKind) (is_right : Bool) (bad : Option ℕ) (n : ℕ) (text : List ℕ) → Cut text (2 + n) → ((place : ℕ) → bad ≡ Some place → 1 + place ≤ length text)
    → Cuts (literal kind is_right bad n) text
literal_cuts kind is_right (Some place) n text cut within = within place refl
literal_cuts kind true None n text cut within = cut
literal_cuts kind false None n text cut within = omega arith

bad_within : (a n : ℕ) (more : List ℕ) → n ≤ length more → (place : ℕ) → bad_escape zero (take n more) ≡ Some place → 1 + place ≤ length (a ∷ more)
bad_within a n more h place e =
    let front : length (take n more) ≡ n = length-take-le n more h in
    let at : place < length (take n more) = bad_escape_within zero (take n more) place e in
    omega arith

closed_cut : (mark a n : ℕ) (more : List ℕ) → IsUtf8 (a ∷ more) → mark < 128 → Closes mark more n → Cut (a ∷ more) (2 + n)
closed_cut mark a n more utf8 narrow closes =
    let within : n < length more = closes.within in
    let here : get_or more n 0 ≡ mark = closes.here in
    behind_ascii (a ∷ more) (suc n) (2 + n) utf8 (omega arith) (subst (λ b. b < 128) (sym here) narrow) (omega arith)

text_cuts : (o : Option ℕ) (a : ℕ) (more : List ℕ) → IsUtf8 (a ∷ more) → closing 34 more ≡ o → Cuts (text_of more o) (a ∷ more)
text_cuts None a more utf8 e = omega arith
text_cuts (Some n) a more utf8 e =
    let closes : Closes 34 more n = closing_at 34 more n e in
    let within : n < length more = closes.within in
    literal_cuts _ true (bad_escape zero (take n more)) n (a ∷ more) (closed_cut 34 a n more utf8 (omega arith) closes) (bad_within a n more (omega arith))

character_cuts : (o : Option ℕ) (a : ℕ) (more : List ℕ) → IsUtf8 (a ∷ more) → closing 39 more ≡ o → Cuts (character_of more o) (a ∷ more)
character_cuts None a more utf8 e = omega arith
character_cuts (Some n) a more utf8 e =
    let closes : Closes 39 more n = closing_at 39 more n e in
    let within : n < length more = closes.within in
    literal_cuts _ (is_one (take n more)) (bad_escape zero (take n more)) n (a ∷ more) (closed_cut 39 a n more utf8 (omega arith) closes) (bad_within a n more (omega arith))

-- a number

digit_narrow : (b : ℕ) → is_ascii_digit b ≡ true → b < 128
digit_narrow b e = grind (arith, nat_tests)

number_cuts : (k : ℕ) (text : List ℕ) → IsUtf8 text → k ≡ prefix_len is_ascii_digit text → Cuts (number (take k text)) text
number_cuts zero text utf8 e = omega arith
number_cuts (suc j) text utf8 e =
    let within : suc j ≤ length text = subst (λ n. n ≤ length text) (sym e) (prefix_len-le-length is_ascii_digit text) in
    let long : length (take (suc j) text) ≡ suc j = length-take-le (suc j) text within in
    let before : j < prefix_len is_ascii_digit text = omega arith in
    let narrow : get_or text j 0 < 128 = digit_narrow (get_or text j 0) (prefix_len_passes is_ascii_digit text j 0 before) in
    chosen_cuts (is_some (number_of (take (suc j) text))) (Whole _ (length (take (suc j) text))) (Fault _ 0) text
    (behind_ascii text j (length (take (suc j) text)) utf8 (omega arith) narrow (omega arith)) (omega arith)

-- a word

scalars_behind : (k : ℕ) (cs : List ℕ) → scalars cs ≡ true → scalars (drop k cs) ≡ true
scalars_behind zero cs e = e
scalars_behind (suc k) [] e = e
scalars_behind (suc k) (c ∷ cs) e = scalars_behind k cs (both _ (scalars cs) e).1

characters_cut : (k : ℕ) (text : List ℕ) → IsUtf8 text → IsCharBoundary text (length (encode_utf8_all (take k (chars text))))
characters_cut k text utf8 =
    IsCharBoundary-at_seam text (encode_utf8_all (take k (chars text))) (encode_utf8_all (drop k (chars text)))
    (sym (encodes-chars text utf8) ∙ ap encode_utf8_all (sym (take-append-drop k (chars text))) ∙ encodes-append (take k (chars text)) (drop k (chars text)))
    (drop k (chars text), (scalars_behind k (chars text) (scalars-chars text utf8), refl))

word_cuts : (c : ℕ) (cs text : List ℕ) → IsUtf8 text → chars text ≡ c ∷ cs → Cuts (word (front_word c cs)) text
word_cuts c cs text utf8 e = record {
  some = let long : length (c ∷ take (prefix_len continues_identifier cs) cs) ≤ length (front_word c cs) = length-le-encodes (c ∷ take (prefix_len continues_identifier cs) cs) in omega arith;
  boundary = subst (λ xs. IsCharBoundary text (length (encode_utf8_all (take (suc (prefix_len continues_identifier cs)) xs)))) e (characters_cut (suc (prefix_len continues_identifier cs)) text utf8);
}

word_or_operator_cuts : (cs text : List ℕ) → IsUtf8 text → chars text ≡ cs → Cuts (word_or_operator text cs) text
word_or_operator_cuts [] text utf8 e = operator_cuts text utf8
word_or_operator_cuts (c ∷ cs) text utf8 e =
    chosen_cuts (begins_identifier c) (word (front_word c cs)) (operator (longest_operator text)) text (word_cuts c cs text utf8 e) (operator_cuts text utf8)

-- all of them

high : (b : ℕ) → 128 ≤ b → start b ≡ Other
high b h = grind (arith, nat_tests)

narrow : (b : ℕ) (s : Start) → start b ≡ s → (s ≡ Other → ⊥) → b < 128
narrow b s e other = elim (cases_lt b 128) [
  | inl h ↦ h
  | inr h ↦ absurd (other (sym e ∙ high b h))
]

first_cuts : (b : ℕ) (more : List ℕ) → IsUtf8 (b ∷ more) → b < 128 → Cut (b ∷ more) 1
first_cuts b more utf8 h = behind_ascii (b ∷ more) 0 1 utf8 (omega arith) h refl

piece_of_cuts : (s : Start) (b : ℕ) (more : List ℕ) → IsUtf8 (b ∷ more) → start b ≡ s → Cuts (piece_of s (b ∷ more) more) (b ∷ more)
piece_of_cuts Space b more utf8 e = first_cuts b more utf8 (narrow b Space e (λ h. absurd (cc)))
piece_of_cuts LineFeed b more utf8 e = first_cuts b more utf8 (narrow b LineFeed e (λ h. absurd (cc)))
piece_of_cuts CarriageReturn b more utf8 e = return_cuts (line_end (b ∷ more)) b more utf8 (narrow b CarriageReturn e (λ h. absurd (cc)))
piece_of_cuts Backslash b more utf8 e = backslash_cuts (line_end more) b more utf8 refl
piece_of_cuts Hash b more utf8 e = hash_cuts b (prefix_len (λ c. not (eqb c 10)) more) more refl
piece_of_cuts Slash b more utf8 e = slashed_cuts b more utf8
piece_of_cuts Quote b more utf8 e = text_cuts (closing 34 more) b more utf8 refl
piece_of_cuts Apostrophe b more utf8 e = character_cuts (closing 39 more) b more utf8 refl
piece_of_cuts Digit b more utf8 e = number_cuts (prefix_len is_ascii_digit (b ∷ more)) (b ∷ more) utf8 refl
piece_of_cuts Other b more utf8 e = word_or_operator_cuts (chars (b ∷ more)) (b ∷ more) utf8 refl

pub piece_cuts : (text : List ℕ) → IsUtf8 text → Cuts (piece text) text
unfolding piece
piece_cuts [] utf8 = omega arith
piece_cuts (b ∷ more) utf8 = piece_of_cuts (start b) b more utf8 refl

pub blank_cut : (text : List ℕ) (n : ℕ) → IsUtf8 text → Blank n ≡ piece text → Cut text n
blank_cut text n utf8 e = subst (λ p. Cuts p text) (sym e) (piece_cuts text utf8)

pub whole_cut : (text : List ℕ) (kind : TokenKind) (n : ℕ) → IsUtf8 text → Whole kind n ≡ piece text → Cut text n
whole_cut text kind n utf8 e = subst (λ p. Cuts p text) (sym e) (piece_cuts text utf8)

pub fault_within : (text : List ℕ) (kind behind : ℕ) → IsUtf8 text → Fault kind behind ≡ piece text → behind ≤ length text
fault_within text kind behind utf8 e = subst (λ p. Cuts p text) (sym e) (piece_cuts text utf8)

pub utf8_behind : (text : List ℕ) (n : ℕ) → IsUtf8 text → Cut text n → IsUtf8 (drop n text)
utf8_behind text n utf8 cut = IsUtf8-drop text n utf8 cut.boundary

pub shorter : (text : List ℕ) (n : ℕ) → Cut text n → length (drop n text) + n ≡ length text
shorter text n cut = let within : n ≤ length text = cut.boundary.0 in omega (arith, length-drop n text)
