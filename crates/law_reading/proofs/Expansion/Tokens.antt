-- The tokens of a text in UTF-8 are spelled as their kinds say, and so what it is read as is a kernel tree.
use Rattle.std.proofs.Common.{◌≡◌, inl, inr, ℕ, zero, suc, ◌+◌, ◌-◌, ◌<◌, ◌≤◌, Bool, true, false, ◌&&◌, ◌||◌, cond, nat_le, nat_lt, List, [], ◌∷◌, length, take, drop, slice_index, slice_range, Some, Result, Ok, Err, refl, sym, ◌∙◌, ap, subst, arith}
use Rattle.std.specs.Str.{IsUtf8, IsCharBoundary}
use Rattle.std.proofs.lemmas.Bool.{cases_lt}
use Rattle.std.proofs.lemmas.Bool.Decides.{nat_tests}
use Rattle.std.proofs.lemmas.List.{drop-drop}
use Rattle.std.proofs.lemmas.Str.{IsCharBoundary-start, IsCharBoundary-from_rest}
use Rattle.def_syntax.specs.declared.token.Token.{Token}
use Rattle.def_syntax.specs.declared.token.TokenKind.{TokenKind}
use Rattle.ev_lexer.specs.declared.pieces.Piece.{Piece}
use Rattle.ev_lexer.specs.declared.pieces.Piece.TheVariants.{Blank, Whole, Fault}
use Rattle.ev_lexer.specs.Pieces.{piece}
use Rattle.ev_lexer.specs.LineEnds.{is_line_end, is_inside, joins, opened, kept}
use Rattle.ev_lexer.specs.Lexed.{token, map_tokens, split}
use Rattle.ev_lexer.proofs.Boundaries.{Cut, blank_cut, whole_cut, utf8_behind, shorter}
use Rattle.ev_lexer.proofs.Splitting.{prepended, prepended_nil, past_blank, past_token, at_fault, at_end}
use Rattle.ev_parser.specs.Surface.{is_boundary, token_text}
use Rattle.ev_parser.proofs.Cuts as cuts
use Rattle.law_reading.specs.Expansion.Expansions.{IsSpelled, AreSpelled}
use Rattle.law_reading.proofs.Expansion.Texts.{expands_to_a_tree}
use Rattle.law_reading.specs.Expansion.Tokens.{TokensAreSpelled, WhatIsReadIsATree}
use Rattle.law_reading.proofs.Expansion.TokenWords.{Named}
use Rattle.law_reading.proofs.Expansion.TokenPieces.{whole_named}

-- ---- the text of a token

lead : (x : ℕ) → (128 ≤ x → 192 ≤ x) → (nat_lt x 128 || nat_le 192 x) ≡ true
lead x h = elim (cases_lt x 128) [
  | inl l ↦ grind (arith, nat_tests)
  | inr g ↦ let m : 192 ≤ x = h g in grind (arith, nat_tests)
]

boundary : (s : List ℕ) (i : ℕ) → IsCharBoundary s i → is_boundary s i ≡ true
boundary s i b = elim (cases_lt i (length s)) [
  | inl l ↦ cuts.within s i l ∙ lead (slice_index s i) (b.1 l)
  | inr g ↦ cuts.at_end s i (omega (arith, b.0, g))
]

le_yes : (i n : ℕ) → nat_le i (i + n) ≡ true
le_yes i n = grind (arith, nat_tests)

-- so many bytes from a place on at which the text may be cut
text_is : (s : List ℕ) (kind : TokenKind) (place n : ℕ) → IsCharBoundary s place → IsCharBoundary s (place + n) → token_text s (Some (token kind place (place + n))) ≡ take n (drop place s)
text_is s kind place n a b =
    let long : (place + n) - place ≡ n = omega arith in
    ap (λ (t : Bool). cond (t && (is_boundary s place && is_boundary s (place + n))) (slice_range s place (place + n)) []) (le_yes place n)
    ∙ ap (λ (t : Bool). cond (t && is_boundary s (place + n)) (slice_range s place (place + n)) []) (boundary s place a)
    ∙ ap (λ (t : Bool). cond t (slice_range s place (place + n)) []) (boundary s (place + n) b)
    ∙ ap (λ (k : ℕ). take k (drop place s)) long

-- ---- the pieces of a text

-- what is left of a text behind a place at which it may be cut
record Rest (s : List ℕ) (place : ℕ) : Type 0 where
  boundary : IsCharBoundary s place
  utf8 : IsUtf8 (drop place s)

behind : (s : List ℕ) (place n : ℕ) → Rest s place → Cut (drop place s) n → Rest s (place + n)
behind s place n r c = record {
  boundary = IsCharBoundary-from_rest s place n r.boundary.0 c.boundary;
  utf8 = subst IsUtf8 (drop-drop n place s) (utf8_behind (drop place s) n r.utf8 c);
}

one_spelled : (s : List ℕ) (kind : TokenKind) (place n : ℕ) → Rest s place → Cut (drop place s) n → piece (drop place s) ≡ Whole kind n → IsSpelled s (token kind place (place + n))
one_spelled s kind place n r c e =
    let named = whole_named (drop place s) kind n r.utf8 e in
    let moved : Named kind (token_text s (Some (token kind place (place + n)))) = subst (Named kind) (sym (text_is s kind place n r.boundary (behind s place n r c).boundary)) named in
    record { name = moved.name; leave = moved.leave }

abbrev Split : Type 0
Split = Result (List Token) (ℕ × ℕ)

ok_same : (a b : List Token) → ◌≡◌ {A = Split} (Ok a) (Ok b) → a ≡ b
ok_same a b e = cc

-- tokens behind a shorter text are spelled as they should be
abbrev Walks : ℕ → List ℕ → Type 0
Walks k s = (place : ℕ) (tokens : List Token) → length (drop place s) < k → Rest s place → split zero place (drop place s) ≡ Ok tokens → AreSpelled s tokens

with_token : (s : List ℕ) (t : Token) (r : Split) (tokens : List Token) → IsSpelled s t → ((more : List Token) → r ≡ Ok more → AreSpelled s more) → prepended (t ∷ []) r ≡ Ok tokens → AreSpelled s tokens
with_token s t (Ok more) tokens h f e = subst (AreSpelled s) (ok_same (t ∷ more) tokens e) (h, f more refl)
with_token s t (Err x) tokens h f e = absurd (cc)

further : (k : ℕ) (s : List ℕ) (place n : ℕ) (tokens : List Token) → Walks k s → length (drop place s) < suc k → Rest s place → Cut (drop place s) n → split zero (place + n) (drop n (drop place s)) ≡ Ok tokens → AreSpelled s tokens
further k s place n tokens w h r c e =
    w (place + n) tokens (omega (arith, h, shorter (drop place s) n c, c.some, ap length (drop-drop n place s))) (behind s place n r c)
    (ap (split zero (place + n)) (sym (drop-drop n place s)) ∙ e)

by_piece : (k : ℕ) (s : List ℕ) (place : ℕ) (tokens : List Token) (p : Piece) → Walks k s → length (drop place s) < suc k → 0 < length (drop place s) → Rest s place → piece (drop place s) ≡ p → split zero place (drop place s) ≡ Ok tokens → AreSpelled s tokens
by_piece k s place tokens (Blank n) w h some r p e =
    let c = blank_cut (drop place s) n r.utf8 (sym p) in
    further k s place n tokens w h r c (sym (prepended_nil _) ∙ past_blank [] n place (drop place s) (Ok tokens) some c.some c.boundary.0 p (prepended_nil _ ∙ e))
by_piece k s place tokens (Whole kind n) w h some r p e =
    let c = whole_cut (drop place s) kind n r.utf8 (sym p) in
    let t = token kind place (place + n) in
    with_token s t (split zero (place + n) (drop n (drop place s))) tokens (one_spelled s kind place n r c p) (λ more q. further k s place n more w h r c q)
    (past_token [] (t ∷ []) kind n place (drop place s) (Ok tokens) some c.some c.boundary.0 p refl (prepended_nil _ ∙ e))
by_piece k s place tokens (Fault kind b) w h some r p e =
    absurd (faulty kind (place + b) (at_fault [] kind b place (drop place s) (Ok tokens) some p (prepended_nil _ ∙ e)))
  where
    faulty : (j i : ℕ) → ◌≡◌ {A = Split} (Ok tokens) (Err (j, i)) → ⊥
    faulty j i q = cc

walks : (k : ℕ) (s : List ℕ) → Walks k s
walks zero s place tokens h r e = absurd (omega (arith, h))
walks (suc k) s place tokens h r e = elim (cases_lt 0 (length (drop place s))) [
  | inl some ↦ by_piece k s place tokens (piece (drop place s)) (walks k s) h some r refl e
  | inr none ↦ subst (AreSpelled s) (sym (ok_same tokens [] (at_end [] place (drop place s) (Ok tokens) (omega (arith, none)) (prepended_nil _ ∙ e)))) tt
]

-- ---- line ends that are dropped

either : (s : List ℕ) (b : Bool) (xs ys : List Token) → AreSpelled s xs → AreSpelled s ys → AreSpelled s (elim b as (λ _. List Token) [ true ↦ xs | false ↦ ys ])
either s true xs ys h k = h
either s false xs ys h k = k

kept_spelled : (s : List ℕ) (brackets : List Bool) (joined : Bool) (tokens : List Token) → AreSpelled s tokens → AreSpelled s (kept brackets joined tokens)
unfolding kept
kept_spelled s brackets joined [] h = tt
kept_spelled s brackets joined (t ∷ more) h =
    either s (is_line_end t.kind && (is_inside brackets || joined)) (kept brackets joined more) (t ∷ kept (opened t.kind brackets) (joins t.kind) more)
    (kept_spelled s brackets joined more h.1) (h.0, kept_spelled s (opened t.kind brackets) (joins t.kind) more h.1)

-- ---- the whole

of_split : (s : List ℕ) (r : Split) (tokens : List Token) → ((all : List Token) → r ≡ Ok all → AreSpelled s all) → map_tokens (kept [] false) r ≡ Ok tokens → AreSpelled s tokens
of_split s (Ok all) tokens f e = subst (AreSpelled s) (ok_same (kept [] false all) tokens e) (kept_spelled s [] false all (f all refl))
of_split s (Err x) tokens f e = absurd (cc)

pub tokens_are_spelled : TokensAreSpelled
tokens_are_spelled text tokens u e =
    of_split text (split zero 0 text) tokens (λ all q. walks (suc (length text)) text 0 all (omega arith) (record { boundary = IsCharBoundary-start text u; utf8 = u }) q) e

pub what_is_read_is_a_tree : WhatIsReadIsATree
what_is_read_is_a_tree text given scoped u read =
    expands_to_a_tree text read.0 read.1 scoped.tree u (tokens_are_spelled text read.0 u read.2.0.0) read.2.0.1 read.2.1
