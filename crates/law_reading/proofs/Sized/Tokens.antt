-- A text has no more tokens than bytes.
use Rattle.std.proofs.Common.{◌≡◌, ℕ, zero, suc, ◌+◌, ◌-◌, ◌≤◌, ◌&&◌, ◌||◌, Bool, true, false, List, [], ◌∷◌, length, Result, Ok, Err, ap, arith}
use Rattle.def_syntax.specs.declared.token.Token.{Token}
use Rattle.ev_lexer.specs.declared.pieces.Piece.{Piece}
use Rattle.ev_lexer.specs.declared.pieces.Piece.TheVariants.{Blank, Whole, Fault}
use Rattle.ev_lexer.specs.Pieces.{piece}
use Rattle.ev_lexer.specs.LineEnds.{is_line_end, is_inside, joins, opened, kept}
use Rattle.ev_lexer.specs.Lexed.{token, with_token, map_tokens, split, lexed}

abbrev Split : Type 0
Split = Result (List Token) (ℕ × ℕ)

abbrev size : Split → ℕ
size (Ok tokens) = length tokens
size (Err place) = 0

with_size : (t : Token) (r : Split) → size (with_token t r) ≤ suc (size r)
with_size t (Ok more) = omega arith
with_size t (Err place) = omega arith

by_piece : (p : Piece) (place : ℕ) (more : List ℕ) → ((n : ℕ) → size (split n (suc place) more) ≤ length more)
    → size (elim p as (λ _. Split) [
      | Blank n ↦ split (n - 1) (suc place) more
      | Whole kind n ↦ with_token (token kind place (place + n)) (split (n - 1) (suc place) more)
      | Fault kind behind ↦ Err (kind, place + behind)
    ]) ≤ suc (length more)
by_piece (Blank n) place more h = omega (arith, h (n - 1))
by_piece (Whole kind n) place more h = omega (arith, with_size (token kind place (place + n)) (split (n - 1) (suc place) more), h (n - 1))
by_piece (Fault kind behind) place more h = omega arith

split_size : (passed place : ℕ) (text : List ℕ) → size (split passed place text) ≤ length text
unfolding split
split_size passed place [] = omega arith
split_size (suc passed) place (b ∷ more) = omega (arith, split_size passed (suc place) more)
split_size zero place (b ∷ more) = by_piece (piece (b ∷ more)) place more (λ n. split_size n (suc place) more)

either : (b : Bool) (xs ys : List Token) (n : ℕ) → length xs ≤ n → length ys ≤ n → length (elim b as (λ _. List Token) [ true ↦ xs | false ↦ ys ]) ≤ n
either true xs ys n h k = h
either false xs ys n h k = k

kept_size : (brackets : List Bool) (joined : Bool) (tokens : List Token) → length (kept brackets joined tokens) ≤ length tokens
unfolding kept
kept_size brackets joined [] = omega arith
kept_size brackets joined (t ∷ more) =
    either (is_line_end t.kind && (is_inside brackets || joined)) (kept brackets joined more) (t ∷ kept (opened t.kind brackets) (joins t.kind) more) (suc (length more))
    (omega (arith, kept_size brackets joined more)) (omega (arith, kept_size (opened t.kind brackets) (joins t.kind) more))

map_size : (r : Split) → size (map_tokens (kept [] false) r) ≤ size r
map_size (Ok all) = kept_size [] false all
map_size (Err place) = omega arith

pub tokens_few : (text : List ℕ) (tokens : List Token) → lexed text ≡ Ok tokens → length tokens ≤ length text
tokens_few text tokens e = omega (arith, ap size e, map_size (split zero 0 text), split_size zero 0 text)
