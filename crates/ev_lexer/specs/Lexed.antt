-- The tokens of a text.
use Rattle.std.specs.Prelude.{Vec, ◌≡◌, ℕ, zero, suc, ◌+◌, ◌-◌, false, List, [], ◌∷◌, Result, Ok, Err}
use Rattle.std.specs.declared.alloc.Global.{Global}
use Rattle.def_syntax.specs.declared.token.Token.{Token}
use Rattle.def_syntax.specs.declared.token.TokenKind.{TokenKind}
use Rattle.ev_lexer.specs.declared.lexing.LexFault.{LexFault}
use Rattle.ev_lexer.specs.declared.lexing.LexFault.TheVariants.{At, Memory}
use Rattle.ev_lexer.specs.declared.pieces.Piece.TheVariants.{Blank, Whole, Fault}
use Rattle.ev_lexer.specs.Pieces.{piece}
use Rattle.ev_lexer.specs.LineEnds.{kept}

-- the token of a kind that stands from one place to another
abbrev pub token : TokenKind → ℕ → ℕ → Token
token kind from to = record { kind = kind; start = from; end = to }

abbrev pub with_token : Token → Result (List Token) (ℕ × ℕ) → Result (List Token) (ℕ × ℕ)
with_token t (Ok more) = Ok (t ∷ more)
with_token t (Err place) = Err place

abbrev pub map_tokens : (List Token → List Token) → Result (List Token) (ℕ × ℕ) → Result (List Token) (ℕ × ℕ)
map_tokens f (Ok tokens) = Ok (f tokens)
map_tokens f (Err place) = Err place

-- A text from this place on as it falls into pieces, with each line end as a token, or the kind and the place of the first
-- fault; so many bytes belong to a piece that was read.
unfoldable pub split : ℕ → ℕ → List ℕ → Result (List Token) (ℕ × ℕ)
split passed place [] = Ok []
split (suc passed) place (b ∷ more) = split passed (suc place) more
split zero place (b ∷ more) = elim (piece (b ∷ more)) [
  | Blank n ↦ split (n - 1) (suc place) more
  | Whole kind n ↦ with_token (token kind place (place + n)) (split (n - 1) (suc place) more)
  | Fault kind behind ↦ Err (kind, place + behind)
]

-- the tokens of a text, or the kind and the place of its first fault
abbrev pub lexed : List ℕ → Result (List Token) (ℕ × ℕ)
lexed text = map_tokens (kept [] false) (split 0 0 text)

-- the answer is that of the definition, the tokens or the kind and the place of the first fault, unless memory runs out
abbrev pub Answers : Result (List Token) LexFault → Result (List Token) (ℕ × ℕ) → Type 0
Answers (Ok tokens) due = due ≡ Ok tokens
Answers (Err (At kind offset)) due = due ≡ Err (kind, offset)
Answers (Err Memory) due = Unit {0}

-- the same of the tokens with each line end among them
abbrev pub SplitAnswers : Result (Vec Token Global) LexFault → Result (List Token) (ℕ × ℕ) → Type 0
SplitAnswers (Ok tokens) due = due ≡ Ok tokens.items
SplitAnswers (Err (At kind offset)) due = due ≡ Err (kind, offset)
SplitAnswers (Err Memory) due = Unit {0}
