-- Which words are keywords and operators.
use Rattle.std.specs.Prelude.{ℕ, List, [], ◌∷◌, codes, bytes_eq, take, length, Some, None, option_map}
use Rattle.std.specs.declared.option.Option.{Option}
use Rattle.std.specs.List.{find}
use Rattle.def_syntax.specs.declared.token.TokenKind.{TokenKind}
use Rattle.def_syntax.specs.declared.token.TokenKind.TheVariants.{Identifier, Ignore, Break, Catch, Continue, Def, Else, Escape, Exit, Finally, Fn, For, If, Implements, In, Match, Method, Return, To, Try, Var, Via, When, While, Assign, AddAssign, SubtractAssign, MultiplyAssign, FloorDivideAssign, RemainderAssign, ModAssign, PowAssign, AndAssign, OrAssign, XorAssign, LogicalAnd, LogicalOr, Same, NotSame, Matches, AsBigAs, AtMost, AtLeast, Send, Arrow, FatArrow, Till, Through, Pow, FloorDivide, Mod, Plus, Minus, Times, Remainder, Less, Greater, Not, And, Or, Xor, Dot, Comma, Semicolon, Colon, OpenParen, CloseParen, OpenBracket, CloseBracket, OpenBrace, CloseBrace}

-- the kind of the first of these spellings that is the word
abbrev pub kind_among : List (List ℕ × TokenKind) → List ℕ → Option TokenKind
kind_among entries word = option_map (λ (e : List ℕ × TokenKind). e.1) (find (λ (e : List ℕ × TokenKind). bytes_eq word e.0) entries)

-- the words that are no identifiers: the keywords and a lone `_`
abbrev pub reserved : List (List ℕ × TokenKind)
reserved =
    (codes "_", Ignore) ∷ (codes "break", Break) ∷ (codes "catch", Catch) ∷ (codes "continue", Continue) ∷ (codes "def", Def)
    ∷ (codes "else", Else) ∷ (codes "escape", Escape) ∷ (codes "exit", Exit) ∷ (codes "finally", Finally) ∷ (codes "fn", Fn)
    ∷ (codes "for", For) ∷ (codes "if", If) ∷ (codes "implements", Implements) ∷ (codes "in", In) ∷ (codes "match", Match)
    ∷ (codes "method", Method) ∷ (codes "return", Return) ∷ (codes "to", To) ∷ (codes "try", Try) ∷ (codes "var", Var)
    ∷ (codes "via", Via) ∷ (codes "when", When) ∷ (codes "while", While) ∷ []

abbrev pub word_kind : List ℕ → TokenKind
word_kind word = elim (kind_among reserved word) [ None ↦ Identifier | Some kind ↦ kind ]

abbrev pub operators : List (List ℕ × TokenKind)
operators =
    (codes "//=", FloorDivideAssign) ∷ (codes "%%=", ModAssign) ∷ (codes "**=", PowAssign) ∷ (codes "<=>", AsBigAs)
    ∷ (codes "..!", Till) ∷ (codes ":=", Assign) ∷ (codes "+=", AddAssign) ∷ (codes "-=", SubtractAssign)
    ∷ (codes "*=", MultiplyAssign) ∷ (codes "%=", RemainderAssign) ∷ (codes "&=", AndAssign) ∷ (codes "|=", OrAssign)
    ∷ (codes "^=", XorAssign) ∷ (codes "&&", LogicalAnd) ∷ (codes "||", LogicalOr) ∷ (codes "==", Same)
    ∷ (codes "!=", NotSame) ∷ (codes "=~", Matches) ∷ (codes "<=", AtMost) ∷ (codes ">=", AtLeast) ∷ (codes "<-", Send)
    ∷ (codes "->", Arrow) ∷ (codes "=>", FatArrow) ∷ (codes "..", Through) ∷ (codes "**", Pow) ∷ (codes "//", FloorDivide)
    ∷ (codes "%%", Mod) ∷ (codes "+", Plus) ∷ (codes "-", Minus) ∷ (codes "*", Times) ∷ (codes "%", Remainder)
    ∷ (codes "<", Less) ∷ (codes ">", Greater) ∷ (codes "!", Not) ∷ (codes "&", And) ∷ (codes "|", Or) ∷ (codes "^", Xor)
    ∷ (codes ".", Dot) ∷ (codes ",", Comma) ∷ (codes ";", Semicolon) ∷ (codes ":", Colon) ∷ (codes "(", OpenParen)
    ∷ (codes ")", CloseParen) ∷ (codes "[", OpenBracket) ∷ (codes "]", CloseBracket) ∷ (codes "{", OpenBrace)
    ∷ (codes "}", CloseBrace) ∷ []

-- the operator that the first bytes are, up to so many, and its length
abbrev pub operator_of : ℕ → List ℕ → Option (TokenKind × ℕ)
operator_of most text = option_map (λ (k : TokenKind). (k, length (take most text))) (kind_among operators (take most text))

abbrev pub or_else : Option (TokenKind × ℕ) → Option (TokenKind × ℕ) → Option (TokenKind × ℕ)
or_else None other = other
or_else (Some found) other = Some found

-- the longest operator with which the text begins: no operator has more than three bytes
abbrev pub longest_operator : List ℕ → Option (TokenKind × ℕ)
longest_operator text = or_else (operator_of 3 text) (or_else (operator_of 2 text) (operator_of 1 text))
