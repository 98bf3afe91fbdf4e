-- Small texts and their tokens.
use Rattle.std.specs.Prelude.{◌≡◌, ℕ, List, [], ◌∷◌, ◌++◌, codes, Ok, Err}
use Rattle.std.specs.Char.{encode_utf8}
use Rattle.std.specs.Str.{chars}
use Rattle.def_syntax.specs.declared.token.Token.{Token}
use Rattle.def_syntax.specs.declared.token.TokenKind.TheVariants.{LineEnd, Number, Text, Character, Identifier, Ignore, If, Assign, AsBigAs, AtMost, Minus, Not, Arrow, Send, Through, Till, Dot, FloorDivide, Pow, MultiplyAssign, OpenParen, CloseParen, CloseBracket, OpenBrace}
use Rattle.ev_lexer.specs.Pieces.{comment_end, closing, bad_escape, piece}
use Rattle.ev_lexer.specs.LineEnds.{kept}
use Rattle.ev_lexer.specs.Lexed.{lexed, split, token}
use Rattle.ucd_table.specs.Rows.{in_ranges}
use Rattle.ucd_derived.specs.Binary.{is_xid_start, is_xid_continue}
use Rattle.ucd_derived.specs.XidStartRanges.{xid_start_ranges}
use Rattle.ucd_derived.specs.XidContinueRanges.{xid_continue_ranges}

-- a line feed, a carriage return, a backslash, a quote
abbrev lf : List ℕ
lf = 10 ∷ []

abbrev cr : List ℕ
cr = 13 ∷ []

abbrev slant : List ℕ
slant = 92 ∷ []

abbrev mark : List ℕ
mark = 34 ∷ []

abbrev pub Fails : List ℕ → ℕ → ℕ → Type 0
Fails text kind place = lexed text ≡ Err (kind, place)

abbrev pub Gives : List ℕ → List Token → Type 0
Gives text tokens = lexed text ≡ Ok tokens

-- characters that begin no token
abbrev pub Stray : Type 0
Stray =
    Fails (codes "a@") 1 1
    × Fails (codes "1 " ++ slant ++ codes " " ++ lf) 1 2
    × Fails (codes "a" ++ slant) 1 1
    × Fails (cr ++ codes "a") 1 0
    × Fails (codes "/") 1 0

-- literals that are none
abbrev pub Broken : Type 0
Broken =
    Fails (mark ++ codes "x") 2 0
    × Fails (mark ++ codes "a" ++ slant ++ codes "q") 2 0
    × Fails (mark ++ codes "a" ++ slant ++ codes "q" ++ mark) 3 2
    × Fails (codes "'ab'") 3 0
    × Fails (codes "''") 3 0
    × Fails (codes "'a" ++ slant ++ codes "q'") 3 2
    × Fails (codes "'ab") 2 0
    × Fails (codes "a " ++ mark ++ slant ++ codes "ud800" ++ mark) 3 3

abbrev pub Comments : Type 0
Comments =
    Fails (codes "/** y") 5 0
    × Fails (codes "/**/ 1") 5 0
    × Gives (codes "/***/ 1") (token Number 6 7 ∷ [])
    × Gives (codes "# x" ++ lf ++ codes "1") (token LineEnd 3 4 ∷ token Number 4 5 ∷ [])

abbrev pub Numbers : Type 0
Numbers =
    Gives (codes "007") (token Number 0 3 ∷ [])
    × Gives (codes "12ab") (token Number 0 2 ∷ token Identifier 2 4 ∷ [])

-- the greatest integer and one more
abbrev pub Greatest : Type 0
Greatest =
    Gives (codes "170141183460469231731687303715884105727") (token Number 0 39 ∷ [])
    × Fails (codes "170141183460469231731687303715884105728") 4 0

abbrev pub Literals : Type 0
Literals =
    Gives (codes "'" ++ lf ++ codes "'") (token Character 0 3 ∷ [])
    × Gives (mark ++ slant ++ mark ++ mark) (token Text 0 4 ∷ [])

abbrev pub Words : Type 0
Words =
    Gives (codes "if _ iff") (token If 0 2 ∷ token Ignore 3 4 ∷ token Identifier 5 8 ∷ [])
    × Gives (codes "__x") (token Identifier 0 3 ∷ [])

-- words with characters outside ASCII: `été`, and a no-break space, which is none
abbrev pub Accents : Type 0
Accents =
    Gives (195 ∷ 169 ∷ 116 ∷ 195 ∷ 169 ∷ codes " := 1") (token Identifier 0 5 ∷ token Assign 6 8 ∷ token Number 9 10 ∷ [])
    × Fails (194 ∷ 160 ∷ []) 1 0

abbrev pub Operators : Type 0
Operators =
    Gives (codes "<=><=<-..!...") (token AsBigAs 0 3 ∷ token AtMost 3 5 ∷ token Send 5 7 ∷ token Till 7 10 ∷ token Through 10 12 ∷ token Dot 12 13 ∷ [])
    × Gives (codes "//***=") (token FloorDivide 0 2 ∷ token Pow 2 4 ∷ token MultiplyAssign 4 6 ∷ [])

abbrev pub LineEnds : Type 0
LineEnds =
    Gives (codes "-" ++ lf ++ lf ++ codes "1") (token Minus 0 1 ∷ token Number 3 4 ∷ [])
    × Gives (codes "!" ++ lf ++ codes "1") (token Not 0 1 ∷ token LineEnd 1 2 ∷ token Number 2 3 ∷ [])
    × Gives (codes "->" ++ cr ++ lf ++ codes "1") (token Arrow 0 2 ∷ token Number 4 5 ∷ [])
    × Gives (codes "1" ++ slant ++ lf ++ codes "2") (token Number 0 1 ∷ token Number 3 4 ∷ [])
    × Gives (codes "(" ++ lf ++ codes "{" ++ lf ++ codes "]" ++ lf ++ codes ")" ++ lf) (token OpenParen 0 1 ∷ token OpenBrace 2 3 ∷ token LineEnd 3 4 ∷ token CloseBracket 4 5 ∷ token CloseParen 6 7 ∷ token LineEnd 7 8 ∷ [])

-- opens each definition by recursion
unfoldable pub opened_lexer : Unit {0}
unfolding chars comment_end closing bad_escape piece split kept
opened_lexer = tt

-- and the tables of the characters of identifiers
unfoldable pub opened_characters : Unit {0}
unfolding encode_utf8 is_xid_start is_xid_continue xid_start_ranges xid_continue_ranges in_ranges opened_lexer
opened_characters = tt
