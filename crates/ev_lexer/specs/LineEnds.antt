-- Which line ends are tokens.
use Rattle.std.specs.Prelude.{Bool, true, false, ◌&&◌, ◌||◌, List, [], ◌∷◌}
use Rattle.def_syntax.specs.declared.token.Token.{Token}
use Rattle.def_syntax.specs.declared.token.TokenKind.{TokenKind}
use Rattle.def_syntax.specs.declared.token.TokenKind.TheVariants.{LineEnd, Assign, AddAssign, SubtractAssign, MultiplyAssign, FloorDivideAssign, RemainderAssign, ModAssign, PowAssign, AndAssign, OrAssign, XorAssign, LogicalAnd, LogicalOr, Same, NotSame, Matches, AsBigAs, AtMost, AtLeast, Send, Arrow, FatArrow, Till, Through, Pow, FloorDivide, Mod, Plus, Minus, Times, Remainder, Less, Greater, And, Or, Xor, Dot, Comma, OpenParen, CloseParen, OpenBracket, CloseBracket, OpenBrace, CloseBrace}

abbrev pub is_line_end : TokenKind → Bool
is_line_end LineEnd = true
is_line_end _ = false

-- a line end behind a token of this kind is dropped: an infix operator, also where it stands as a prefix, an assignment,
-- `,`, `.`, `->`, `=>` and `<-`
abbrev pub joins : TokenKind → Bool
joins Assign = true
joins AddAssign = true
joins SubtractAssign = true
joins MultiplyAssign = true
joins FloorDivideAssign = true
joins RemainderAssign = true
joins ModAssign = true
joins PowAssign = true
joins AndAssign = true
joins OrAssign = true
joins XorAssign = true
joins LogicalAnd = true
joins LogicalOr = true
joins Same = true
joins NotSame = true
joins Matches = true
joins AsBigAs = true
joins AtMost = true
joins AtLeast = true
joins Send = true
joins Arrow = true
joins FatArrow = true
joins Till = true
joins Through = true
joins Pow = true
joins FloorDivide = true
joins Mod = true
joins Plus = true
joins Minus = true
joins Times = true
joins Remainder = true
joins Less = true
joins Greater = true
joins And = true
joins Or = true
joins Xor = true
joins Dot = true
joins Comma = true
joins _ = false

-- the open brackets behind a token, the innermost first, each by whether line ends are dropped in it; a closing bracket of
-- any kind closes the innermost
abbrev pub closed : List Bool → List Bool
closed [] = []
closed (inner ∷ outer) = outer

abbrev pub opened : TokenKind → List Bool → List Bool
opened OpenParen brackets = true ∷ brackets
opened OpenBracket brackets = true ∷ brackets
opened OpenBrace brackets = false ∷ brackets
opened CloseParen brackets = closed brackets
opened CloseBracket brackets = closed brackets
opened CloseBrace brackets = closed brackets
opened _ brackets = brackets

abbrev pub is_inside : List Bool → Bool
is_inside [] = false
is_inside (inner ∷ outer) = inner

-- The tokens of a text from which the line ends are dropped that are none: those in `(` and `[`, where the innermost open
-- bracket counts, and those behind a token that joins, where the last token counts that was kept.
unfoldable pub kept : List Bool → Bool → List Token → List Token
kept brackets joined [] = []
kept brackets joined (token ∷ more) = elim (is_line_end token.kind && (is_inside brackets || joined)) [
  | true ↦ kept brackets joined more
  | false ↦ token ∷ kept (opened token.kind brackets) (joins token.kind) more
]
