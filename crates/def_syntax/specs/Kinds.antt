-- Kinds of tokens by number.
use Rattle.std.specs.Prelude.{ℕ, Bool, nat_eq, List, [], ◌∷◌, false, ◌||◌}
use Rattle.def_syntax.specs.declared.token.TokenKind.{TokenKind}
use Rattle.def_syntax.specs.declared.token.TokenKind.TheVariants as kinds

-- the number of a kind
abbrev pub code : TokenKind → ℕ
code kinds.LineEnd = 0
code kinds.Number = 1
code kinds.Text = 2
code kinds.Character = 3
code kinds.Identifier = 4
code kinds.Ignore = 5
code kinds.Break = 6
code kinds.Catch = 7
code kinds.Continue = 8
code kinds.Def = 9
code kinds.Else = 10
code kinds.Escape = 11
code kinds.Exit = 12
code kinds.Finally = 13
code kinds.Fn = 14
code kinds.For = 15
code kinds.If = 16
code kinds.Implements = 17
code kinds.In = 18
code kinds.Match = 19
code kinds.Method = 20
code kinds.Return = 21
code kinds.To = 22
code kinds.Try = 23
code kinds.Var = 24
code kinds.Via = 25
code kinds.When = 26
code kinds.While = 27
code kinds.Assign = 28
code kinds.AddAssign = 29
code kinds.SubtractAssign = 30
code kinds.MultiplyAssign = 31
code kinds.FloorDivideAssign = 32
code kinds.RemainderAssign = 33
code kinds.ModAssign = 34
code kinds.PowAssign = 35
code kinds.AndAssign = 36
code kinds.OrAssign = 37
code kinds.XorAssign = 38
code kinds.LogicalAnd = 39
code kinds.LogicalOr = 40
code kinds.Same = 41
code kinds.NotSame = 42
code kinds.Matches = 43
code kinds.AsBigAs = 44
code kinds.AtMost = 45
code kinds.AtLeast = 46
code kinds.Send = 47
code kinds.Arrow = 48
code kinds.FatArrow = 49
code kinds.Till = 50
code kinds.Through = 51
code kinds.Pow = 52
code kinds.FloorDivide = 53
code kinds.Mod = 54
code kinds.Plus = 55
code kinds.Minus = 56
code kinds.Times = 57
code kinds.Remainder = 58
code kinds.Less = 59
code kinds.Greater = 60
code kinds.Not = 61
code kinds.And = 62
code kinds.Or = 63
code kinds.Xor = 64
code kinds.Dot = 65
code kinds.Comma = 66
code kinds.Semicolon = 67
code kinds.Colon = 68
code kinds.OpenParen = 69
code kinds.CloseParen = 70
code kinds.OpenBracket = 71
code kinds.CloseBracket = 72
code kinds.OpenBrace = 73
code kinds.CloseBrace = 74

abbrev pub same : TokenKind → TokenKind → Bool
same a b = nat_eq (code a) (code b)

abbrev pub among : TokenKind → List TokenKind → Bool
among k [] = false
among k (j ∷ js) = same k j || among k js
