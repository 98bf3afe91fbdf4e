use Rattle.std.proofs.Common.{◌≡◌, ℕ, nat_eq, ap, ◌∙◌, refl}
use denote.Enum.Declared.{tag_of}
use Rattle.def_syntax.specs.contracts.token.TokenKind.{the_type}
use Rattle.def_syntax.specs.declared.token.TokenKind.{TokenKind}
use Rattle.def_syntax.specs.declared.token.TokenKind.TheVariants as kinds
use Rattle.def_syntax.specs.Kinds.{code}
use Rattle.ev_parse_table.proofs.picks.is_same.Goals as goal

-- the number of a variant is that of its kind
tag_is : (k : TokenKind) → tag_of the_type k ≡ code k
tag_is kinds.LineEnd = refl
tag_is kinds.Number = refl
tag_is kinds.Text = refl
tag_is kinds.Character = refl
tag_is kinds.Identifier = refl
tag_is kinds.Ignore = refl
tag_is kinds.Break = refl
tag_is kinds.Catch = refl
tag_is kinds.Continue = refl
tag_is kinds.Def = refl
tag_is kinds.Else = refl
tag_is kinds.Escape = refl
tag_is kinds.Exit = refl
tag_is kinds.Finally = refl
tag_is kinds.Fn = refl
tag_is kinds.For = refl
tag_is kinds.If = refl
tag_is kinds.Implements = refl
tag_is kinds.In = refl
tag_is kinds.Match = refl
tag_is kinds.Method = refl
tag_is kinds.Return = refl
tag_is kinds.To = refl
tag_is kinds.Try = refl
tag_is kinds.Var = refl
tag_is kinds.Via = refl
tag_is kinds.When = refl
tag_is kinds.While = refl
tag_is kinds.Assign = refl
tag_is kinds.AddAssign = refl
tag_is kinds.SubtractAssign = refl
tag_is kinds.MultiplyAssign = refl
tag_is kinds.FloorDivideAssign = refl
tag_is kinds.RemainderAssign = refl
tag_is kinds.ModAssign = refl
tag_is kinds.PowAssign = refl
tag_is kinds.AndAssign = refl
tag_is kinds.OrAssign = refl
tag_is kinds.XorAssign = refl
tag_is kinds.LogicalAnd = refl
tag_is kinds.LogicalOr = refl
tag_is kinds.Same = refl
tag_is kinds.NotSame = refl
tag_is kinds.Matches = refl
tag_is kinds.AsBigAs = refl
tag_is kinds.AtMost = refl
tag_is kinds.AtLeast = refl
tag_is kinds.Send = refl
tag_is kinds.Arrow = refl
tag_is kinds.FatArrow = refl
tag_is kinds.Till = refl
tag_is kinds.Through = refl
tag_is kinds.Pow = refl
tag_is kinds.FloorDivide = refl
tag_is kinds.Mod = refl
tag_is kinds.Plus = refl
tag_is kinds.Minus = refl
tag_is kinds.Times = refl
tag_is kinds.Remainder = refl
tag_is kinds.Less = refl
tag_is kinds.Greater = refl
tag_is kinds.Not = refl
tag_is kinds.And = refl
tag_is kinds.Or = refl
tag_is kinds.Xor = refl
tag_is kinds.Dot = refl
tag_is kinds.Comma = refl
tag_is kinds.Semicolon = refl
tag_is kinds.Colon = refl
tag_is kinds.OpenParen = refl
tag_is kinds.CloseParen = refl
tag_is kinds.OpenBracket = refl
tag_is kinds.CloseBracket = refl
tag_is kinds.OpenBrace = refl
tag_is kinds.CloseBrace = refl

pub returns : goal.returns
returns c = ap (λ (n : ℕ). nat_eq n (tag_of the_type c.args.b)) (tag_is c.args.a) ∙ ap (λ (n : ℕ). nat_eq (code c.args.a) n) (tag_is c.args.b)
