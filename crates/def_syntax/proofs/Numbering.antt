-- Kinds are told apart by their numbers.
use Rattle.std.proofs.Common.{◌≡◌, ℕ, zero, suc, Bool, true, false, ap, sym, ◌∙◌, refl, eqb-true, get_or, List, [], ◌∷◌, ◌&&◌, subst}
use Rattle.def_syntax.specs.declared.token.TokenKind.{TokenKind}
use Rattle.def_syntax.specs.declared.token.TokenKind.TheVariants as kinds
use Rattle.def_syntax.specs.Kinds.{code, same}

unfoldable pub all_kinds : List TokenKind
all_kinds = kinds.LineEnd ∷ kinds.Number ∷ kinds.Text ∷ kinds.Character ∷ kinds.Identifier ∷ kinds.Ignore ∷ kinds.Break ∷ kinds.Catch ∷ kinds.Continue ∷ kinds.Def ∷ kinds.Else ∷ kinds.Escape ∷ kinds.Exit ∷ kinds.Finally ∷ kinds.Fn ∷ kinds.For ∷ kinds.If ∷ kinds.Implements ∷ kinds.In ∷ kinds.Match ∷ kinds.Method ∷ kinds.Return ∷ kinds.To ∷ kinds.Try ∷ kinds.Var ∷ kinds.Via ∷ kinds.When ∷ kinds.While ∷ kinds.Assign ∷ kinds.AddAssign ∷ kinds.SubtractAssign ∷ kinds.MultiplyAssign ∷ kinds.FloorDivideAssign ∷ kinds.RemainderAssign ∷ kinds.ModAssign ∷ kinds.PowAssign ∷ kinds.AndAssign ∷ kinds.OrAssign ∷ kinds.XorAssign ∷ kinds.LogicalAnd ∷ kinds.LogicalOr ∷ kinds.Same ∷ kinds.NotSame ∷ kinds.Matches ∷ kinds.AsBigAs ∷ kinds.AtMost ∷ kinds.AtLeast ∷ kinds.Send ∷ kinds.Arrow ∷ kinds.FatArrow ∷ kinds.Till ∷ kinds.Through ∷ kinds.Pow ∷ kinds.FloorDivide ∷ kinds.Mod ∷ kinds.Plus ∷ kinds.Minus ∷ kinds.Times ∷ kinds.Remainder ∷ kinds.Less ∷ kinds.Greater ∷ kinds.Not ∷ kinds.And ∷ kinds.Or ∷ kinds.Xor ∷ kinds.Dot ∷ kinds.Comma ∷ kinds.Semicolon ∷ kinds.Colon ∷ kinds.OpenParen ∷ kinds.CloseParen ∷ kinds.OpenBracket ∷ kinds.CloseBracket ∷ kinds.OpenBrace ∷ kinds.CloseBrace ∷ []

pub decoded : (k : TokenKind) → get_or all_kinds (code k) kinds.LineEnd ≡ k
unfolding all_kinds
decoded kinds.LineEnd = refl
decoded kinds.Number = refl
decoded kinds.Text = refl
decoded kinds.Character = refl
decoded kinds.Identifier = refl
decoded kinds.Ignore = refl
decoded kinds.Break = refl
decoded kinds.Catch = refl
decoded kinds.Continue = refl
decoded kinds.Def = refl
decoded kinds.Else = refl
decoded kinds.Escape = refl
decoded kinds.Exit = refl
decoded kinds.Finally = refl
decoded kinds.Fn = refl
decoded kinds.For = refl
decoded kinds.If = refl
decoded kinds.Implements = refl
decoded kinds.In = refl
decoded kinds.Match = refl
decoded kinds.Method = refl
decoded kinds.Return = refl
decoded kinds.To = refl
decoded kinds.Try = refl
decoded kinds.Var = refl
decoded kinds.Via = refl
decoded kinds.When = refl
decoded kinds.While = refl
decoded kinds.Assign = refl
decoded kinds.AddAssign = refl
decoded kinds.SubtractAssign = refl
decoded kinds.MultiplyAssign = refl
decoded kinds.FloorDivideAssign = refl
decoded kinds.RemainderAssign = refl
decoded kinds.ModAssign = refl
decoded kinds.PowAssign = refl
decoded kinds.AndAssign = refl
decoded kinds.OrAssign = refl
decoded kinds.XorAssign = refl
decoded kinds.LogicalAnd = refl
decoded kinds.LogicalOr = refl
decoded kinds.Same = refl
decoded kinds.NotSame = refl
decoded kinds.Matches = refl
decoded kinds.AsBigAs = refl
decoded kinds.AtMost = refl
decoded kinds.AtLeast = refl
decoded kinds.Send = refl
decoded kinds.Arrow = refl
decoded kinds.FatArrow = refl
decoded kinds.Till = refl
decoded kinds.Through = refl
decoded kinds.Pow = refl
decoded kinds.FloorDivide = refl
decoded kinds.Mod = refl
decoded kinds.Plus = refl
decoded kinds.Minus = refl
decoded kinds.Times = refl
decoded kinds.Remainder = refl
decoded kinds.Less = refl
decoded kinds.Greater = refl
decoded kinds.Not = refl
decoded kinds.And = refl
decoded kinds.Or = refl
decoded kinds.Xor = refl
decoded kinds.Dot = refl
decoded kinds.Comma = refl
decoded kinds.Semicolon = refl
decoded kinds.Colon = refl
decoded kinds.OpenParen = refl
decoded kinds.CloseParen = refl
decoded kinds.OpenBracket = refl
decoded kinds.CloseBracket = refl
decoded kinds.OpenBrace = refl
decoded kinds.CloseBrace = refl

pub same_true : (a b : TokenKind) → same a b ≡ true → a ≡ b
same_true a b h = sym (decoded a) ∙ ap (λ (n : ℕ). get_or all_kinds n kinds.LineEnd) (eqb-true (code a) (code b) h) ∙ decoded b

pub same_self : (a : TokenKind) → same a a ≡ true
same_self kinds.LineEnd = refl
same_self kinds.Number = refl
same_self kinds.Text = refl
same_self kinds.Character = refl
same_self kinds.Identifier = refl
same_self kinds.Ignore = refl
same_self kinds.Break = refl
same_self kinds.Catch = refl
same_self kinds.Continue = refl
same_self kinds.Def = refl
same_self kinds.Else = refl
same_self kinds.Escape = refl
same_self kinds.Exit = refl
same_self kinds.Finally = refl
same_self kinds.Fn = refl
same_self kinds.For = refl
same_self kinds.If = refl
same_self kinds.Implements = refl
same_self kinds.In = refl
same_self kinds.Match = refl
same_self kinds.Method = refl
same_self kinds.Return = refl
same_self kinds.To = refl
same_self kinds.Try = refl
same_self kinds.Var = refl
same_self kinds.Via = refl
same_self kinds.When = refl
same_self kinds.While = refl
same_self kinds.Assign = refl
same_self kinds.AddAssign = refl
same_self kinds.SubtractAssign = refl
same_self kinds.MultiplyAssign = refl
same_self kinds.FloorDivideAssign = refl
same_self kinds.RemainderAssign = refl
same_self kinds.ModAssign = refl
same_self kinds.PowAssign = refl
same_self kinds.AndAssign = refl
same_self kinds.OrAssign = refl
same_self kinds.XorAssign = refl
same_self kinds.LogicalAnd = refl
same_self kinds.LogicalOr = refl
same_self kinds.Same = refl
same_self kinds.NotSame = refl
same_self kinds.Matches = refl
same_self kinds.AsBigAs = refl
same_self kinds.AtMost = refl
same_self kinds.AtLeast = refl
same_self kinds.Send = refl
same_self kinds.Arrow = refl
same_self kinds.FatArrow = refl
same_self kinds.Till = refl
same_self kinds.Through = refl
same_self kinds.Pow = refl
same_self kinds.FloorDivide = refl
same_self kinds.Mod = refl
same_self kinds.Plus = refl
same_self kinds.Minus = refl
same_self kinds.Times = refl
same_self kinds.Remainder = refl
same_self kinds.Less = refl
same_self kinds.Greater = refl
same_self kinds.Not = refl
same_self kinds.And = refl
same_self kinds.Or = refl
same_self kinds.Xor = refl
same_self kinds.Dot = refl
same_self kinds.Comma = refl
same_self kinds.Semicolon = refl
same_self kinds.Colon = refl
same_self kinds.OpenParen = refl
same_self kinds.CloseParen = refl
same_self kinds.OpenBracket = refl
same_self kinds.CloseBracket = refl
same_self kinds.OpenBrace = refl
same_self kinds.CloseBrace = refl

and_l : (a b : Bool) → (a && b) ≡ true → a ≡ true
and_l true b h = refl
and_l false b h = h

and_r : (a b : Bool) → (a && b) ≡ true → b ≡ true
and_r true b h = h
and_r false b h = cc

-- a test at every kind
abbrev every_of : List TokenKind → (TokenKind → Bool) → Bool
every_of [] f = true
every_of (k ∷ ks) f = f k && every_of ks f

every_get : (ks : List TokenKind) (f : TokenKind → Bool) (d : TokenKind) → every_of ks f ≡ true → f d ≡ true → (i : ℕ) → f (get_or ks i d) ≡ true
every_get [] f d h e i = e
every_get (k ∷ ks) f d h e zero = and_l (f k) (every_of ks f) h
every_get (k ∷ ks) f d h e (suc i) = every_get ks f d (and_r (f k) (every_of ks f) h) e i

unfoldable pub every : (TokenKind → Bool) → Bool
every f = every_of all_kinds f

pub every_at : (f : TokenKind → Bool) → every f ≡ true → (k : TokenKind) → f k ≡ true
unfolding every all_kinds
every_at f h k = subst (λ (x : TokenKind). f x ≡ true) (decoded k) (every_get all_kinds f kinds.LineEnd h (and_l (f kinds.LineEnd) _ h) (code k))
