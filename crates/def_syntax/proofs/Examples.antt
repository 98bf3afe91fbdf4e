-- What some texts spell, as the logic computes it.
use Rattle.std.proofs.Common.{◌≡◌, ℕ, List, [], ◌∷◌, ◌++◌, refl}
use Rattle.def_syntax.specs.declared.token.TokenKind.{TokenKind}
use Rattle.def_syntax.specs.declared.token.TokenKind.TheVariants as kinds
use Rattle.def_syntax.specs.declared.syntax.Word.{Word}
use Rattle.def_syntax.specs.Heights.{Answer, tree, no_spelling, too_nested, answer, answer_from, low_frames}
use Rattle.def_syntax.specs.Machine.{begin, step, step_in, pop, finish, end_frames}

abbrev words : List TokenKind → List Word
words [] = []
words (k ∷ ks) = record { kind = k; number = 0 } ∷ words ks

-- nothing where there is a tree, else 0 or 1 and the place
abbrev pub code_of : Answer → List ℕ
code_of (tree w) = []
code_of (no_spelling k) = 0 ∷ k ∷ []
code_of (too_nested k) = 1 ∷ k ∷ []

-- 1 +
row_0 : code_of (answer (words (kinds.Number ∷ kinds.Plus ∷ []))) ≡ 0 ∷ 2 ∷ []
unfolding answer_from step step_in pop begin finish end_frames low_frames
row_0 = refl

-- x + x := 1
row_1 : code_of (answer (words (kinds.Identifier ∷ kinds.Plus ∷ kinds.Identifier ∷ kinds.Assign ∷ kinds.Number ∷ []))) ≡ 0 ∷ 3 ∷ []
unfolding answer_from step step_in pop begin finish end_frames low_frames
row_1 = refl

-- x() := 1
row_2 : code_of (answer (words (kinds.Identifier ∷ kinds.OpenParen ∷ kinds.CloseParen ∷ kinds.Assign ∷ kinds.Number ∷ []))) ≡ 0 ∷ 3 ∷ []
unfolding answer_from step step_in pop begin finish end_frames low_frames
row_2 = refl

-- x[1] + x := 1
row_3 : code_of (answer (words (kinds.Identifier ∷ kinds.OpenBracket ∷ kinds.Number ∷ kinds.CloseBracket ∷ kinds.Plus ∷ kinds.Identifier ∷ kinds.Assign ∷ kinds.Number ∷ []))) ≡ 0 ∷ 6 ∷ []
unfolding answer_from step step_in pop begin finish end_frames low_frames
row_3 = refl

-- (x) := 1
row_4 : code_of (answer (words (kinds.OpenParen ∷ kinds.Identifier ∷ kinds.CloseParen ∷ kinds.Assign ∷ kinds.Number ∷ []))) ≡ 0 ∷ 3 ∷ []
unfolding answer_from step step_in pop begin finish end_frames low_frames
row_4 = refl

-- (x[1]) := 2
row_5 : code_of (answer (words (kinds.OpenParen ∷ kinds.Identifier ∷ kinds.OpenBracket ∷ kinds.Number ∷ kinds.CloseBracket ∷ kinds.CloseParen ∷ kinds.Assign ∷ kinds.Number ∷ []))) ≡ 0 ∷ 6 ∷ []
unfolding answer_from step step_in pop begin finish end_frames low_frames
row_5 = refl

-- -x[1] := 2
row_6 : code_of (answer (words (kinds.Minus ∷ kinds.Identifier ∷ kinds.OpenBracket ∷ kinds.Number ∷ kinds.CloseBracket ∷ kinds.Assign ∷ kinds.Number ∷ []))) ≡ 0 ∷ 5 ∷ []
unfolding answer_from step step_in pop begin finish end_frames low_frames
row_6 = refl

-- 1 + x[1] := 2
row_7 : code_of (answer (words (kinds.Number ∷ kinds.Plus ∷ kinds.Identifier ∷ kinds.OpenBracket ∷ kinds.Number ∷ kinds.CloseBracket ∷ kinds.Assign ∷ kinds.Number ∷ []))) ≡ 0 ∷ 6 ∷ []
unfolding answer_from step step_in pop begin finish end_frames low_frames
row_7 = refl

-- x[1] += 2
row_8 : code_of (answer (words (kinds.Identifier ∷ kinds.OpenBracket ∷ kinds.Number ∷ kinds.CloseBracket ∷ kinds.AddAssign ∷ kinds.Number ∷ []))) ≡ 0 ∷ 4 ∷ []
unfolding answer_from step step_in pop begin finish end_frames low_frames
row_8 = refl

-- (x)[1] := 2
row_9 : code_of (answer (words (kinds.OpenParen ∷ kinds.Identifier ∷ kinds.CloseParen ∷ kinds.OpenBracket ∷ kinds.Number ∷ kinds.CloseBracket ∷ kinds.Assign ∷ kinds.Number ∷ []))) ≡ []
unfolding answer_from step step_in pop begin finish end_frames low_frames
row_9 = refl

-- x[1] := x += y := 1
row_10 : code_of (answer (words (kinds.Identifier ∷ kinds.OpenBracket ∷ kinds.Number ∷ kinds.CloseBracket ∷ kinds.Assign ∷ kinds.Identifier ∷ kinds.AddAssign ∷ kinds.Identifier ∷ kinds.Assign ∷ kinds.Number ∷ []))) ≡ []
unfolding answer_from step step_in pop begin finish end_frames low_frames
row_10 = refl

-- def p exit j[0] := 1
row_11 : code_of (answer (words (kinds.Def ∷ kinds.Identifier ∷ kinds.Exit ∷ kinds.Identifier ∷ kinds.OpenBracket ∷ kinds.Number ∷ kinds.CloseBracket ∷ kinds.Assign ∷ kinds.Number ∷ []))) ≡ []
unfolding answer_from step step_in pop begin finish end_frames low_frames
row_11 = refl

-- def p exit j := k := 1
row_12 : code_of (answer (words (kinds.Def ∷ kinds.Identifier ∷ kinds.Exit ∷ kinds.Identifier ∷ kinds.Assign ∷ kinds.Identifier ∷ kinds.Assign ∷ kinds.Number ∷ []))) ≡ []
unfolding answer_from step step_in pop begin finish end_frames low_frames
row_12 = refl

-- f(return, 1)
row_13 : code_of (answer (words (kinds.Identifier ∷ kinds.OpenParen ∷ kinds.Return ∷ kinds.Comma ∷ kinds.Number ∷ kinds.CloseParen ∷ []))) ≡ 0 ∷ 3 ∷ []
unfolding answer_from step step_in pop begin finish end_frames low_frames
row_13 = refl

-- return
row_14 : code_of (answer (words (kinds.Return ∷ []))) ≡ []
unfolding answer_from step step_in pop begin finish end_frames low_frames
row_14 = refl

-- return return
row_15 : code_of (answer (words (kinds.Return ∷ kinds.Return ∷ []))) ≡ []
unfolding answer_from step step_in pop begin finish end_frames low_frames
row_15 = refl

-- break 1; continue
row_16 : code_of (answer (words (kinds.Break ∷ kinds.Number ∷ kinds.Semicolon ∷ kinds.Continue ∷ []))) ≡ []
unfolding answer_from step step_in pop begin finish end_frames low_frames
row_16 = refl

-- for x in return {1} {2}
row_17 : code_of (answer (words (kinds.For ∷ kinds.Identifier ∷ kinds.In ∷ kinds.Return ∷ kinds.OpenBrace ∷ kinds.Number ∷ kinds.CloseBrace ∷ kinds.OpenBrace ∷ kinds.Number ∷ kinds.CloseBrace ∷ []))) ≡ []
unfolding answer_from step step_in pop begin finish end_frames low_frames
row_17 = refl

-- for x in return {1}
row_18 : code_of (answer (words (kinds.For ∷ kinds.Identifier ∷ kinds.In ∷ kinds.Return ∷ kinds.OpenBrace ∷ kinds.Number ∷ kinds.CloseBrace ∷ []))) ≡ 0 ∷ 7 ∷ []
unfolding answer_from step step_in pop begin finish end_frames low_frames
row_18 = refl

-- for k => v in c {}
row_19 : code_of (answer (words (kinds.For ∷ kinds.Identifier ∷ kinds.FatArrow ∷ kinds.Identifier ∷ kinds.In ∷ kinds.Identifier ∷ kinds.OpenBrace ∷ kinds.CloseBrace ∷ []))) ≡ []
unfolding answer_from step step_in pop begin finish end_frames low_frames
row_19 = refl

-- 1 ** 2 ** 3
row_20 : code_of (answer (words (kinds.Number ∷ kinds.Pow ∷ kinds.Number ∷ kinds.Pow ∷ kinds.Number ∷ []))) ≡ 0 ∷ 3 ∷ []
unfolding answer_from step step_in pop begin finish end_frames low_frames
row_20 = refl

-- 1 < 2 < 3
row_21 : code_of (answer (words (kinds.Number ∷ kinds.Less ∷ kinds.Number ∷ kinds.Less ∷ kinds.Number ∷ []))) ≡ 0 ∷ 3 ∷ []
unfolding answer_from step step_in pop begin finish end_frames low_frames
row_21 = refl

-- 1 == 2 == 3
row_22 : code_of (answer (words (kinds.Number ∷ kinds.Same ∷ kinds.Number ∷ kinds.Same ∷ kinds.Number ∷ []))) ≡ 0 ∷ 3 ∷ []
unfolding answer_from step step_in pop begin finish end_frames low_frames
row_22 = refl

-- 1 .. 2 ..! 3
row_23 : code_of (answer (words (kinds.Number ∷ kinds.Through ∷ kinds.Number ∷ kinds.Till ∷ kinds.Number ∷ []))) ≡ 0 ∷ 3 ∷ []
unfolding answer_from step step_in pop begin finish end_frames low_frames
row_23 = refl

-- a =~ p =~ q
row_24 : code_of (answer (words (kinds.Identifier ∷ kinds.Matches ∷ kinds.Identifier ∷ kinds.Matches ∷ kinds.Identifier ∷ []))) ≡ 0 ∷ 3 ∷ []
unfolding answer_from step step_in pop begin finish end_frames low_frames
row_24 = refl

-- -a ** -b * c
row_25 : code_of (answer (words (kinds.Minus ∷ kinds.Identifier ∷ kinds.Pow ∷ kinds.Minus ∷ kinds.Identifier ∷ kinds.Times ∷ kinds.Identifier ∷ []))) ≡ []
unfolding answer_from step step_in pop begin finish end_frames low_frames
row_25 = refl

-- fn (a) {}
row_26 : code_of (answer (words (kinds.Fn ∷ kinds.OpenParen ∷ kinds.Identifier ∷ kinds.CloseParen ∷ kinds.OpenBrace ∷ kinds.CloseBrace ∷ []))) ≡ 0 ∷ 1 ∷ []
unfolding answer_from step step_in pop begin finish end_frames low_frames
row_26 = refl

-- fn a, b {}
row_27 : code_of (answer (words (kinds.Fn ∷ kinds.Identifier ∷ kinds.Comma ∷ kinds.Identifier ∷ kinds.OpenBrace ∷ kinds.CloseBrace ∷ []))) ≡ []
unfolding answer_from step step_in pop begin finish end_frames low_frames
row_27 = refl

-- fn {}
row_28 : code_of (answer (words (kinds.Fn ∷ kinds.OpenBrace ∷ kinds.CloseBrace ∷ []))) ≡ []
unfolding answer_from step step_in pop begin finish end_frames low_frames
row_28 = refl

-- fn a {} (1)
row_29 : code_of (answer (words (kinds.Fn ∷ kinds.Identifier ∷ kinds.OpenBrace ∷ kinds.CloseBrace ∷ kinds.OpenParen ∷ kinds.Number ∷ kinds.CloseParen ∷ []))) ≡ []
unfolding answer_from step step_in pop begin finish end_frames low_frames
row_29 = refl

-- def _(x) {}
row_30 : code_of (answer (words (kinds.Def ∷ kinds.Ignore ∷ kinds.OpenParen ∷ kinds.Identifier ∷ kinds.CloseParen ∷ kinds.OpenBrace ∷ kinds.CloseBrace ∷ []))) ≡ 0 ∷ 2 ∷ []
unfolding answer_from step step_in pop begin finish end_frames low_frames
row_30 = refl

-- def _ { match p {} }
row_31 : code_of (answer (words (kinds.Def ∷ kinds.Ignore ∷ kinds.OpenBrace ∷ kinds.Match ∷ kinds.Identifier ∷ kinds.OpenBrace ∷ kinds.CloseBrace ∷ kinds.CloseBrace ∷ []))) ≡ []
unfolding answer_from step step_in pop begin finish end_frames low_frames
row_31 = refl

-- def x implements a, b { to f() :int {}; method "v"(p, q) {} match _ {} }
row_32 : code_of (answer (words (kinds.Def ∷ kinds.Identifier ∷ kinds.Implements ∷ kinds.Identifier ∷ kinds.Comma ∷ kinds.Identifier ∷ kinds.OpenBrace ∷ kinds.To ∷ kinds.Identifier ∷ kinds.OpenParen ∷ kinds.CloseParen ∷ kinds.Colon ∷ kinds.Identifier ∷ kinds.OpenBrace ∷ kinds.CloseBrace ∷ kinds.Semicolon ∷ kinds.Method ∷ kinds.Text ∷ kinds.OpenParen ∷ kinds.Identifier ∷ kinds.Comma ∷ kinds.Identifier ∷ kinds.CloseParen ∷ kinds.OpenBrace ∷ kinds.CloseBrace ∷ kinds.Match ∷ kinds.Ignore ∷ kinds.OpenBrace ∷ kinds.CloseBrace ∷ kinds.CloseBrace ∷ []))) ≡ []
unfolding answer_from step step_in pop begin finish end_frames low_frames
row_32 = refl

-- def f(a :int, [b, via (c) var d]) :r[1] implements x {}
row_33 : code_of (answer (words (kinds.Def ∷ kinds.Identifier ∷ kinds.OpenParen ∷ kinds.Identifier ∷ kinds.Colon ∷ kinds.Identifier ∷ kinds.Comma ∷ kinds.OpenBracket ∷ kinds.Identifier ∷ kinds.Comma ∷ kinds.Via ∷ kinds.OpenParen ∷ kinds.Identifier ∷ kinds.CloseParen ∷ kinds.Var ∷ kinds.Identifier ∷ kinds.CloseBracket ∷ kinds.CloseParen ∷ kinds.Colon ∷ kinds.Identifier ∷ kinds.OpenBracket ∷ kinds.Number ∷ kinds.CloseBracket ∷ kinds.Implements ∷ kinds.Identifier ∷ kinds.OpenBrace ∷ kinds.CloseBrace ∷ []))) ≡ []
unfolding answer_from step step_in pop begin finish end_frames low_frames
row_33 = refl

-- def [a] := 1
row_34 : code_of (answer (words (kinds.Def ∷ kinds.OpenBracket ∷ kinds.Identifier ∷ kinds.CloseBracket ∷ kinds.Assign ∷ kinds.Number ∷ []))) ≡ []
unfolding answer_from step step_in pop begin finish end_frames low_frames
row_34 = refl

-- def x :g exit j := 1
row_35 : code_of (answer (words (kinds.Def ∷ kinds.Identifier ∷ kinds.Colon ∷ kinds.Identifier ∷ kinds.Exit ∷ kinds.Identifier ∷ kinds.Assign ∷ kinds.Number ∷ []))) ≡ []
unfolding answer_from step step_in pop begin finish end_frames low_frames
row_35 = refl

-- def _ :g := 1
row_36 : code_of (answer (words (kinds.Def ∷ kinds.Ignore ∷ kinds.Colon ∷ kinds.Identifier ∷ kinds.Assign ∷ kinds.Number ∷ []))) ≡ []
unfolding answer_from step step_in pop begin finish end_frames low_frames
row_36 = refl

-- var x :g exit j := 1
row_37 : code_of (answer (words (kinds.Var ∷ kinds.Identifier ∷ kinds.Colon ∷ kinds.Identifier ∷ kinds.Exit ∷ kinds.Identifier ∷ kinds.Assign ∷ kinds.Number ∷ []))) ≡ []
unfolding answer_from step step_in pop begin finish end_frames low_frames
row_37 = refl

-- var _ := 1
row_38 : code_of (answer (words (kinds.Var ∷ kinds.Ignore ∷ kinds.Assign ∷ kinds.Number ∷ []))) ≡ 0 ∷ 1 ∷ []
unfolding answer_from step step_in pop begin finish end_frames low_frames
row_38 = refl

-- if (1) {} \n else {}
row_39 : code_of (answer (words (kinds.If ∷ kinds.OpenParen ∷ kinds.Number ∷ kinds.CloseParen ∷ kinds.OpenBrace ∷ kinds.CloseBrace ∷ kinds.LineEnd ∷ kinds.Else ∷ kinds.OpenBrace ∷ kinds.CloseBrace ∷ []))) ≡ 0 ∷ 7 ∷ []
unfolding answer_from step step_in pop begin finish end_frames low_frames
row_39 = refl

-- try {} \n catch p {}
row_40 : code_of (answer (words (kinds.Try ∷ kinds.OpenBrace ∷ kinds.CloseBrace ∷ kinds.LineEnd ∷ kinds.Catch ∷ kinds.Identifier ∷ kinds.OpenBrace ∷ kinds.CloseBrace ∷ []))) ≡ 0 ∷ 4 ∷ []
unfolding answer_from step step_in pop begin finish end_frames low_frames
row_40 = refl

-- if (1) {} else if (2) {} else {}
row_41 : code_of (answer (words (kinds.If ∷ kinds.OpenParen ∷ kinds.Number ∷ kinds.CloseParen ∷ kinds.OpenBrace ∷ kinds.CloseBrace ∷ kinds.Else ∷ kinds.If ∷ kinds.OpenParen ∷ kinds.Number ∷ kinds.CloseParen ∷ kinds.OpenBrace ∷ kinds.CloseBrace ∷ kinds.Else ∷ kinds.OpenBrace ∷ kinds.CloseBrace ∷ []))) ≡ []
unfolding answer_from step step_in pop begin finish end_frames low_frames
row_41 = refl

-- try {} catch p {} catch q {} finally {}
row_42 : code_of (answer (words (kinds.Try ∷ kinds.OpenBrace ∷ kinds.CloseBrace ∷ kinds.Catch ∷ kinds.Identifier ∷ kinds.OpenBrace ∷ kinds.CloseBrace ∷ kinds.Catch ∷ kinds.Identifier ∷ kinds.OpenBrace ∷ kinds.CloseBrace ∷ kinds.Finally ∷ kinds.OpenBrace ∷ kinds.CloseBrace ∷ []))) ≡ []
unfolding answer_from step step_in pop begin finish end_frames low_frames
row_42 = refl

-- try {} finally {} catch p {}
row_43 : code_of (answer (words (kinds.Try ∷ kinds.OpenBrace ∷ kinds.CloseBrace ∷ kinds.Finally ∷ kinds.OpenBrace ∷ kinds.CloseBrace ∷ kinds.Catch ∷ kinds.Identifier ∷ kinds.OpenBrace ∷ kinds.CloseBrace ∷ []))) ≡ 0 ∷ 6 ∷ []
unfolding answer_from step step_in pop begin finish end_frames low_frames
row_43 = refl

-- escape e {} catch p {}
row_44 : code_of (answer (words (kinds.Escape ∷ kinds.Identifier ∷ kinds.OpenBrace ∷ kinds.CloseBrace ∷ kinds.Catch ∷ kinds.Identifier ∷ kinds.OpenBrace ∷ kinds.CloseBrace ∷ []))) ≡ []
unfolding answer_from step step_in pop begin finish end_frames low_frames
row_44 = refl

-- when (a) -> {} catch p {}
row_45 : code_of (answer (words (kinds.When ∷ kinds.OpenParen ∷ kinds.Identifier ∷ kinds.CloseParen ∷ kinds.Arrow ∷ kinds.OpenBrace ∷ kinds.CloseBrace ∷ kinds.Catch ∷ kinds.Identifier ∷ kinds.OpenBrace ∷ kinds.CloseBrace ∷ []))) ≡ []
unfolding answer_from step step_in pop begin finish end_frames low_frames
row_45 = refl

-- while (a) {}
row_46 : code_of (answer (words (kinds.While ∷ kinds.OpenParen ∷ kinds.Identifier ∷ kinds.CloseParen ∷ kinds.OpenBrace ∷ kinds.CloseBrace ∷ []))) ≡ []
unfolding answer_from step step_in pop begin finish end_frames low_frames
row_46 = refl

-- a.v(1)."w"() <- v(2) <- (3) [4]
row_47 : code_of (answer (words (kinds.Identifier ∷ kinds.Dot ∷ kinds.Identifier ∷ kinds.OpenParen ∷ kinds.Number ∷ kinds.CloseParen ∷ kinds.Dot ∷ kinds.Text ∷ kinds.OpenParen ∷ kinds.CloseParen ∷ kinds.Send ∷ kinds.Identifier ∷ kinds.OpenParen ∷ kinds.Number ∷ kinds.CloseParen ∷ kinds.Send ∷ kinds.OpenParen ∷ kinds.Number ∷ kinds.CloseParen ∷ kinds.OpenBracket ∷ kinds.Number ∷ kinds.CloseBracket ∷ []))) ≡ []
unfolding answer_from step step_in pop begin finish end_frames low_frames
row_47 = refl

-- a.if()
row_48 : code_of (answer (words (kinds.Identifier ∷ kinds.Dot ∷ kinds.If ∷ kinds.OpenParen ∷ kinds.CloseParen ∷ []))) ≡ 0 ∷ 2 ∷ []
unfolding answer_from step step_in pop begin finish end_frames low_frames
row_48 = refl

-- a[]
row_49 : code_of (answer (words (kinds.Identifier ∷ kinds.OpenBracket ∷ kinds.CloseBracket ∷ []))) ≡ 0 ∷ 2 ∷ []
unfolding answer_from step step_in pop begin finish end_frames low_frames
row_49 = refl

-- {;1;\n;2\n}
row_50 : code_of (answer (words (kinds.OpenBrace ∷ kinds.Semicolon ∷ kinds.Number ∷ kinds.Semicolon ∷ kinds.LineEnd ∷ kinds.Semicolon ∷ kinds.Number ∷ kinds.LineEnd ∷ kinds.CloseBrace ∷ []))) ≡ []
unfolding answer_from step step_in pop begin finish end_frames low_frames
row_50 = refl

-- 1 2
row_51 : code_of (answer (words (kinds.Number ∷ kinds.Number ∷ []))) ≡ 0 ∷ 1 ∷ []
unfolding answer_from step step_in pop begin finish end_frames low_frames
row_51 = refl

-- x :
row_52 : code_of (answer (words (kinds.Identifier ∷ kinds.Colon ∷ []))) ≡ 0 ∷ 1 ∷ []
unfolding answer_from step step_in pop begin finish end_frames low_frames
row_52 = refl

-- ;;1
row_53 : code_of (answer (words (kinds.Semicolon ∷ kinds.Semicolon ∷ kinds.Number ∷ []))) ≡ []
unfolding answer_from step step_in pop begin finish end_frames low_frames
row_53 = refl

-- nothing
row_54 : code_of (answer (words ([]))) ≡ []
unfolding answer_from step step_in pop begin finish end_frames low_frames
row_54 = refl

-- ]
row_55 : code_of (answer (words (kinds.CloseBracket ∷ []))) ≡ 0 ∷ 0 ∷ []
unfolding answer_from step step_in pop begin finish end_frames low_frames
row_55 = refl

-- def x :(a) := 1
row_56 : code_of (answer (words (kinds.Def ∷ kinds.Identifier ∷ kinds.Colon ∷ kinds.OpenParen ∷ kinds.Identifier ∷ kinds.CloseParen ∷ kinds.Assign ∷ kinds.Number ∷ []))) ≡ []
unfolding answer_from step step_in pop begin finish end_frames low_frames
row_56 = refl

-- ! -1 && 2 || 3 & 4 == 5
row_57 : code_of (answer (words (kinds.Not ∷ kinds.Minus ∷ kinds.Number ∷ kinds.LogicalAnd ∷ kinds.Number ∷ kinds.LogicalOr ∷ kinds.Number ∷ kinds.And ∷ kinds.Number ∷ kinds.Same ∷ kinds.Number ∷ []))) ≡ []
unfolding answer_from step step_in pop begin finish end_frames low_frames
row_57 = refl

-- [1, "a", 'c', x]
row_58 : code_of (answer (words (kinds.OpenBracket ∷ kinds.Number ∷ kinds.Comma ∷ kinds.Text ∷ kinds.Comma ∷ kinds.Character ∷ kinds.Comma ∷ kinds.Identifier ∷ kinds.CloseBracket ∷ []))) ≡ []
unfolding answer_from step step_in pop begin finish end_frames low_frames
row_58 = refl

-- [1,]
row_59 : code_of (answer (words (kinds.OpenBracket ∷ kinds.Number ∷ kinds.Comma ∷ kinds.CloseBracket ∷ []))) ≡ 0 ∷ 3 ∷ []
unfolding answer_from step step_in pop begin finish end_frames low_frames
row_59 = refl

-- def x
row_60 : code_of (answer (words (kinds.Def ∷ kinds.Identifier ∷ []))) ≡ 0 ∷ 2 ∷ []
unfolding answer_from step step_in pop begin finish end_frames low_frames
row_60 = refl

-- var x
row_61 : code_of (answer (words (kinds.Var ∷ kinds.Identifier ∷ []))) ≡ 0 ∷ 2 ∷ []
unfolding answer_from step step_in pop begin finish end_frames low_frames
row_61 = refl

-- f(1, 2
row_62 : code_of (answer (words (kinds.Identifier ∷ kinds.OpenParen ∷ kinds.Number ∷ kinds.Comma ∷ kinds.Number ∷ []))) ≡ 0 ∷ 5 ∷ []
unfolding answer_from step step_in pop begin finish end_frames low_frames
row_62 = refl

-- 60 times ( around 1
row_63 : code_of (answer (words ((kinds.OpenParen ∷ kinds.OpenParen ∷ kinds.OpenParen ∷ kinds.OpenParen ∷ kinds.OpenParen ∷ kinds.OpenParen ∷ kinds.OpenParen ∷ kinds.OpenParen ∷ kinds.OpenParen ∷ kinds.OpenParen ∷ kinds.OpenParen ∷ kinds.OpenParen ∷ kinds.OpenParen ∷ kinds.OpenParen ∷ kinds.OpenParen ∷ kinds.OpenParen ∷ kinds.OpenParen ∷ kinds.OpenParen ∷ kinds.OpenParen ∷ kinds.OpenParen ∷ kinds.OpenParen ∷ kinds.OpenParen ∷ kinds.OpenParen ∷ kinds.OpenParen ∷ kinds.OpenParen ∷ kinds.OpenParen ∷ kinds.OpenParen ∷ kinds.OpenParen ∷ kinds.OpenParen ∷ kinds.OpenParen ∷ kinds.OpenParen ∷ kinds.OpenParen ∷ kinds.OpenParen ∷ kinds.OpenParen ∷ kinds.OpenParen ∷ kinds.OpenParen ∷ kinds.OpenParen ∷ kinds.OpenParen ∷ kinds.OpenParen ∷ kinds.OpenParen ∷ kinds.OpenParen ∷ kinds.OpenParen ∷ kinds.OpenParen ∷ kinds.OpenParen ∷ kinds.OpenParen ∷ kinds.OpenParen ∷ kinds.OpenParen ∷ kinds.OpenParen ∷ kinds.OpenParen ∷ kinds.OpenParen ∷ kinds.OpenParen ∷ kinds.OpenParen ∷ kinds.OpenParen ∷ kinds.OpenParen ∷ kinds.OpenParen ∷ kinds.OpenParen ∷ kinds.OpenParen ∷ kinds.OpenParen ∷ kinds.OpenParen ∷ kinds.OpenParen ∷ []) ++ (kinds.Number ∷ []) ++ (kinds.CloseParen ∷ kinds.CloseParen ∷ kinds.CloseParen ∷ kinds.CloseParen ∷ kinds.CloseParen ∷ kinds.CloseParen ∷ kinds.CloseParen ∷ kinds.CloseParen ∷ kinds.CloseParen ∷ kinds.CloseParen ∷ kinds.CloseParen ∷ kinds.CloseParen ∷ kinds.CloseParen ∷ kinds.CloseParen ∷ kinds.CloseParen ∷ kinds.CloseParen ∷ kinds.CloseParen ∷ kinds.CloseParen ∷ kinds.CloseParen ∷ kinds.CloseParen ∷ kinds.CloseParen ∷ kinds.CloseParen ∷ kinds.CloseParen ∷ kinds.CloseParen ∷ kinds.CloseParen ∷ kinds.CloseParen ∷ kinds.CloseParen ∷ kinds.CloseParen ∷ kinds.CloseParen ∷ kinds.CloseParen ∷ kinds.CloseParen ∷ kinds.CloseParen ∷ kinds.CloseParen ∷ kinds.CloseParen ∷ kinds.CloseParen ∷ kinds.CloseParen ∷ kinds.CloseParen ∷ kinds.CloseParen ∷ kinds.CloseParen ∷ kinds.CloseParen ∷ kinds.CloseParen ∷ kinds.CloseParen ∷ kinds.CloseParen ∷ kinds.CloseParen ∷ kinds.CloseParen ∷ kinds.CloseParen ∷ kinds.CloseParen ∷ kinds.CloseParen ∷ kinds.CloseParen ∷ kinds.CloseParen ∷ kinds.CloseParen ∷ kinds.CloseParen ∷ kinds.CloseParen ∷ kinds.CloseParen ∷ kinds.CloseParen ∷ kinds.CloseParen ∷ kinds.CloseParen ∷ kinds.CloseParen ∷ kinds.CloseParen ∷ kinds.CloseParen ∷ [])))) ≡ 1 ∷ 59 ∷ []
unfolding answer_from step step_in pop begin finish end_frames low_frames
row_63 = refl

-- 59 times ( around 1
row_64 : code_of (answer (words ((kinds.OpenParen ∷ kinds.OpenParen ∷ kinds.OpenParen ∷ kinds.OpenParen ∷ kinds.OpenParen ∷ kinds.OpenParen ∷ kinds.OpenParen ∷ kinds.OpenParen ∷ kinds.OpenParen ∷ kinds.OpenParen ∷ kinds.OpenParen ∷ kinds.OpenParen ∷ kinds.OpenParen ∷ kinds.OpenParen ∷ kinds.OpenParen ∷ kinds.OpenParen ∷ kinds.OpenParen ∷ kinds.OpenParen ∷ kinds.OpenParen ∷ kinds.OpenParen ∷ kinds.OpenParen ∷ kinds.OpenParen ∷ kinds.OpenParen ∷ kinds.OpenParen ∷ kinds.OpenParen ∷ kinds.OpenParen ∷ kinds.OpenParen ∷ kinds.OpenParen ∷ kinds.OpenParen ∷ kinds.OpenParen ∷ kinds.OpenParen ∷ kinds.OpenParen ∷ kinds.OpenParen ∷ kinds.OpenParen ∷ kinds.OpenParen ∷ kinds.OpenParen ∷ kinds.OpenParen ∷ kinds.OpenParen ∷ kinds.OpenParen ∷ kinds.OpenParen ∷ kinds.OpenParen ∷ kinds.OpenParen ∷ kinds.OpenParen ∷ kinds.OpenParen ∷ kinds.OpenParen ∷ kinds.OpenParen ∷ kinds.OpenParen ∷ kinds.OpenParen ∷ kinds.OpenParen ∷ kinds.OpenParen ∷ kinds.OpenParen ∷ kinds.OpenParen ∷ kinds.OpenParen ∷ kinds.OpenParen ∷ kinds.OpenParen ∷ kinds.OpenParen ∷ kinds.OpenParen ∷ kinds.OpenParen ∷ kinds.OpenParen ∷ []) ++ (kinds.Number ∷ []) ++ (kinds.CloseParen ∷ kinds.CloseParen ∷ kinds.CloseParen ∷ kinds.CloseParen ∷ kinds.CloseParen ∷ kinds.CloseParen ∷ kinds.CloseParen ∷ kinds.CloseParen ∷ kinds.CloseParen ∷ kinds.CloseParen ∷ kinds.CloseParen ∷ kinds.CloseParen ∷ kinds.CloseParen ∷ kinds.CloseParen ∷ kinds.CloseParen ∷ kinds.CloseParen ∷ kinds.CloseParen ∷ kinds.CloseParen ∷ kinds.CloseParen ∷ kinds.CloseParen ∷ kinds.CloseParen ∷ kinds.CloseParen ∷ kinds.CloseParen ∷ kinds.CloseParen ∷ kinds.CloseParen ∷ kinds.CloseParen ∷ kinds.CloseParen ∷ kinds.CloseParen ∷ kinds.CloseParen ∷ kinds.CloseParen ∷ kinds.CloseParen ∷ kinds.CloseParen ∷ kinds.CloseParen ∷ kinds.CloseParen ∷ kinds.CloseParen ∷ kinds.CloseParen ∷ kinds.CloseParen ∷ kinds.CloseParen ∷ kinds.CloseParen ∷ kinds.CloseParen ∷ kinds.CloseParen ∷ kinds.CloseParen ∷ kinds.CloseParen ∷ kinds.CloseParen ∷ kinds.CloseParen ∷ kinds.CloseParen ∷ kinds.CloseParen ∷ kinds.CloseParen ∷ kinds.CloseParen ∷ kinds.CloseParen ∷ kinds.CloseParen ∷ kinds.CloseParen ∷ kinds.CloseParen ∷ kinds.CloseParen ∷ kinds.CloseParen ∷ kinds.CloseParen ∷ kinds.CloseParen ∷ kinds.CloseParen ∷ kinds.CloseParen ∷ [])))) ≡ []
unfolding answer_from step step_in pop begin finish end_frames low_frames
row_64 = refl

-- 61 blocks
row_65 : code_of (answer (words ((kinds.OpenBrace ∷ kinds.OpenBrace ∷ kinds.OpenBrace ∷ kinds.OpenBrace ∷ kinds.OpenBrace ∷ kinds.OpenBrace ∷ kinds.OpenBrace ∷ kinds.OpenBrace ∷ kinds.OpenBrace ∷ kinds.OpenBrace ∷ kinds.OpenBrace ∷ kinds.OpenBrace ∷ kinds.OpenBrace ∷ kinds.OpenBrace ∷ kinds.OpenBrace ∷ kinds.OpenBrace ∷ kinds.OpenBrace ∷ kinds.OpenBrace ∷ kinds.OpenBrace ∷ kinds.OpenBrace ∷ kinds.OpenBrace ∷ kinds.OpenBrace ∷ kinds.OpenBrace ∷ kinds.OpenBrace ∷ kinds.OpenBrace ∷ kinds.OpenBrace ∷ kinds.OpenBrace ∷ kinds.OpenBrace ∷ kinds.OpenBrace ∷ kinds.OpenBrace ∷ kinds.OpenBrace ∷ kinds.OpenBrace ∷ kinds.OpenBrace ∷ kinds.OpenBrace ∷ kinds.OpenBrace ∷ kinds.OpenBrace ∷ kinds.OpenBrace ∷ kinds.OpenBrace ∷ kinds.OpenBrace ∷ kinds.OpenBrace ∷ kinds.OpenBrace ∷ kinds.OpenBrace ∷ kinds.OpenBrace ∷ kinds.OpenBrace ∷ kinds.OpenBrace ∷ kinds.OpenBrace ∷ kinds.OpenBrace ∷ kinds.OpenBrace ∷ kinds.OpenBrace ∷ kinds.OpenBrace ∷ kinds.OpenBrace ∷ kinds.OpenBrace ∷ kinds.OpenBrace ∷ kinds.OpenBrace ∷ kinds.OpenBrace ∷ kinds.OpenBrace ∷ kinds.OpenBrace ∷ kinds.OpenBrace ∷ kinds.OpenBrace ∷ kinds.OpenBrace ∷ kinds.OpenBrace ∷ []) ++ (kinds.CloseBrace ∷ kinds.CloseBrace ∷ kinds.CloseBrace ∷ kinds.CloseBrace ∷ kinds.CloseBrace ∷ kinds.CloseBrace ∷ kinds.CloseBrace ∷ kinds.CloseBrace ∷ kinds.CloseBrace ∷ kinds.CloseBrace ∷ kinds.CloseBrace ∷ kinds.CloseBrace ∷ kinds.CloseBrace ∷ kinds.CloseBrace ∷ kinds.CloseBrace ∷ kinds.CloseBrace ∷ kinds.CloseBrace ∷ kinds.CloseBrace ∷ kinds.CloseBrace ∷ kinds.CloseBrace ∷ kinds.CloseBrace ∷ kinds.CloseBrace ∷ kinds.CloseBrace ∷ kinds.CloseBrace ∷ kinds.CloseBrace ∷ kinds.CloseBrace ∷ kinds.CloseBrace ∷ kinds.CloseBrace ∷ kinds.CloseBrace ∷ kinds.CloseBrace ∷ kinds.CloseBrace ∷ kinds.CloseBrace ∷ kinds.CloseBrace ∷ kinds.CloseBrace ∷ kinds.CloseBrace ∷ kinds.CloseBrace ∷ kinds.CloseBrace ∷ kinds.CloseBrace ∷ kinds.CloseBrace ∷ kinds.CloseBrace ∷ kinds.CloseBrace ∷ kinds.CloseBrace ∷ kinds.CloseBrace ∷ kinds.CloseBrace ∷ kinds.CloseBrace ∷ kinds.CloseBrace ∷ kinds.CloseBrace ∷ kinds.CloseBrace ∷ kinds.CloseBrace ∷ kinds.CloseBrace ∷ kinds.CloseBrace ∷ kinds.CloseBrace ∷ kinds.CloseBrace ∷ kinds.CloseBrace ∷ kinds.CloseBrace ∷ kinds.CloseBrace ∷ kinds.CloseBrace ∷ kinds.CloseBrace ∷ kinds.CloseBrace ∷ kinds.CloseBrace ∷ kinds.CloseBrace ∷ [])))) ≡ 1 ∷ 60 ∷ []
unfolding answer_from step step_in pop begin finish end_frames low_frames
row_65 = refl

-- 60 blocks
row_66 : code_of (answer (words ((kinds.OpenBrace ∷ kinds.OpenBrace ∷ kinds.OpenBrace ∷ kinds.OpenBrace ∷ kinds.OpenBrace ∷ kinds.OpenBrace ∷ kinds.OpenBrace ∷ kinds.OpenBrace ∷ kinds.OpenBrace ∷ kinds.OpenBrace ∷ kinds.OpenBrace ∷ kinds.OpenBrace ∷ kinds.OpenBrace ∷ kinds.OpenBrace ∷ kinds.OpenBrace ∷ kinds.OpenBrace ∷ kinds.OpenBrace ∷ kinds.OpenBrace ∷ kinds.OpenBrace ∷ kinds.OpenBrace ∷ kinds.OpenBrace ∷ kinds.OpenBrace ∷ kinds.OpenBrace ∷ kinds.OpenBrace ∷ kinds.OpenBrace ∷ kinds.OpenBrace ∷ kinds.OpenBrace ∷ kinds.OpenBrace ∷ kinds.OpenBrace ∷ kinds.OpenBrace ∷ kinds.OpenBrace ∷ kinds.OpenBrace ∷ kinds.OpenBrace ∷ kinds.OpenBrace ∷ kinds.OpenBrace ∷ kinds.OpenBrace ∷ kinds.OpenBrace ∷ kinds.OpenBrace ∷ kinds.OpenBrace ∷ kinds.OpenBrace ∷ kinds.OpenBrace ∷ kinds.OpenBrace ∷ kinds.OpenBrace ∷ kinds.OpenBrace ∷ kinds.OpenBrace ∷ kinds.OpenBrace ∷ kinds.OpenBrace ∷ kinds.OpenBrace ∷ kinds.OpenBrace ∷ kinds.OpenBrace ∷ kinds.OpenBrace ∷ kinds.OpenBrace ∷ kinds.OpenBrace ∷ kinds.OpenBrace ∷ kinds.OpenBrace ∷ kinds.OpenBrace ∷ kinds.OpenBrace ∷ kinds.OpenBrace ∷ kinds.OpenBrace ∷ kinds.OpenBrace ∷ []) ++ (kinds.CloseBrace ∷ kinds.CloseBrace ∷ kinds.CloseBrace ∷ kinds.CloseBrace ∷ kinds.CloseBrace ∷ kinds.CloseBrace ∷ kinds.CloseBrace ∷ kinds.CloseBrace ∷ kinds.CloseBrace ∷ kinds.CloseBrace ∷ kinds.CloseBrace ∷ kinds.CloseBrace ∷ kinds.CloseBrace ∷ kinds.CloseBrace ∷ kinds.CloseBrace ∷ kinds.CloseBrace ∷ kinds.CloseBrace ∷ kinds.CloseBrace ∷ kinds.CloseBrace ∷ kinds.CloseBrace ∷ kinds.CloseBrace ∷ kinds.CloseBrace ∷ kinds.CloseBrace ∷ kinds.CloseBrace ∷ kinds.CloseBrace ∷ kinds.CloseBrace ∷ kinds.CloseBrace ∷ kinds.CloseBrace ∷ kinds.CloseBrace ∷ kinds.CloseBrace ∷ kinds.CloseBrace ∷ kinds.CloseBrace ∷ kinds.CloseBrace ∷ kinds.CloseBrace ∷ kinds.CloseBrace ∷ kinds.CloseBrace ∷ kinds.CloseBrace ∷ kinds.CloseBrace ∷ kinds.CloseBrace ∷ kinds.CloseBrace ∷ kinds.CloseBrace ∷ kinds.CloseBrace ∷ kinds.CloseBrace ∷ kinds.CloseBrace ∷ kinds.CloseBrace ∷ kinds.CloseBrace ∷ kinds.CloseBrace ∷ kinds.CloseBrace ∷ kinds.CloseBrace ∷ kinds.CloseBrace ∷ kinds.CloseBrace ∷ kinds.CloseBrace ∷ kinds.CloseBrace ∷ kinds.CloseBrace ∷ kinds.CloseBrace ∷ kinds.CloseBrace ∷ kinds.CloseBrace ∷ kinds.CloseBrace ∷ kinds.CloseBrace ∷ kinds.CloseBrace ∷ [])))) ≡ []
unfolding answer_from step step_in pop begin finish end_frames low_frames
row_66 = refl

-- 60 times - before 1
row_67 : code_of (answer (words ((kinds.Minus ∷ kinds.Minus ∷ kinds.Minus ∷ kinds.Minus ∷ kinds.Minus ∷ kinds.Minus ∷ kinds.Minus ∷ kinds.Minus ∷ kinds.Minus ∷ kinds.Minus ∷ kinds.Minus ∷ kinds.Minus ∷ kinds.Minus ∷ kinds.Minus ∷ kinds.Minus ∷ kinds.Minus ∷ kinds.Minus ∷ kinds.Minus ∷ kinds.Minus ∷ kinds.Minus ∷ kinds.Minus ∷ kinds.Minus ∷ kinds.Minus ∷ kinds.Minus ∷ kinds.Minus ∷ kinds.Minus ∷ kinds.Minus ∷ kinds.Minus ∷ kinds.Minus ∷ kinds.Minus ∷ kinds.Minus ∷ kinds.Minus ∷ kinds.Minus ∷ kinds.Minus ∷ kinds.Minus ∷ kinds.Minus ∷ kinds.Minus ∷ kinds.Minus ∷ kinds.Minus ∷ kinds.Minus ∷ kinds.Minus ∷ kinds.Minus ∷ kinds.Minus ∷ kinds.Minus ∷ kinds.Minus ∷ kinds.Minus ∷ kinds.Minus ∷ kinds.Minus ∷ kinds.Minus ∷ kinds.Minus ∷ kinds.Minus ∷ kinds.Minus ∷ kinds.Minus ∷ kinds.Minus ∷ kinds.Minus ∷ kinds.Minus ∷ kinds.Minus ∷ kinds.Minus ∷ kinds.Minus ∷ kinds.Minus ∷ []) ++ (kinds.Number ∷ [])))) ≡ 1 ∷ 59 ∷ []
unfolding answer_from step step_in pop begin finish end_frames low_frames
row_67 = refl

-- 59 times - before 1
row_68 : code_of (answer (words ((kinds.Minus ∷ kinds.Minus ∷ kinds.Minus ∷ kinds.Minus ∷ kinds.Minus ∷ kinds.Minus ∷ kinds.Minus ∷ kinds.Minus ∷ kinds.Minus ∷ kinds.Minus ∷ kinds.Minus ∷ kinds.Minus ∷ kinds.Minus ∷ kinds.Minus ∷ kinds.Minus ∷ kinds.Minus ∷ kinds.Minus ∷ kinds.Minus ∷ kinds.Minus ∷ kinds.Minus ∷ kinds.Minus ∷ kinds.Minus ∷ kinds.Minus ∷ kinds.Minus ∷ kinds.Minus ∷ kinds.Minus ∷ kinds.Minus ∷ kinds.Minus ∷ kinds.Minus ∷ kinds.Minus ∷ kinds.Minus ∷ kinds.Minus ∷ kinds.Minus ∷ kinds.Minus ∷ kinds.Minus ∷ kinds.Minus ∷ kinds.Minus ∷ kinds.Minus ∷ kinds.Minus ∷ kinds.Minus ∷ kinds.Minus ∷ kinds.Minus ∷ kinds.Minus ∷ kinds.Minus ∷ kinds.Minus ∷ kinds.Minus ∷ kinds.Minus ∷ kinds.Minus ∷ kinds.Minus ∷ kinds.Minus ∷ kinds.Minus ∷ kinds.Minus ∷ kinds.Minus ∷ kinds.Minus ∷ kinds.Minus ∷ kinds.Minus ∷ kinds.Minus ∷ kinds.Minus ∷ kinds.Minus ∷ []) ++ (kinds.Number ∷ [])))) ≡ []
unfolding answer_from step step_in pop begin finish end_frames low_frames
row_68 = refl

-- 62 literals with + between
row_69 : code_of (answer (words ((kinds.Number ∷ []) ++ (kinds.Plus ∷ kinds.Number ∷ kinds.Plus ∷ kinds.Number ∷ kinds.Plus ∷ kinds.Number ∷ kinds.Plus ∷ kinds.Number ∷ kinds.Plus ∷ kinds.Number ∷ kinds.Plus ∷ kinds.Number ∷ kinds.Plus ∷ kinds.Number ∷ kinds.Plus ∷ kinds.Number ∷ kinds.Plus ∷ kinds.Number ∷ kinds.Plus ∷ kinds.Number ∷ kinds.Plus ∷ kinds.Number ∷ kinds.Plus ∷ kinds.Number ∷ kinds.Plus ∷ kinds.Number ∷ kinds.Plus ∷ kinds.Number ∷ kinds.Plus ∷ kinds.Number ∷ kinds.Plus ∷ kinds.Number ∷ kinds.Plus ∷ kinds.Number ∷ kinds.Plus ∷ kinds.Number ∷ kinds.Plus ∷ kinds.Number ∷ kinds.Plus ∷ kinds.Number ∷ kinds.Plus ∷ kinds.Number ∷ kinds.Plus ∷ kinds.Number ∷ kinds.Plus ∷ kinds.Number ∷ kinds.Plus ∷ kinds.Number ∷ kinds.Plus ∷ kinds.Number ∷ kinds.Plus ∷ kinds.Number ∷ kinds.Plus ∷ kinds.Number ∷ kinds.Plus ∷ kinds.Number ∷ kinds.Plus ∷ kinds.Number ∷ kinds.Plus ∷ kinds.Number ∷ kinds.Plus ∷ kinds.Number ∷ kinds.Plus ∷ kinds.Number ∷ kinds.Plus ∷ kinds.Number ∷ kinds.Plus ∷ kinds.Number ∷ kinds.Plus ∷ kinds.Number ∷ kinds.Plus ∷ kinds.Number ∷ kinds.Plus ∷ kinds.Number ∷ kinds.Plus ∷ kinds.Number ∷ kinds.Plus ∷ kinds.Number ∷ kinds.Plus ∷ kinds.Number ∷ kinds.Plus ∷ kinds.Number ∷ kinds.Plus ∷ kinds.Number ∷ kinds.Plus ∷ kinds.Number ∷ kinds.Plus ∷ kinds.Number ∷ kinds.Plus ∷ kinds.Number ∷ kinds.Plus ∷ kinds.Number ∷ kinds.Plus ∷ kinds.Number ∷ kinds.Plus ∷ kinds.Number ∷ kinds.Plus ∷ kinds.Number ∷ kinds.Plus ∷ kinds.Number ∷ kinds.Plus ∷ kinds.Number ∷ kinds.Plus ∷ kinds.Number ∷ kinds.Plus ∷ kinds.Number ∷ kinds.Plus ∷ kinds.Number ∷ kinds.Plus ∷ kinds.Number ∷ kinds.Plus ∷ kinds.Number ∷ kinds.Plus ∷ kinds.Number ∷ kinds.Plus ∷ kinds.Number ∷ kinds.Plus ∷ kinds.Number ∷ kinds.Plus ∷ kinds.Number ∷ kinds.Plus ∷ kinds.Number ∷ [])))) ≡ 1 ∷ 119 ∷ []
unfolding answer_from step step_in pop begin finish end_frames low_frames
row_69 = refl

-- 60 literals with + between
row_70 : code_of (answer (words ((kinds.Number ∷ []) ++ (kinds.Plus ∷ kinds.Number ∷ kinds.Plus ∷ kinds.Number ∷ kinds.Plus ∷ kinds.Number ∷ kinds.Plus ∷ kinds.Number ∷ kinds.Plus ∷ kinds.Number ∷ kinds.Plus ∷ kinds.Number ∷ kinds.Plus ∷ kinds.Number ∷ kinds.Plus ∷ kinds.Number ∷ kinds.Plus ∷ kinds.Number ∷ kinds.Plus ∷ kinds.Number ∷ kinds.Plus ∷ kinds.Number ∷ kinds.Plus ∷ kinds.Number ∷ kinds.Plus ∷ kinds.Number ∷ kinds.Plus ∷ kinds.Number ∷ kinds.Plus ∷ kinds.Number ∷ kinds.Plus ∷ kinds.Number ∷ kinds.Plus ∷ kinds.Number ∷ kinds.Plus ∷ kinds.Number ∷ kinds.Plus ∷ kinds.Number ∷ kinds.Plus ∷ kinds.Number ∷ kinds.Plus ∷ kinds.Number ∷ kinds.Plus ∷ kinds.Number ∷ kinds.Plus ∷ kinds.Number ∷ kinds.Plus ∷ kinds.Number ∷ kinds.Plus ∷ kinds.Number ∷ kinds.Plus ∷ kinds.Number ∷ kinds.Plus ∷ kinds.Number ∷ kinds.Plus ∷ kinds.Number ∷ kinds.Plus ∷ kinds.Number ∷ kinds.Plus ∷ kinds.Number ∷ kinds.Plus ∷ kinds.Number ∷ kinds.Plus ∷ kinds.Number ∷ kinds.Plus ∷ kinds.Number ∷ kinds.Plus ∷ kinds.Number ∷ kinds.Plus ∷ kinds.Number ∷ kinds.Plus ∷ kinds.Number ∷ kinds.Plus ∷ kinds.Number ∷ kinds.Plus ∷ kinds.Number ∷ kinds.Plus ∷ kinds.Number ∷ kinds.Plus ∷ kinds.Number ∷ kinds.Plus ∷ kinds.Number ∷ kinds.Plus ∷ kinds.Number ∷ kinds.Plus ∷ kinds.Number ∷ kinds.Plus ∷ kinds.Number ∷ kinds.Plus ∷ kinds.Number ∷ kinds.Plus ∷ kinds.Number ∷ kinds.Plus ∷ kinds.Number ∷ kinds.Plus ∷ kinds.Number ∷ kinds.Plus ∷ kinds.Number ∷ kinds.Plus ∷ kinds.Number ∷ kinds.Plus ∷ kinds.Number ∷ kinds.Plus ∷ kinds.Number ∷ kinds.Plus ∷ kinds.Number ∷ kinds.Plus ∷ kinds.Number ∷ kinds.Plus ∷ kinds.Number ∷ kinds.Plus ∷ kinds.Number ∷ kinds.Plus ∷ kinds.Number ∷ kinds.Plus ∷ kinds.Number ∷ kinds.Plus ∷ kinds.Number ∷ [])))) ≡ []
unfolding answer_from step step_in pop begin finish end_frames low_frames
row_70 = refl

-- 61 times return
row_71 : code_of (answer (words ((kinds.Return ∷ kinds.Return ∷ kinds.Return ∷ kinds.Return ∷ kinds.Return ∷ kinds.Return ∷ kinds.Return ∷ kinds.Return ∷ kinds.Return ∷ kinds.Return ∷ kinds.Return ∷ kinds.Return ∷ kinds.Return ∷ kinds.Return ∷ kinds.Return ∷ kinds.Return ∷ kinds.Return ∷ kinds.Return ∷ kinds.Return ∷ kinds.Return ∷ kinds.Return ∷ kinds.Return ∷ kinds.Return ∷ kinds.Return ∷ kinds.Return ∷ kinds.Return ∷ kinds.Return ∷ kinds.Return ∷ kinds.Return ∷ kinds.Return ∷ kinds.Return ∷ kinds.Return ∷ kinds.Return ∷ kinds.Return ∷ kinds.Return ∷ kinds.Return ∷ kinds.Return ∷ kinds.Return ∷ kinds.Return ∷ kinds.Return ∷ kinds.Return ∷ kinds.Return ∷ kinds.Return ∷ kinds.Return ∷ kinds.Return ∷ kinds.Return ∷ kinds.Return ∷ kinds.Return ∷ kinds.Return ∷ kinds.Return ∷ kinds.Return ∷ kinds.Return ∷ kinds.Return ∷ kinds.Return ∷ kinds.Return ∷ kinds.Return ∷ kinds.Return ∷ kinds.Return ∷ kinds.Return ∷ kinds.Return ∷ kinds.Return ∷ [])))) ≡ 1 ∷ 60 ∷ []
unfolding answer_from step step_in pop begin finish end_frames low_frames
row_71 = refl

-- 60 times return
row_72 : code_of (answer (words ((kinds.Return ∷ kinds.Return ∷ kinds.Return ∷ kinds.Return ∷ kinds.Return ∷ kinds.Return ∷ kinds.Return ∷ kinds.Return ∷ kinds.Return ∷ kinds.Return ∷ kinds.Return ∷ kinds.Return ∷ kinds.Return ∷ kinds.Return ∷ kinds.Return ∷ kinds.Return ∷ kinds.Return ∷ kinds.Return ∷ kinds.Return ∷ kinds.Return ∷ kinds.Return ∷ kinds.Return ∷ kinds.Return ∷ kinds.Return ∷ kinds.Return ∷ kinds.Return ∷ kinds.Return ∷ kinds.Return ∷ kinds.Return ∷ kinds.Return ∷ kinds.Return ∷ kinds.Return ∷ kinds.Return ∷ kinds.Return ∷ kinds.Return ∷ kinds.Return ∷ kinds.Return ∷ kinds.Return ∷ kinds.Return ∷ kinds.Return ∷ kinds.Return ∷ kinds.Return ∷ kinds.Return ∷ kinds.Return ∷ kinds.Return ∷ kinds.Return ∷ kinds.Return ∷ kinds.Return ∷ kinds.Return ∷ kinds.Return ∷ kinds.Return ∷ kinds.Return ∷ kinds.Return ∷ kinds.Return ∷ kinds.Return ∷ kinds.Return ∷ kinds.Return ∷ kinds.Return ∷ kinds.Return ∷ kinds.Return ∷ [])))) ≡ []
unfolding answer_from step step_in pop begin finish end_frames low_frames
row_72 = refl

-- a chain of 60 else if
row_73 : code_of (answer (words ((kinds.If ∷ kinds.OpenParen ∷ kinds.Number ∷ kinds.CloseParen ∷ kinds.OpenBrace ∷ kinds.CloseBrace ∷ kinds.Else ∷ kinds.If ∷ kinds.OpenParen ∷ kinds.Number ∷ kinds.CloseParen ∷ kinds.OpenBrace ∷ kinds.CloseBrace ∷ kinds.Else ∷ kinds.If ∷ kinds.OpenParen ∷ kinds.Number ∷ kinds.CloseParen ∷ kinds.OpenBrace ∷ kinds.CloseBrace ∷ kinds.Else ∷ kinds.If ∷ kinds.OpenParen ∷ kinds.Number ∷ kinds.CloseParen ∷ kinds.OpenBrace ∷ kinds.CloseBrace ∷ kinds.Else ∷ kinds.If ∷ kinds.OpenParen ∷ kinds.Number ∷ kinds.CloseParen ∷ kinds.OpenBrace ∷ kinds.CloseBrace ∷ kinds.Else ∷ kinds.If ∷ kinds.OpenParen ∷ kinds.Number ∷ kinds.CloseParen ∷ kinds.OpenBrace ∷ kinds.CloseBrace ∷ kinds.Else ∷ kinds.If ∷ kinds.OpenParen ∷ kinds.Number ∷ kinds.CloseParen ∷ kinds.OpenBrace ∷ kinds.CloseBrace ∷ kinds.Else ∷ kinds.If ∷ kinds.OpenParen ∷ kinds.Number ∷ kinds.CloseParen ∷ kinds.OpenBrace ∷ kinds.CloseBrace ∷ kinds.Else ∷ kinds.If ∷ kinds.OpenParen ∷ kinds.Number ∷ kinds.CloseParen ∷ kinds.OpenBrace ∷ kinds.CloseBrace ∷ kinds.Else ∷ kinds.If ∷ kinds.OpenParen ∷ kinds.Number ∷ kinds.CloseParen ∷ kinds.OpenBrace ∷ kinds.CloseBrace ∷ kinds.Else ∷ kinds.If ∷ kinds.OpenParen ∷ kinds.Number ∷ kinds.CloseParen ∷ kinds.OpenBrace ∷ kinds.CloseBrace ∷ kinds.Else ∷ kinds.If ∷ kinds.OpenParen ∷ kinds.Number ∷ kinds.CloseParen ∷ kinds.OpenBrace ∷ kinds.CloseBrace ∷ kinds.Else ∷ kinds.If ∷ kinds.OpenParen ∷ kinds.Number ∷ kinds.CloseParen ∷ kinds.OpenBrace ∷ kinds.CloseBrace ∷ kinds.Else ∷ kinds.If ∷ kinds.OpenParen ∷ kinds.Number ∷ kinds.CloseParen ∷ kinds.OpenBrace ∷ kinds.CloseBrace ∷ kinds.Else ∷ kinds.If ∷ kinds.OpenParen ∷ kinds.Number ∷ kinds.CloseParen ∷ kinds.OpenBrace ∷ kinds.CloseBrace ∷ kinds.Else ∷ kinds.If ∷ kinds.OpenParen ∷ kinds.Number ∷ kinds.CloseParen ∷ kinds.OpenBrace ∷ kinds.CloseBrace ∷ kinds.Else ∷ kinds.If ∷ kinds.OpenParen ∷ kinds.Number ∷ kinds.CloseParen ∷ kinds.OpenBrace ∷ kinds.CloseBrace ∷ kinds.Else ∷ kinds.If ∷ kinds.OpenParen ∷ kinds.Number ∷ kinds.CloseParen ∷ kinds.OpenBrace ∷ kinds.CloseBrace ∷ kinds.Else ∷ kinds.If ∷ kinds.OpenParen ∷ kinds.Number ∷ kinds.CloseParen ∷ kinds.OpenBrace ∷ kinds.CloseBrace ∷ kinds.Else ∷ kinds.If ∷ kinds.OpenParen ∷ kinds.Number ∷ kinds.CloseParen ∷ kinds.OpenBrace ∷ kinds.CloseBrace ∷ kinds.Else ∷ kinds.If ∷ kinds.OpenParen ∷ kinds.Number ∷ kinds.CloseParen ∷ kinds.OpenBrace ∷ kinds.CloseBrace ∷ kinds.Else ∷ kinds.If ∷ kinds.OpenParen ∷ kinds.Number ∷ kinds.CloseParen ∷ kinds.OpenBrace ∷ kinds.CloseBrace ∷ kinds.Else ∷ kinds.If ∷ kinds.OpenParen ∷ kinds.Number ∷ kinds.CloseParen ∷ kinds.OpenBrace ∷ kinds.CloseBrace ∷ kinds.Else ∷ kinds.If ∷ kinds.OpenParen ∷ kinds.Number ∷ kinds.CloseParen ∷ kinds.OpenBrace ∷ kinds.CloseBrace ∷ kinds.Else ∷ kinds.If ∷ kinds.OpenParen ∷ kinds.Number ∷ kinds.CloseParen ∷ kinds.OpenBrace ∷ kinds.CloseBrace ∷ kinds.Else ∷ kinds.If ∷ kinds.OpenParen ∷ kinds.Number ∷ kinds.CloseParen ∷ kinds.OpenBrace ∷ kinds.CloseBrace ∷ kinds.Else ∷ kinds.If ∷ kinds.OpenParen ∷ kinds.Number ∷ kinds.CloseParen ∷ kinds.OpenBrace ∷ kinds.CloseBrace ∷ kinds.Else ∷ kinds.If ∷ kinds.OpenParen ∷ kinds.Number ∷ kinds.CloseParen ∷ kinds.OpenBrace ∷ kinds.CloseBrace ∷ kinds.Else ∷ kinds.If ∷ kinds.OpenParen ∷ kinds.Number ∷ kinds.CloseParen ∷ kinds.OpenBrace ∷ kinds.CloseBrace ∷ kinds.Else ∷ kinds.If ∷ kinds.OpenParen ∷ kinds.Number ∷ kinds.CloseParen ∷ kinds.OpenBrace ∷ kinds.CloseBrace ∷ kinds.Else ∷ kinds.If ∷ kinds.OpenParen ∷ kinds.Number ∷ kinds.CloseParen ∷ kinds.OpenBrace ∷ kinds.CloseBrace ∷ kinds.Else ∷ kinds.If ∷ kinds.OpenParen ∷ kinds.Number ∷ kinds.CloseParen ∷ kinds.OpenBrace ∷ kinds.CloseBrace ∷ kinds.Else ∷ kinds.If ∷ kinds.OpenParen ∷ kinds.Number ∷ kinds.CloseParen ∷ kinds.OpenBrace ∷ kinds.CloseBrace ∷ kinds.Else ∷ kinds.If ∷ kinds.OpenParen ∷ kinds.Number ∷ kinds.CloseParen ∷ kinds.OpenBrace ∷ kinds.CloseBrace ∷ kinds.Else ∷ kinds.If ∷ kinds.OpenParen ∷ kinds.Number ∷ kinds.CloseParen ∷ kinds.OpenBrace ∷ kinds.CloseBrace ∷ kinds.Else ∷ kinds.If ∷ kinds.OpenParen ∷ kinds.Number ∷ kinds.CloseParen ∷ kinds.OpenBrace ∷ kinds.CloseBrace ∷ kinds.Else ∷ kinds.If ∷ kinds.OpenParen ∷ kinds.Number ∷ kinds.CloseParen ∷ kinds.OpenBrace ∷ kinds.CloseBrace ∷ kinds.Else ∷ kinds.If ∷ kinds.OpenParen ∷ kinds.Number ∷ kinds.CloseParen ∷ kinds.OpenBrace ∷ kinds.CloseBrace ∷ kinds.Else ∷ kinds.If ∷ kinds.OpenParen ∷ kinds.Number ∷ kinds.CloseParen ∷ kinds.OpenBrace ∷ kinds.CloseBrace ∷ kinds.Else ∷ kinds.If ∷ kinds.OpenParen ∷ kinds.Number ∷ kinds.CloseParen ∷ kinds.OpenBrace ∷ kinds.CloseBrace ∷ kinds.Else ∷ kinds.If ∷ kinds.OpenParen ∷ kinds.Number ∷ kinds.CloseParen ∷ kinds.OpenBrace ∷ kinds.CloseBrace ∷ kinds.Else ∷ kinds.If ∷ kinds.OpenParen ∷ kinds.Number ∷ kinds.CloseParen ∷ kinds.OpenBrace ∷ kinds.CloseBrace ∷ kinds.Else ∷ kinds.If ∷ kinds.OpenParen ∷ kinds.Number ∷ kinds.CloseParen ∷ kinds.OpenBrace ∷ kinds.CloseBrace ∷ kinds.Else ∷ kinds.If ∷ kinds.OpenParen ∷ kinds.Number ∷ kinds.CloseParen ∷ kinds.OpenBrace ∷ kinds.CloseBrace ∷ kinds.Else ∷ kinds.If ∷ kinds.OpenParen ∷ kinds.Number ∷ kinds.CloseParen ∷ kinds.OpenBrace ∷ kinds.CloseBrace ∷ kinds.Else ∷ kinds.If ∷ kinds.OpenParen ∷ kinds.Number ∷ kinds.CloseParen ∷ kinds.OpenBrace ∷ kinds.CloseBrace ∷ kinds.Else ∷ kinds.If ∷ kinds.OpenParen ∷ kinds.Number ∷ kinds.CloseParen ∷ kinds.OpenBrace ∷ kinds.CloseBrace ∷ kinds.Else ∷ kinds.If ∷ kinds.OpenParen ∷ kinds.Number ∷ kinds.CloseParen ∷ kinds.OpenBrace ∷ kinds.CloseBrace ∷ kinds.Else ∷ kinds.If ∷ kinds.OpenParen ∷ kinds.Number ∷ kinds.CloseParen ∷ kinds.OpenBrace ∷ kinds.CloseBrace ∷ kinds.Else ∷ kinds.If ∷ kinds.OpenParen ∷ kinds.Number ∷ kinds.CloseParen ∷ kinds.OpenBrace ∷ kinds.CloseBrace ∷ kinds.Else ∷ kinds.If ∷ kinds.OpenParen ∷ kinds.Number ∷ kinds.CloseParen ∷ kinds.OpenBrace ∷ kinds.CloseBrace ∷ kinds.Else ∷ kinds.If ∷ kinds.OpenParen ∷ kinds.Number ∷ kinds.CloseParen ∷ kinds.OpenBrace ∷ kinds.CloseBrace ∷ kinds.Else ∷ kinds.If ∷ kinds.OpenParen ∷ kinds.Number ∷ kinds.CloseParen ∷ kinds.OpenBrace ∷ kinds.CloseBrace ∷ kinds.Else ∷ kinds.If ∷ kinds.OpenParen ∷ kinds.Number ∷ kinds.CloseParen ∷ kinds.OpenBrace ∷ kinds.CloseBrace ∷ kinds.Else ∷ kinds.If ∷ kinds.OpenParen ∷ kinds.Number ∷ kinds.CloseParen ∷ kinds.OpenBrace ∷ kinds.CloseBrace ∷ kinds.Else ∷ kinds.If ∷ kinds.OpenParen ∷ kinds.Number ∷ kinds.CloseParen ∷ kinds.OpenBrace ∷ kinds.CloseBrace ∷ kinds.Else ∷ kinds.If ∷ kinds.OpenParen ∷ kinds.Number ∷ kinds.CloseParen ∷ kinds.OpenBrace ∷ kinds.CloseBrace ∷ kinds.Else ∷ kinds.If ∷ kinds.OpenParen ∷ kinds.Number ∷ kinds.CloseParen ∷ kinds.OpenBrace ∷ kinds.CloseBrace ∷ kinds.Else ∷ kinds.If ∷ kinds.OpenParen ∷ kinds.Number ∷ kinds.CloseParen ∷ kinds.OpenBrace ∷ kinds.CloseBrace ∷ kinds.Else ∷ kinds.If ∷ kinds.OpenParen ∷ kinds.Number ∷ kinds.CloseParen ∷ kinds.OpenBrace ∷ kinds.CloseBrace ∷ kinds.Else ∷ []) ++ (kinds.OpenBrace ∷ kinds.CloseBrace ∷ [])))) ≡ 1 ∷ 413 ∷ []
unfolding answer_from step step_in pop begin finish end_frames low_frames
row_73 = refl

-- a refusal behind a high place
row_74 : code_of (answer (words ((kinds.OpenBrace ∷ kinds.OpenBrace ∷ kinds.OpenBrace ∷ kinds.OpenBrace ∷ kinds.OpenBrace ∷ kinds.OpenBrace ∷ kinds.OpenBrace ∷ kinds.OpenBrace ∷ kinds.OpenBrace ∷ kinds.OpenBrace ∷ kinds.OpenBrace ∷ kinds.OpenBrace ∷ kinds.OpenBrace ∷ kinds.OpenBrace ∷ kinds.OpenBrace ∷ kinds.OpenBrace ∷ kinds.OpenBrace ∷ kinds.OpenBrace ∷ kinds.OpenBrace ∷ kinds.OpenBrace ∷ kinds.OpenBrace ∷ kinds.OpenBrace ∷ kinds.OpenBrace ∷ kinds.OpenBrace ∷ kinds.OpenBrace ∷ kinds.OpenBrace ∷ kinds.OpenBrace ∷ kinds.OpenBrace ∷ kinds.OpenBrace ∷ kinds.OpenBrace ∷ kinds.OpenBrace ∷ kinds.OpenBrace ∷ kinds.OpenBrace ∷ kinds.OpenBrace ∷ kinds.OpenBrace ∷ kinds.OpenBrace ∷ kinds.OpenBrace ∷ kinds.OpenBrace ∷ kinds.OpenBrace ∷ kinds.OpenBrace ∷ kinds.OpenBrace ∷ kinds.OpenBrace ∷ kinds.OpenBrace ∷ kinds.OpenBrace ∷ kinds.OpenBrace ∷ kinds.OpenBrace ∷ kinds.OpenBrace ∷ kinds.OpenBrace ∷ kinds.OpenBrace ∷ kinds.OpenBrace ∷ kinds.OpenBrace ∷ kinds.OpenBrace ∷ kinds.OpenBrace ∷ kinds.OpenBrace ∷ kinds.OpenBrace ∷ kinds.OpenBrace ∷ kinds.OpenBrace ∷ kinds.OpenBrace ∷ kinds.OpenBrace ∷ kinds.OpenBrace ∷ kinds.OpenBrace ∷ []) ++ (kinds.Plus ∷ [])))) ≡ 0 ∷ 61 ∷ []
unfolding answer_from step step_in pop begin finish end_frames low_frames
row_74 = refl
