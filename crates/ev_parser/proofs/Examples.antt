-- The surface nodes of one text for each line of the grammar, as the logic computes them.
use Rattle.std.proofs.Common.{◌≡◌, ℕ, suc, List, [], ◌∷◌, ◌++◌, Some, None, refl, get_or}
use Rattle.def_syntax.specs.declared.token.Token.{Token}
use Rattle.def_syntax.specs.declared.token.TokenKind.{TokenKind}
use Rattle.def_syntax.specs.declared.token.TokenKind.TheVariants as kinds
use Rattle.def_syntax.specs.Grammar.{Tree, Trees, node, none, more, leaf, no_word}
use Rattle.def_syntax.specs.declared.syntax.Shape.TheVariants as shapes
use Rattle.def_syntax.specs.Heights.{Answer, tree, answer, answer_from, low_frames}
use Rattle.def_syntax.specs.Machine.{begin, step, step_in, pop, finish, end_frames}
use Rattle.ev_parser.specs.declared.draft.Part.{Part}
use Rattle.ev_parser.specs.declared.draft.Part.TheVariants as piece
use Rattle.def_syntax.specs.declared.form.Form.{Form}
use Rattle.def_syntax.specs.declared.form.Form.TheVariants as forms
use Rattle.ev_parser.specs.Parsed.{numbered}
use Rattle.ev_parser.specs.Surface.{surface}

-- tokens of one byte each
abbrev tokens : ℕ → List TokenKind → List Token
tokens n [] = []
tokens n (k ∷ ks) = record { kind = k; start = n; end = suc n } ∷ tokens (suc n) ks

-- a text in which each byte is its own place
abbrev bytes : ℕ → List TokenKind → List ℕ
bytes n [] = []
bytes n (k ∷ ks) = n ∷ bytes (suc n) ks

-- how many trees there are among some parts
abbrev count : Trees → ℕ
count none = 0
count (more ts t) = suc (count ts)
count (leaf ts w) = count ts

-- the parts, the trees being numbered from 1
abbrev parts : Trees → List Part
parts none = []
parts (more ts t) = parts ts ++ piece.Tree (suc (count ts)) ∷ []
parts (leaf ts w) = parts ts ++ piece.Token w ∷ []

abbrev trees_of : Trees → List Tree
trees_of none = []
trees_of (more ts t) = trees_of ts ++ t ∷ []
trees_of (leaf ts w) = trees_of ts

abbrev no_tree : Tree
no_tree = node shapes.Program no_word none

abbrev child : Tree → ℕ → Tree
child (node s f ts) i = get_or (trees_of ts) i no_tree

abbrev descend : Tree → List ℕ → Tree
descend w [] = w
descend w (i ∷ is) = descend (child w i) is

abbrev root : Answer → Tree
root (tree w) = w
root _ = no_tree

abbrev form_in : List TokenKind → Tree → Form
form_in ks (node s f ts) = surface (bytes 0 ks) (tokens 0 ks) s f (parts ts)

-- the surface node at the end of a way from the root
abbrev form_at : List TokenKind → List ℕ → Form
form_at ks is = form_in ks (descend (root (answer (numbered 0 (tokens 0 ks)))) is)

-- 1
row_0 : form_at (kinds.Number ∷ []) (0 ∷ []) ≡ forms.Number (0 ∷ [])
unfolding answer_from step step_in pop begin finish end_frames low_frames
row_0 = refl

-- 'c'
row_1 : form_at (kinds.Character ∷ []) (0 ∷ []) ≡ forms.Character (0 ∷ [])
unfolding answer_from step step_in pop begin finish end_frames low_frames
row_1 = refl

-- "t"
row_2 : form_at (kinds.Text ∷ []) (0 ∷ []) ≡ forms.Text (0 ∷ [])
unfolding answer_from step step_in pop begin finish end_frames low_frames
row_2 = refl

-- x
row_3 : form_at (kinds.Identifier ∷ []) (0 ∷ []) ≡ forms.Noun (0 ∷ [])
unfolding answer_from step step_in pop begin finish end_frames low_frames
row_3 = refl

-- [a, b]
row_4 : form_at (kinds.OpenBracket ∷ kinds.Identifier ∷ kinds.Comma ∷ kinds.Identifier ∷ kinds.CloseBracket ∷ []) (0 ∷ []) ≡ forms.List (1 ∷ 2 ∷ [])
unfolding answer_from step step_in pop begin finish end_frames low_frames
row_4 = refl

-- []
row_5 : form_at (kinds.OpenBracket ∷ kinds.CloseBracket ∷ []) (0 ∷ []) ≡ forms.List []
unfolding answer_from step step_in pop begin finish end_frames low_frames
row_5 = refl

-- (a)
row_6 : form_at (kinds.OpenParen ∷ kinds.Identifier ∷ kinds.CloseParen ∷ []) (0 ∷ []) ≡ forms.Group 1
unfolding answer_from step step_in pop begin finish end_frames low_frames
row_6 = refl

-- {a; b}
row_7 : form_at (kinds.OpenBrace ∷ kinds.Identifier ∷ kinds.Semicolon ∷ kinds.Identifier ∷ kinds.CloseBrace ∷ []) (0 ∷ []) ≡ forms.Block (1 ∷ 2 ∷ [])
unfolding answer_from step step_in pop begin finish end_frames low_frames
row_7 = refl

-- if (a) {}
row_8 : form_at (kinds.If ∷ kinds.OpenParen ∷ kinds.Identifier ∷ kinds.CloseParen ∷ kinds.OpenBrace ∷ kinds.CloseBrace ∷ []) (0 ∷ []) ≡ forms.If 1 2 None
unfolding answer_from step step_in pop begin finish end_frames low_frames
row_8 = refl

-- if (a) {} else {}
row_9 : form_at (kinds.If ∷ kinds.OpenParen ∷ kinds.Identifier ∷ kinds.CloseParen ∷ kinds.OpenBrace ∷ kinds.CloseBrace ∷ kinds.Else ∷ kinds.OpenBrace ∷ kinds.CloseBrace ∷ []) (0 ∷ []) ≡ forms.If 1 2 (Some 3)
unfolding answer_from step step_in pop begin finish end_frames low_frames
row_9 = refl

-- while (a) {}
row_10 : form_at (kinds.While ∷ kinds.OpenParen ∷ kinds.Identifier ∷ kinds.CloseParen ∷ kinds.OpenBrace ∷ kinds.CloseBrace ∷ []) (0 ∷ []) ≡ forms.While 1 2
unfolding answer_from step step_in pop begin finish end_frames low_frames
row_10 = refl

-- for v in c {}
row_11 : form_at (kinds.For ∷ kinds.Identifier ∷ kinds.In ∷ kinds.Identifier ∷ kinds.OpenBrace ∷ kinds.CloseBrace ∷ []) (0 ∷ []) ≡ forms.For None 1 2 3
unfolding answer_from step step_in pop begin finish end_frames low_frames
row_11 = refl

-- for k => v in c {}
row_12 : form_at (kinds.For ∷ kinds.Identifier ∷ kinds.FatArrow ∷ kinds.Identifier ∷ kinds.In ∷ kinds.Identifier ∷ kinds.OpenBrace ∷ kinds.CloseBrace ∷ []) (0 ∷ []) ≡ forms.For (Some 1) 2 3 4
unfolding answer_from step step_in pop begin finish end_frames low_frames
row_12 = refl

-- escape p {}
row_13 : form_at (kinds.Escape ∷ kinds.Identifier ∷ kinds.OpenBrace ∷ kinds.CloseBrace ∷ []) (0 ∷ []) ≡ forms.Escape 1 2 None
unfolding answer_from step step_in pop begin finish end_frames low_frames
row_13 = refl

-- escape p {} catch q {}
row_14 : form_at (kinds.Escape ∷ kinds.Identifier ∷ kinds.OpenBrace ∷ kinds.CloseBrace ∷ kinds.Catch ∷ kinds.Identifier ∷ kinds.OpenBrace ∷ kinds.CloseBrace ∷ []) (0 ∷ []) ≡ forms.Escape 1 2 (Some (3, 4))
unfolding answer_from step step_in pop begin finish end_frames low_frames
row_14 = refl

-- try {}
row_15 : form_at (kinds.Try ∷ kinds.OpenBrace ∷ kinds.CloseBrace ∷ []) (0 ∷ []) ≡ forms.Try 1 [] None
unfolding answer_from step step_in pop begin finish end_frames low_frames
row_15 = refl

-- try {} catch p {} catch q {}
row_16 : form_at (kinds.Try ∷ kinds.OpenBrace ∷ kinds.CloseBrace ∷ kinds.Catch ∷ kinds.Identifier ∷ kinds.OpenBrace ∷ kinds.CloseBrace ∷ kinds.Catch ∷ kinds.Identifier ∷ kinds.OpenBrace ∷ kinds.CloseBrace ∷ []) (0 ∷ []) ≡ forms.Try 1 ((2, 3) ∷ (4, 5) ∷ []) None
unfolding answer_from step step_in pop begin finish end_frames low_frames
row_16 = refl

-- try {} catch p {} finally {}
row_17 : form_at (kinds.Try ∷ kinds.OpenBrace ∷ kinds.CloseBrace ∷ kinds.Catch ∷ kinds.Identifier ∷ kinds.OpenBrace ∷ kinds.CloseBrace ∷ kinds.Finally ∷ kinds.OpenBrace ∷ kinds.CloseBrace ∷ []) (0 ∷ []) ≡ forms.Try 1 ((2, 3) ∷ []) (Some 4)
unfolding answer_from step step_in pop begin finish end_frames low_frames
row_17 = refl

-- try {} finally {}
row_18 : form_at (kinds.Try ∷ kinds.OpenBrace ∷ kinds.CloseBrace ∷ kinds.Finally ∷ kinds.OpenBrace ∷ kinds.CloseBrace ∷ []) (0 ∷ []) ≡ forms.Try 1 [] (Some 2)
unfolding answer_from step step_in pop begin finish end_frames low_frames
row_18 = refl

-- when (a) -> {}
row_19 : form_at (kinds.When ∷ kinds.OpenParen ∷ kinds.Identifier ∷ kinds.CloseParen ∷ kinds.Arrow ∷ kinds.OpenBrace ∷ kinds.CloseBrace ∷ []) (0 ∷ []) ≡ forms.When 1 2 None
unfolding answer_from step step_in pop begin finish end_frames low_frames
row_19 = refl

-- when (a) -> {} catch p {}
row_20 : form_at (kinds.When ∷ kinds.OpenParen ∷ kinds.Identifier ∷ kinds.CloseParen ∷ kinds.Arrow ∷ kinds.OpenBrace ∷ kinds.CloseBrace ∷ kinds.Catch ∷ kinds.Identifier ∷ kinds.OpenBrace ∷ kinds.CloseBrace ∷ []) (0 ∷ []) ≡ forms.When 1 2 (Some (3, 4))
unfolding answer_from step step_in pop begin finish end_frames low_frames
row_20 = refl

-- fn p, q {}
row_21 : form_at (kinds.Fn ∷ kinds.Identifier ∷ kinds.Comma ∷ kinds.Identifier ∷ kinds.OpenBrace ∷ kinds.CloseBrace ∷ []) (0 ∷ []) ≡ forms.Function (1 ∷ 2 ∷ []) 3
unfolding answer_from step step_in pop begin finish end_frames low_frames
row_21 = refl

-- fn {}
row_22 : form_at (kinds.Fn ∷ kinds.OpenBrace ∷ kinds.CloseBrace ∷ []) (0 ∷ []) ≡ forms.Function [] 1
unfolding answer_from step step_in pop begin finish end_frames low_frames
row_22 = refl

-- f(a, b)
row_23 : form_at (kinds.Identifier ∷ kinds.OpenParen ∷ kinds.Identifier ∷ kinds.Comma ∷ kinds.Identifier ∷ kinds.CloseParen ∷ []) (0 ∷ []) ≡ forms.Call 1 (2 ∷ 3 ∷ [])
unfolding answer_from step step_in pop begin finish end_frames low_frames
row_23 = refl

-- f()
row_24 : form_at (kinds.Identifier ∷ kinds.OpenParen ∷ kinds.CloseParen ∷ []) (0 ∷ []) ≡ forms.Call 1 []
unfolding answer_from step step_in pop begin finish end_frames low_frames
row_24 = refl

-- o[a, b]
row_25 : form_at (kinds.Identifier ∷ kinds.OpenBracket ∷ kinds.Identifier ∷ kinds.Comma ∷ kinds.Identifier ∷ kinds.CloseBracket ∷ []) (0 ∷ []) ≡ forms.Index 1 (2 ∷ 3 ∷ [])
unfolding answer_from step step_in pop begin finish end_frames low_frames
row_25 = refl

-- o.v(a)
row_26 : form_at (kinds.Identifier ∷ kinds.Dot ∷ kinds.Identifier ∷ kinds.OpenParen ∷ kinds.Identifier ∷ kinds.CloseParen ∷ []) (0 ∷ []) ≡ forms.VerbCall 1 (2 ∷ []) (2 ∷ [])
unfolding answer_from step step_in pop begin finish end_frames low_frames
row_26 = refl

-- o <- v(a)
row_27 : form_at (kinds.Identifier ∷ kinds.Send ∷ kinds.Identifier ∷ kinds.OpenParen ∷ kinds.Identifier ∷ kinds.CloseParen ∷ []) (0 ∷ []) ≡ forms.Send 1 (Some (2 ∷ [])) (2 ∷ [])
unfolding answer_from step step_in pop begin finish end_frames low_frames
row_27 = refl

-- o <- (a)
row_28 : form_at (kinds.Identifier ∷ kinds.Send ∷ kinds.OpenParen ∷ kinds.Identifier ∷ kinds.CloseParen ∷ []) (0 ∷ []) ≡ forms.Send 1 None (2 ∷ [])
unfolding answer_from step step_in pop begin finish end_frames low_frames
row_28 = refl

-- -a
row_29 : form_at (kinds.Minus ∷ kinds.Identifier ∷ []) (0 ∷ []) ≡ forms.Prefix (0 ∷ []) 1
unfolding answer_from step step_in pop begin finish end_frames low_frames
row_29 = refl

-- a + b
row_30 : form_at (kinds.Identifier ∷ kinds.Plus ∷ kinds.Identifier ∷ []) (0 ∷ []) ≡ forms.Binary 1 (1 ∷ []) 2
unfolding answer_from step step_in pop begin finish end_frames low_frames
row_30 = refl

-- a ** b
row_31 : form_at (kinds.Identifier ∷ kinds.Pow ∷ kinds.Identifier ∷ []) (0 ∷ []) ≡ forms.Binary 1 (1 ∷ []) 2
unfolding answer_from step step_in pop begin finish end_frames low_frames
row_31 = refl

-- a && b
row_32 : form_at (kinds.Identifier ∷ kinds.LogicalAnd ∷ kinds.Identifier ∷ []) (0 ∷ []) ≡ forms.Binary 1 (1 ∷ []) 2
unfolding answer_from step step_in pop begin finish end_frames low_frames
row_32 = refl

-- a =~ p
row_33 : form_at (kinds.Identifier ∷ kinds.Matches ∷ kinds.Identifier ∷ []) (0 ∷ []) ≡ forms.MatchBind 1 2
unfolding answer_from step step_in pop begin finish end_frames low_frames
row_33 = refl

-- x := a
row_34 : form_at (kinds.Identifier ∷ kinds.Assign ∷ kinds.Identifier ∷ []) (0 ∷ []) ≡ forms.Assign (0 ∷ []) (1 ∷ []) 1
unfolding answer_from step step_in pop begin finish end_frames low_frames
row_34 = refl

-- x += a
row_35 : form_at (kinds.Identifier ∷ kinds.AddAssign ∷ kinds.Identifier ∷ []) (0 ∷ []) ≡ forms.Assign (0 ∷ []) (1 ∷ []) 1
unfolding answer_from step step_in pop begin finish end_frames low_frames
row_35 = refl

-- o[a, b] := c
row_36 : form_at (kinds.Identifier ∷ kinds.OpenBracket ∷ kinds.Identifier ∷ kinds.Comma ∷ kinds.Identifier ∷ kinds.CloseBracket ∷ kinds.Assign ∷ kinds.Identifier ∷ []) (0 ∷ []) ≡ forms.AssignIndex 1 (2 ∷ 3 ∷ []) 4
unfolding answer_from step step_in pop begin finish end_frames low_frames
row_36 = refl

-- return
row_37 : form_at (kinds.Return ∷ []) (0 ∷ []) ≡ forms.Leave (0 ∷ []) None
unfolding answer_from step step_in pop begin finish end_frames low_frames
row_37 = refl

-- break a
row_38 : form_at (kinds.Break ∷ kinds.Identifier ∷ []) (0 ∷ []) ≡ forms.Leave (0 ∷ []) (Some 1)
unfolding answer_from step step_in pop begin finish end_frames low_frames
row_38 = refl

-- def x {}
row_39 : form_at (kinds.Def ∷ kinds.Identifier ∷ kinds.OpenBrace ∷ kinds.CloseBrace ∷ []) (0 ∷ []) ≡ forms.DefineObject (Some (1 ∷ [])) [] []
unfolding answer_from step step_in pop begin finish end_frames low_frames
row_39 = refl

-- def _ implements a, b { match p {} to v() {} }
row_40 : form_at (kinds.Def ∷ kinds.Ignore ∷ kinds.Implements ∷ kinds.Identifier ∷ kinds.Comma ∷ kinds.Identifier ∷ kinds.OpenBrace ∷ kinds.Match ∷ kinds.Identifier ∷ kinds.OpenBrace ∷ kinds.CloseBrace ∷ kinds.To ∷ kinds.Identifier ∷ kinds.OpenParen ∷ kinds.CloseParen ∷ kinds.OpenBrace ∷ kinds.CloseBrace ∷ kinds.CloseBrace ∷ []) (0 ∷ []) ≡ forms.DefineObject None (1 ∷ 2 ∷ []) (3 ∷ 4 ∷ [])
unfolding answer_from step step_in pop begin finish end_frames low_frames
row_40 = refl

-- def f(p, q) :g implements a, b {}
row_41 : form_at (kinds.Def ∷ kinds.Identifier ∷ kinds.OpenParen ∷ kinds.Identifier ∷ kinds.Comma ∷ kinds.Identifier ∷ kinds.CloseParen ∷ kinds.Colon ∷ kinds.Identifier ∷ kinds.Implements ∷ kinds.Identifier ∷ kinds.Comma ∷ kinds.Identifier ∷ kinds.OpenBrace ∷ kinds.CloseBrace ∷ []) (0 ∷ []) ≡ forms.DefineFunction (1 ∷ []) (1 ∷ 2 ∷ []) (Some 3) (4 ∷ 5 ∷ []) 6
unfolding answer_from step step_in pop begin finish end_frames low_frames
row_41 = refl

-- def f() {}
row_42 : form_at (kinds.Def ∷ kinds.Identifier ∷ kinds.OpenParen ∷ kinds.CloseParen ∷ kinds.OpenBrace ∷ kinds.CloseBrace ∷ []) (0 ∷ []) ≡ forms.DefineFunction (1 ∷ []) [] None [] 1
unfolding answer_from step step_in pop begin finish end_frames low_frames
row_42 = refl

-- def f() implements a {}
row_43 : form_at (kinds.Def ∷ kinds.Identifier ∷ kinds.OpenParen ∷ kinds.CloseParen ∷ kinds.Implements ∷ kinds.Identifier ∷ kinds.OpenBrace ∷ kinds.CloseBrace ∷ []) (0 ∷ []) ≡ forms.DefineFunction (1 ∷ []) [] None (1 ∷ []) 2
unfolding answer_from step step_in pop begin finish end_frames low_frames
row_43 = refl

-- def f(p :g) {}
row_44 : form_at (kinds.Def ∷ kinds.Identifier ∷ kinds.OpenParen ∷ kinds.Identifier ∷ kinds.Colon ∷ kinds.Identifier ∷ kinds.CloseParen ∷ kinds.OpenBrace ∷ kinds.CloseBrace ∷ []) (0 ∷ []) ≡ forms.DefineFunction (1 ∷ []) (1 ∷ []) None [] 2
unfolding answer_from step step_in pop begin finish end_frames low_frames
row_44 = refl

-- def x := a
row_45 : form_at (kinds.Def ∷ kinds.Identifier ∷ kinds.Assign ∷ kinds.Identifier ∷ []) (0 ∷ []) ≡ forms.Define 1 None 2
unfolding answer_from step step_in pop begin finish end_frames low_frames
row_45 = refl

-- def x :g exit j := a
row_46 : form_at (kinds.Def ∷ kinds.Identifier ∷ kinds.Colon ∷ kinds.Identifier ∷ kinds.Exit ∷ kinds.Identifier ∷ kinds.Assign ∷ kinds.Identifier ∷ []) (0 ∷ []) ≡ forms.Define 1 (Some 2) 3
unfolding answer_from step step_in pop begin finish end_frames low_frames
row_46 = refl

-- def [p] exit j := a
row_47 : form_at (kinds.Def ∷ kinds.OpenBracket ∷ kinds.Identifier ∷ kinds.CloseBracket ∷ kinds.Exit ∷ kinds.Identifier ∷ kinds.Assign ∷ kinds.Identifier ∷ []) (0 ∷ []) ≡ forms.Define 1 (Some 2) 3
unfolding answer_from step step_in pop begin finish end_frames low_frames
row_47 = refl

-- var x := a
row_48 : form_at (kinds.Var ∷ kinds.Identifier ∷ kinds.Assign ∷ kinds.Identifier ∷ []) (0 ∷ []) ≡ forms.DefineVar (1 ∷ []) None None 1
unfolding answer_from step step_in pop begin finish end_frames low_frames
row_48 = refl

-- var x :g exit j := a
row_49 : form_at (kinds.Var ∷ kinds.Identifier ∷ kinds.Colon ∷ kinds.Identifier ∷ kinds.Exit ∷ kinds.Identifier ∷ kinds.Assign ∷ kinds.Identifier ∷ []) (0 ∷ []) ≡ forms.DefineVar (1 ∷ []) (Some 1) (Some 2) 3
unfolding answer_from step step_in pop begin finish end_frames low_frames
row_49 = refl

-- var x exit j := a
row_50 : form_at (kinds.Var ∷ kinds.Identifier ∷ kinds.Exit ∷ kinds.Identifier ∷ kinds.Assign ∷ kinds.Identifier ∷ []) (0 ∷ []) ≡ forms.DefineVar (1 ∷ []) None (Some 1) 2
unfolding answer_from step step_in pop begin finish end_frames low_frames
row_50 = refl

-- def x := a
row_51 : form_at (kinds.Def ∷ kinds.Identifier ∷ kinds.Assign ∷ kinds.Identifier ∷ []) (0 ∷ 0 ∷ []) ≡ forms.FinalPattern (1 ∷ []) None
unfolding answer_from step step_in pop begin finish end_frames low_frames
row_51 = refl

-- def x :g := a
row_52 : form_at (kinds.Def ∷ kinds.Identifier ∷ kinds.Colon ∷ kinds.Identifier ∷ kinds.Assign ∷ kinds.Identifier ∷ []) (0 ∷ 0 ∷ []) ≡ forms.FinalPattern (1 ∷ []) (Some 1)
unfolding answer_from step step_in pop begin finish end_frames low_frames
row_52 = refl

-- def _ :g := a
row_53 : form_at (kinds.Def ∷ kinds.Ignore ∷ kinds.Colon ∷ kinds.Identifier ∷ kinds.Assign ∷ kinds.Identifier ∷ []) (0 ∷ 0 ∷ []) ≡ forms.AnyPattern (Some 1)
unfolding answer_from step step_in pop begin finish end_frames low_frames
row_53 = refl

-- fn x :g, _ {}
row_54 : form_at (kinds.Fn ∷ kinds.Identifier ∷ kinds.Colon ∷ kinds.Identifier ∷ kinds.Comma ∷ kinds.Ignore ∷ kinds.OpenBrace ∷ kinds.CloseBrace ∷ []) (0 ∷ 0 ∷ []) ≡ forms.FinalPattern (1 ∷ []) (Some 1)
unfolding answer_from step step_in pop begin finish end_frames low_frames
row_54 = refl

-- fn x, _ :g {}
row_55 : form_at (kinds.Fn ∷ kinds.Identifier ∷ kinds.Comma ∷ kinds.Ignore ∷ kinds.Colon ∷ kinds.Identifier ∷ kinds.OpenBrace ∷ kinds.CloseBrace ∷ []) (0 ∷ 1 ∷ []) ≡ forms.AnyPattern (Some 1)
unfolding answer_from step step_in pop begin finish end_frames low_frames
row_55 = refl

-- fn _ {}
row_56 : form_at (kinds.Fn ∷ kinds.Ignore ∷ kinds.OpenBrace ∷ kinds.CloseBrace ∷ []) (0 ∷ 0 ∷ []) ≡ forms.AnyPattern None
unfolding answer_from step step_in pop begin finish end_frames low_frames
row_56 = refl

-- fn var x :g {}
row_57 : form_at (kinds.Fn ∷ kinds.Var ∷ kinds.Identifier ∷ kinds.Colon ∷ kinds.Identifier ∷ kinds.OpenBrace ∷ kinds.CloseBrace ∷ []) (0 ∷ 0 ∷ []) ≡ forms.VarPattern (2 ∷ []) (Some 1)
unfolding answer_from step step_in pop begin finish end_frames low_frames
row_57 = refl

-- fn var x {}
row_58 : form_at (kinds.Fn ∷ kinds.Var ∷ kinds.Identifier ∷ kinds.OpenBrace ∷ kinds.CloseBrace ∷ []) (0 ∷ 0 ∷ []) ≡ forms.VarPattern (2 ∷ []) None
unfolding answer_from step step_in pop begin finish end_frames low_frames
row_58 = refl

-- fn [p, q] {}
row_59 : form_at (kinds.Fn ∷ kinds.OpenBracket ∷ kinds.Identifier ∷ kinds.Comma ∷ kinds.Identifier ∷ kinds.CloseBracket ∷ kinds.OpenBrace ∷ kinds.CloseBrace ∷ []) (0 ∷ 0 ∷ []) ≡ forms.ListPattern (1 ∷ 2 ∷ [])
unfolding answer_from step step_in pop begin finish end_frames low_frames
row_59 = refl

-- fn via (a) p {}
row_60 : form_at (kinds.Fn ∷ kinds.Via ∷ kinds.OpenParen ∷ kinds.Identifier ∷ kinds.CloseParen ∷ kinds.Identifier ∷ kinds.OpenBrace ∷ kinds.CloseBrace ∷ []) (0 ∷ 0 ∷ []) ≡ forms.ViaPattern 1 2
unfolding answer_from step step_in pop begin finish end_frames low_frames
row_60 = refl

-- fn x :g {}
row_61 : form_at (kinds.Fn ∷ kinds.Identifier ∷ kinds.Colon ∷ kinds.Identifier ∷ kinds.OpenBrace ∷ kinds.CloseBrace ∷ []) (0 ∷ 0 ∷ 0 ∷ []) ≡ forms.NounGuard (3 ∷ []) []
unfolding answer_from step step_in pop begin finish end_frames low_frames
row_61 = refl

-- fn x :g[a, b] {}
row_62 : form_at (kinds.Fn ∷ kinds.Identifier ∷ kinds.Colon ∷ kinds.Identifier ∷ kinds.OpenBracket ∷ kinds.Identifier ∷ kinds.Comma ∷ kinds.Identifier ∷ kinds.CloseBracket ∷ kinds.OpenBrace ∷ kinds.CloseBrace ∷ []) (0 ∷ 0 ∷ 0 ∷ []) ≡ forms.NounGuard (3 ∷ []) (1 ∷ 2 ∷ [])
unfolding answer_from step step_in pop begin finish end_frames low_frames
row_62 = refl

-- fn x :(a) {}
row_63 : form_at (kinds.Fn ∷ kinds.Identifier ∷ kinds.Colon ∷ kinds.OpenParen ∷ kinds.Identifier ∷ kinds.CloseParen ∷ kinds.OpenBrace ∷ kinds.CloseBrace ∷ []) (0 ∷ 0 ∷ 0 ∷ []) ≡ forms.ExprGuard 1
unfolding answer_from step step_in pop begin finish end_frames low_frames
row_63 = refl

-- def x { to v(p, q) :g {} }
row_64 : form_at (kinds.Def ∷ kinds.Identifier ∷ kinds.OpenBrace ∷ kinds.To ∷ kinds.Identifier ∷ kinds.OpenParen ∷ kinds.Identifier ∷ kinds.Comma ∷ kinds.Identifier ∷ kinds.CloseParen ∷ kinds.Colon ∷ kinds.Identifier ∷ kinds.OpenBrace ∷ kinds.CloseBrace ∷ kinds.CloseBrace ∷ []) (0 ∷ 0 ∷ []) ≡ forms.To (4 ∷ []) (1 ∷ 2 ∷ []) (Some 3) 4
unfolding answer_from step step_in pop begin finish end_frames low_frames
row_64 = refl

-- def x { to v() {} }
row_65 : form_at (kinds.Def ∷ kinds.Identifier ∷ kinds.OpenBrace ∷ kinds.To ∷ kinds.Identifier ∷ kinds.OpenParen ∷ kinds.CloseParen ∷ kinds.OpenBrace ∷ kinds.CloseBrace ∷ kinds.CloseBrace ∷ []) (0 ∷ 0 ∷ []) ≡ forms.To (4 ∷ []) [] None 1
unfolding answer_from step step_in pop begin finish end_frames low_frames
row_65 = refl

-- def x { method "v"(p :g) {} }
row_66 : form_at (kinds.Def ∷ kinds.Identifier ∷ kinds.OpenBrace ∷ kinds.Method ∷ kinds.Text ∷ kinds.OpenParen ∷ kinds.Identifier ∷ kinds.Colon ∷ kinds.Identifier ∷ kinds.CloseParen ∷ kinds.OpenBrace ∷ kinds.CloseBrace ∷ kinds.CloseBrace ∷ []) (0 ∷ 0 ∷ []) ≡ forms.Method (4 ∷ []) (1 ∷ []) None 2
unfolding answer_from step step_in pop begin finish end_frames low_frames
row_66 = refl

-- def x { match p {} }
row_67 : form_at (kinds.Def ∷ kinds.Identifier ∷ kinds.OpenBrace ∷ kinds.Match ∷ kinds.Identifier ∷ kinds.OpenBrace ∷ kinds.CloseBrace ∷ kinds.CloseBrace ∷ []) (0 ∷ 0 ∷ []) ≡ forms.Matcher 1 2
unfolding answer_from step step_in pop begin finish end_frames low_frames
row_67 = refl

-- a; b
row_68 : form_at (kinds.Identifier ∷ kinds.Semicolon ∷ kinds.Identifier ∷ []) [] ≡ forms.Program (1 ∷ 2 ∷ [])
unfolding answer_from step step_in pop begin finish end_frames low_frames
row_68 = refl
