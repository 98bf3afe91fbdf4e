-- In a tree that tokens spell, each node has trees where its shape looks for them.
use Rattle.std.proofs.Common.{◌≡◌, ℕ, zero, suc, List, [], ◌∷◌, ◌++◌, Bool, true, false, ◌&&◌, ◌-◌, Option, Some, None, length, slice_get, refl, sym, subst, ap, ◌∙◌, arith, length-append}
use Rattle.def_syntax.specs.declared.token.TokenKind.{TokenKind}
use Rattle.def_syntax.specs.declared.token.TokenKind.TheVariants as kinds
use Rattle.def_syntax.specs.declared.syntax.Word.{Word}
use Rattle.def_syntax.specs.declared.syntax.Shape.{Shape}
use Rattle.def_syntax.specs.declared.syntax.Shape.TheVariants as shapes
use Rattle.def_syntax.specs.declared.syntax.Line.{Line}
use Rattle.def_syntax.specs.declared.syntax.Line.TheVariants as lines
use Rattle.def_syntax.specs.declared.syntax.Tail.{Tail}
use Rattle.def_syntax.specs.declared.syntax.Tail.TheVariants as tails
use Rattle.def_syntax.specs.declared.place.Place.{Place}
use Rattle.def_syntax.specs.declared.place.Place.TheVariants as places
use Rattle.def_syntax.specs.declared.place.Move.{Move}
use Rattle.def_syntax.specs.declared.place.Move.TheVariants.{Takes, Reads, Wraps}
use Rattle.def_syntax.specs.declared.place.Ending.{Ending}
use Rattle.def_syntax.specs.declared.place.Ending.TheVariants.{Never, Ends, BeforeStop}
use Rattle.def_syntax.specs.declared.place.Series.{Series}
use Rattle.def_syntax.specs.declared.place.Series.TheVariants as series
use Rattle.def_syntax.specs.declared.place.Head.{Head}
use Rattle.def_syntax.specs.declared.place.Head.TheVariants as heads
use Rattle.def_syntax.specs.declared.place.Caught.{Caught}
use Rattle.def_syntax.specs.declared.place.Caught.TheVariants as caught
use Rattle.def_syntax.specs.declared.place.Named.TheVariants as named
use Rattle.def_syntax.specs.declared.place.Definition.{Definition}
use Rattle.def_syntax.specs.declared.place.Definition.TheVariants as definitions
use Rattle.def_syntax.specs.declared.place.Role.{Role}
use Rattle.def_syntax.specs.declared.place.Role.TheVariants as roles
use Rattle.def_syntax.specs.Kinds.{same}
use Rattle.def_syntax.specs.Grammar.{Tree, Trees, node, none, more, leaf, moves, ending, closing, caught_shape, definition_shape, role_shape, form_at, shape_of, assigned, changed, becomes, more_at, begun, MayEnd, Has, here, there, Goal, line, tail, inside, Spells, form, tower, stays, goes, ends, takes, reads, wraps, SpellsProgram}

-- the parts of a node: a token by its kind, none for a tree
abbrev pub slots : Trees → List (Option TokenKind)
slots none = []
slots (more ts v) = slots ts ++ None ∷ []
slots (leaf ts t) = slots ts ++ Some t.kind ∷ []

abbrev pub is_tree : Option (Option TokenKind) → Bool
is_tree (Some None) = true
is_tree other = false

abbrev pub tree_there : List (Option TokenKind) → ℕ → Bool
tree_there ss k = is_tree (slice_get ss k)

abbrev pub last_there : List (Option TokenKind) → Bool
last_there ss = tree_there ss (length ss - 1)

abbrev pub is_kind : TokenKind → Option (Option TokenKind) → Bool
is_kind k (Some (Some j)) = same j k
is_kind k other = false

abbrev pub no_parts : List (Option TokenKind) → Bool
no_parts [] = true
no_parts (s ∷ ss) = false

-- a `for` with a key, and one without
abbrev pub for_has : Bool → List (Option TokenKind) → Bool
for_has true ss = tree_there ss 0 && (tree_there ss 2 && (tree_there ss 4 && tree_there ss 5))
for_has false ss = tree_there ss 0 && (tree_there ss 2 && tree_there ss 3)

-- there are trees where a node of this shape has them
abbrev pub has : Shape → List (Option TokenKind) → Bool
has shapes.Noun ss = no_parts ss
has shapes.Group ss = tree_there ss 0
has shapes.If ss = tree_there ss 1 && tree_there ss 3
has shapes.While ss = tree_there ss 1 && tree_there ss 3
has shapes.For ss = for_has (is_kind kinds.FatArrow (slice_get ss 1)) ss
has shapes.Escape ss = tree_there ss 0 && tree_there ss 1
has shapes.Try ss = tree_there ss 0
has shapes.When ss = tree_there ss 1 && tree_there ss 4
has shapes.Function ss = last_there ss
has shapes.Call ss = tree_there ss 0
has shapes.Index ss = tree_there ss 0
has shapes.VerbCall ss = tree_there ss 0
has shapes.Send ss = tree_there ss 0
has shapes.Prefix ss = tree_there ss 0
has shapes.Binary ss = tree_there ss 0 && tree_there ss 2
has shapes.MatchBind ss = tree_there ss 0 && tree_there ss 2
has shapes.Assign ss = tree_there ss 1
has shapes.AssignIndex ss = tree_there ss 0 && last_there ss
has shapes.DefineFunction ss = last_there ss
has shapes.Define ss = tree_there ss 0 && last_there ss
has shapes.DefineVar ss = last_there ss
has shapes.ViaPattern ss = tree_there ss 1 && tree_there ss 3
has shapes.ExprGuard ss = tree_there ss 0
has shapes.To ss = last_there ss
has shapes.Method ss = last_there ss
has shapes.Matcher ss = tree_there ss 0 && tree_there ss 1
has _ ss = true

-- each node of the tree has them
abbrev mutual
  pub Whole : Tree → Type 0
  Whole (node s t ts) = (has s (slots ts) ≡ true) × AllWhole ts

  pub AllWhole : Trees → Type 0
  AllWhole none = Unit {0}
  AllWhole (more ts v) = AllWhole ts × Whole v
  AllWhole (leaf ts t) = AllWhole ts

-- ---- one more part

there_more : (ss : List (Option TokenKind)) (x : Option TokenKind) (k : ℕ) → tree_there ss k ≡ true → tree_there (ss ++ x ∷ []) k ≡ true
there_more [] x k h = cc
there_more (s ∷ ss) x zero h = h
there_more (s ∷ ss) x (suc k) h = there_more ss x k h

there_last : (ss : List (Option TokenKind)) → tree_there (ss ++ None ∷ []) (length ss) ≡ true
there_last [] = refl
there_last (s ∷ ss) = there_last ss

one_longer : (ss : List (Option TokenKind)) (x : Option TokenKind) → length (ss ++ x ∷ []) - 1 ≡ length ss
one_longer ss x = omega (arith, length-append ss (x ∷ []))

last_more : (ss : List (Option TokenKind)) → last_there (ss ++ None ∷ []) ≡ true
last_more ss = ap (λ (n : ℕ). tree_there (ss ++ None ∷ []) n) (one_longer ss None) ∙ there_last ss

and_true : (a b : Bool) → a ≡ true → b ≡ true → (a && b) ≡ true
and_true true b h k = k
and_true false b h k = h

pub and_left : (a b : Bool) → (a && b) ≡ true → a ≡ true
and_left true b h = refl
and_left false b h = h

pub and_right : (a b : Bool) → (a && b) ≡ true → b ≡ true
and_right true b h = h
and_right false b h = cc

-- ---- what is known at a place

abbrev series_laid : Series → List (Option TokenKind) → Type 0
series_laid series.Arguments ss = tree_there ss 0 ≡ true
series_laid series.Index ss = tree_there ss 0 ≡ true
series_laid series.VerbArguments ss = tree_there ss 0 ≡ true
series_laid series.SendArguments ss = tree_there ss 0 ≡ true
series_laid _ ss = Unit {0}

-- what stands behind the `(` of a form begins the node, or not
abbrev opened_head : Head → List (Option TokenKind)
opened_head heads.Group = []
opened_head heads.Guard = []
opened_head _ = Some kinds.OpenParen ∷ []

abbrev definition_laid : Definition → List (Option TokenKind) → Type 0
definition_laid definitions.Def ss = tree_there ss 0 ≡ true
definition_laid definitions.Var ss = Unit {0}

abbrev Laid : Place → List (Option TokenKind) → Type 0
Laid (places.Done s) ss = has s ss ≡ true
Laid (places.Last l s) ss = has s (ss ++ None ∷ []) ≡ true
Laid (places.First x) ss = series_laid x ss
Laid (places.Item n x) ss = series_laid x ss
Laid (places.More n x) ss = series_laid x ss
Laid (places.Open h) ss = (ss ≡ []) × (opened_head h ≡ Some kinds.OpenParen ∷ [])
Laid (places.Test h) ss = ss ≡ opened_head h
Laid (places.Close h) ss = ss ≡ opened_head h ++ None ∷ []
Laid places.IfThen ss = ss ≡ Some kinds.OpenParen ∷ None ∷ Some kinds.CloseParen ∷ []
Laid places.IfElse ss = has shapes.If ss ≡ true
Laid places.WhenArrow ss = ss ≡ Some kinds.OpenParen ∷ None ∷ Some kinds.CloseParen ∷ []
Laid places.WhenBlock ss = ss ≡ Some kinds.OpenParen ∷ None ∷ Some kinds.CloseParen ∷ Some kinds.Arrow ∷ []
Laid (places.Caught e) ss = has (caught_shape e) ss ≡ true
Laid (places.CatchPattern e) ss = has (caught_shape e) ss ≡ true
Laid (places.CatchBlock e) ss = has (caught_shape e) ss ≡ true
Laid places.Escape ss = ss ≡ []
Laid places.EscapeBlock ss = ss ≡ None ∷ []
Laid places.Try ss = ss ≡ []
Laid places.TryMore ss = tree_there ss 0 ≡ true
Laid places.TryPattern ss = tree_there ss 0 ≡ true
Laid places.TryBlock ss = tree_there ss 0 ≡ true
Laid places.For ss = ss ≡ []
Laid places.ForKey ss = ss ≡ None ∷ []
Laid places.ForValue ss = ss ≡ None ∷ Some kinds.FatArrow ∷ []
Laid places.ForIn ss = ss ≡ None ∷ Some kinds.FatArrow ∷ None ∷ []
Laid places.ForList ss = has shapes.For ((ss ++ None ∷ []) ++ None ∷ []) ≡ true
Laid places.Verb ss = tree_there ss 0 ≡ true
Laid places.VerbOpen ss = tree_there ss 0 ≡ true
Laid places.Send ss = tree_there ss 0 ≡ true
Laid places.SendOpen ss = tree_there ss 0 ≡ true
Laid (places.Bound c d) ss = definition_laid d ss
Laid (places.Exit c d) ss = definition_laid d ss
Laid (places.Ejector c d) ss = definition_laid d ss
Laid (places.Value c d) ss = definition_laid d ss
Laid places.Matcher ss = ss ≡ []
Laid (places.PatternGuard s) ss = (rs : List (Option TokenKind)) → has s rs ≡ true
Laid (places.Def c) ss = ss ≡ []
Laid _ ss = Unit {0}

abbrev Ended : Ending → List (Option TokenKind) → Type 0
Ended Never ss = Unit {0}
Ended (Ends s) ss = has s ss ≡ true
Ended (BeforeStop s) ss = has s ss ≡ true

laid_ends : (q : Place) (ss : List (Option TokenKind)) → Laid q ss → Ended (ending q) ss
laid_ends (places.Done s) ss h = h
laid_ends places.Program ss h = refl
laid_ends places.ProgramMore ss h = refl
laid_ends places.Leave ss h = refl
laid_ends places.IfElse ss h = h
laid_ends (places.Caught e) ss h = h
laid_ends places.TryMore ss h = h
laid_ends (places.PatternGuard s) ss h = h ss
laid_ends places.NounGuard ss h = refl
laid_ends _ ss h = tt

ended_has : (e : Ending) (s : Shape) (ts : List Word) (ss : List (Option TokenKind)) → MayEnd e s ts → Ended e ss → has s ss ≡ true
ended_has Never s ts ss m h = absurd m
ended_has (Ends r) s ts ss m h = subst (λ (x : Shape). has x ss ≡ true) m h
ended_has (BeforeStop r) s ts ss m h = subst (λ (x : Shape). has x ss ≡ true) m.0 h

-- ---- a move keeps it

abbrev Kept : List (Option TokenKind) → Move → Type 0
Kept ss (Takes k r) = Laid r (ss ++ Some k ∷ [])
Kept ss (Reads l r) = Laid r (ss ++ None ∷ [])
Kept ss (Wraps k s r) = (has s ss ≡ true) × Laid r (None ∷ Some k ∷ [])

abbrev EachKept : List (Option TokenKind) → List Move → Type 0
EachKept ss [] = Unit {0}
EachKept ss (m ∷ ms) = Kept ss m × EachKept ss ms

kept_of : (ss : List (Option TokenKind)) {ms : List Move} {m : Move} → EachKept ss ms → Has ms m → Kept ss m
kept_of ss h (here {m = m} {ms = ms}) = h.0
kept_of ss h (there {n = n} {ms = ms} k) = kept_of ss h.1 k

series_more : (x : Series) (ss : List (Option TokenKind)) (p : Option TokenKind) → series_laid x ss → series_laid x (ss ++ p ∷ [])
series_more series.Arguments ss p h = there_more ss p 0 h
series_more series.Index ss p h = there_more ss p 0 h
series_more series.VerbArguments ss p h = there_more ss p 0 h
series_more series.SendArguments ss p h = there_more ss p 0 h
series_more _ ss p h = tt

series_closed : (x : Series) (ss : List (Option TokenKind)) → series_laid x ss → Kept ss (closing x)
series_closed series.Index ss h = there_more ss (Some kinds.CloseBracket) 0 h
series_closed series.Members ss h = refl
series_closed series.GuardArguments ss h = refl
series_closed series.Parameters ss h = tt
series_closed series.FunctionParameters ss h = last_more ss
series_closed series.ToParameters ss h = tt
series_closed series.MethodParameters ss h = tt
series_closed series.ListPattern ss h = refl
series_closed other ss h = there_more ss (Some kinds.CloseParen) 0 h

one_more : {ss rs : List (Option TokenKind)} (x : Option TokenKind) → ss ≡ rs → ss ++ x ∷ [] ≡ rs ++ x ∷ []
one_more x e = ap (λ (y : List (Option TokenKind)). y ++ x ∷ []) e

behind_laid : (h : Head) (ss : List (Option TokenKind)) → ss ≡ opened_head h ++ None ∷ [] → EachKept ss (moves (places.Close h))
behind_laid heads.While ss e = (ap (λ (y : List (Option TokenKind)). has shapes.While ((y ++ Some kinds.CloseParen ∷ []) ++ None ∷ [])) e, tt)
behind_laid heads.Via ss e = (ap (λ (y : List (Option TokenKind)). has shapes.ViaPattern ((y ++ Some kinds.CloseParen ∷ []) ++ None ∷ [])) e, tt)
behind_laid heads.Group ss e = (ap (λ (y : List (Option TokenKind)). has shapes.Group (y ++ Some kinds.CloseParen ∷ [])) e, tt)
behind_laid heads.Guard ss e = (ap (λ (y : List (Option TokenKind)). has shapes.ExprGuard (y ++ Some kinds.CloseParen ∷ [])) e, tt)
behind_laid other ss e = (one_more (Some kinds.CloseParen) e, tt)

both_more : (ss : List (Option TokenKind)) (x : Option TokenKind) (i j : ℕ) → (tree_there ss i && tree_there ss j) ≡ true → (tree_there (ss ++ x ∷ []) i && tree_there (ss ++ x ∷ []) j) ≡ true
both_more ss x i j h = and_true _ _ (there_more ss x i (and_left _ _ h)) (there_more ss x j (and_right (tree_there ss i) _ h))

caught_more : (e : Caught) (ss : List (Option TokenKind)) (x : Option TokenKind) → has (caught_shape e) ss ≡ true → has (caught_shape e) (ss ++ x ∷ []) ≡ true
caught_more caught.Escape ss x h = both_more ss x 0 1 h
caught_more caught.When ss x h = both_more ss x 1 4 h

definition_more : (d : Definition) (ss : List (Option TokenKind)) (x : Option TokenKind) → definition_laid d ss → definition_laid d (ss ++ x ∷ [])
definition_more definitions.Def ss x h = there_more ss x 0 h
definition_more definitions.Var ss x h = tt

definition_done : (d : Definition) (ss : List (Option TokenKind)) → definition_laid d ss → has (definition_shape d) (ss ++ None ∷ []) ≡ true
definition_done definitions.Def ss h = and_true _ _ (there_more ss None 0 h) (last_more ss)
definition_done definitions.Var ss h = last_more ss

role_done : (r : Role) (ss : List (Option TokenKind)) → has (role_shape r) (ss ++ None ∷ []) ≡ true
role_done roles.To ss = last_more ss
role_done roles.Method ss = last_more ss

parameters_laid : (r : Role) (ss : List (Option TokenKind)) → EachKept ss (moves (places.MemberOpen r))
parameters_laid roles.To ss = (tt, tt)
parameters_laid roles.Method ss = (tt, tt)

laid_moves : (q : Place) (ss : List (Option TokenKind)) → Laid q ss → EachKept ss (moves q)
laid_moves (places.Done s) ss h = tt
laid_moves (places.Last l s) ss h = (h, tt)
laid_moves places.Program ss h = (tt, (tt, (tt, tt)))
laid_moves places.ProgramMore ss h = (tt, (tt, tt))
laid_moves places.Block ss h = (tt, (tt, (tt, (refl, tt))))
laid_moves places.BlockMore ss h = (tt, (tt, (refl, tt)))
laid_moves places.Leave ss h = (refl, tt)
laid_moves (places.First x) ss h = (series_more x ss None h, (series_closed x ss h, tt))
laid_moves (places.Item n x) ss h = (series_more x ss None h, tt)
laid_moves (places.More zero x) ss h = (series_closed x ss h, tt)
laid_moves (places.More (suc n) x) ss h = (series_more x ss (Some kinds.Comma) h, (series_closed x ss h, tt))
laid_moves (places.Open x) ss h = (one_more (Some kinds.OpenParen) h.0 ∙ sym h.1, tt)
laid_moves (places.Test x) ss h = (one_more None h, tt)
laid_moves (places.Close x) ss h = behind_laid x ss h
laid_moves places.IfThen ss h = (ap (λ (y : List (Option TokenKind)). has shapes.If (y ++ None ∷ [])) h, tt)
laid_moves places.IfElse ss h = (both_more (ss ++ Some kinds.Else ∷ []) None 1 3 (both_more ss (Some kinds.Else) 1 3 h), tt)
laid_moves places.WhenArrow ss h = (one_more (Some kinds.Arrow) h, tt)
laid_moves places.WhenBlock ss h = (ap (λ (y : List (Option TokenKind)). has shapes.When (y ++ None ∷ [])) h, tt)
laid_moves (places.Caught e) ss h = (caught_more e ss (Some kinds.Catch) h, tt)
laid_moves (places.CatchPattern e) ss h = (caught_more e ss None h, tt)
laid_moves (places.CatchBlock e) ss h = (caught_more e ss None h, tt)
laid_moves places.Escape ss h = (one_more None h, tt)
laid_moves places.EscapeBlock ss h = (ap (λ (y : List (Option TokenKind)). has shapes.Escape (y ++ None ∷ [])) h, tt)
laid_moves places.Try ss h = (ap (λ (y : List (Option TokenKind)). tree_there (y ++ None ∷ []) 0) h, tt)
laid_moves places.TryMore ss h = (there_more ss (Some kinds.Catch) 0 h, (there_more (ss ++ Some kinds.Finally ∷ []) None 0 (there_more ss (Some kinds.Finally) 0 h), tt))
laid_moves places.TryPattern ss h = (there_more ss None 0 h, tt)
laid_moves places.TryBlock ss h = (there_more ss None 0 h, tt)
laid_moves places.For ss h = (one_more None h, tt)
laid_moves places.ForKey ss h = (one_more (Some kinds.FatArrow) h, (ap (λ (y : List (Option TokenKind)). has shapes.For (((y ++ Some kinds.In ∷ []) ++ None ∷ []) ++ None ∷ [])) h, tt))
laid_moves places.ForValue ss h = (one_more None h, tt)
laid_moves places.ForIn ss h = (ap (λ (y : List (Option TokenKind)). has shapes.For (((y ++ Some kinds.In ∷ []) ++ None ∷ []) ++ None ∷ [])) h, tt)
laid_moves places.ForList ss h = (h, tt)
laid_moves places.Verb ss h = (there_more ss (Some kinds.Text) 0 h, (there_more ss (Some kinds.Identifier) 0 h, tt))
laid_moves places.VerbOpen ss h = (there_more ss (Some kinds.OpenParen) 0 h, tt)
laid_moves places.Send ss h = (there_more ss (Some kinds.Text) 0 h, (there_more ss (Some kinds.Identifier) 0 h, (there_more ss (Some kinds.OpenParen) 0 h, tt)))
laid_moves places.SendOpen ss h = (there_more ss (Some kinds.OpenParen) 0 h, tt)
laid_moves (places.Def c) ss h = (ap (λ (y : List (Option TokenKind)). tree_there (y ++ None ∷ []) 0) h, (tt, (tt, tt)))
laid_moves (places.Name c named.Noun) ss h = (tt, ((refl, refl), ((refl, refl), (tt, (tt, (tt, tt))))))
laid_moves (places.Name c named.Ignore) ss h = (tt, ((refl, refl), ((refl, refl), (tt, (tt, tt)))))
laid_moves (places.NameGuarded c named.Noun) ss h = ((refl, refl), ((refl, refl), tt))
laid_moves (places.NameGuarded c named.Ignore) ss h = ((refl, refl), ((refl, refl), tt))
laid_moves (places.Bound c d) ss h = (definition_more d ss (Some kinds.Exit) h, (definition_more d ss (Some kinds.Assign) h, tt))
laid_moves (places.Exit c d) ss h = (definition_more d ss None h, tt)
laid_moves (places.Ejector c d) ss h = (definition_more d ss (Some kinds.Assign) h, tt)
laid_moves (places.Value c d) ss h = (definition_done d ss h, tt)
laid_moves (places.VarName c) ss h = (tt, (tt, (tt, tt)))
laid_moves places.AuditorMore ss h = (tt, (tt, tt))
laid_moves places.Script ss h = (tt, (tt, (tt, (refl, tt))))
laid_moves places.Result ss h = (tt, (tt, (last_more ss, tt)))
laid_moves places.ResultGuarded ss h = (tt, (last_more ss, tt))
laid_moves places.FunctionAuditorMore ss h = (tt, (last_more ss, tt))
laid_moves (places.MemberVerb r) ss h = (tt, (tt, tt))
laid_moves (places.MemberOpen r) ss h = parameters_laid r ss
laid_moves (places.MemberResult r) ss h = (tt, (role_done r ss, tt))
laid_moves (places.MemberGuard r) ss h = (role_done r (ss ++ None ∷ []), tt)
laid_moves places.Matcher ss h = (ap (λ (y : List (Option TokenKind)). has shapes.Matcher ((y ++ None ∷ []) ++ None ∷ [])) h, tt)
laid_moves (places.PatternGuard s) ss h = (h ((ss ++ Some kinds.Colon ∷ []) ++ None ∷ []), tt)
laid_moves places.VarPattern ss h = ((λ rs. refl), tt)
laid_moves other ss h = (tt, tt)

-- ---- where a node begins

abbrev LaidAt : Option Place → List (Option TokenKind) → Type 0
LaidAt None ss = Unit {0}
LaidAt (Some q) ss = Laid q ss

laid_form : (l : Line) (k : TokenKind) → LaidAt (form_at l k) []
laid_form lines.Expr kinds.Return = tt
laid_form lines.Expr kinds.Break = tt
laid_form lines.Expr kinds.Continue = tt
laid_form lines.Expr kinds.Def = refl
laid_form lines.Expr kinds.Var = tt
laid_form lines.ExprBeforeBlock kinds.Return = refl
laid_form lines.ExprBeforeBlock kinds.Break = refl
laid_form lines.ExprBeforeBlock kinds.Continue = refl
laid_form lines.ExprBeforeBlock kinds.Def = refl
laid_form lines.ExprBeforeBlock kinds.Var = tt
laid_form lines.Prefix kinds.Minus = refl
laid_form lines.Prefix kinds.Not = refl
laid_form lines.Prim kinds.Number = refl
laid_form lines.Prim kinds.Text = refl
laid_form lines.Prim kinds.Character = refl
laid_form lines.Prim kinds.Identifier = refl
laid_form lines.Prim kinds.OpenBracket = tt
laid_form lines.Prim kinds.OpenParen = refl
laid_form lines.Prim kinds.OpenBrace = tt
laid_form lines.Prim kinds.If = (refl, refl)
laid_form lines.Prim kinds.While = (refl, refl)
laid_form lines.Prim kinds.For = refl
laid_form lines.Prim kinds.Escape = refl
laid_form lines.Prim kinds.Try = refl
laid_form lines.Prim kinds.When = (refl, refl)
laid_form lines.Prim kinds.Fn = tt
laid_form lines.Block kinds.OpenBrace = tt
laid_form lines.Branch kinds.OpenBrace = tt
laid_form lines.Branch kinds.If = (refl, refl)
laid_form lines.Pattern kinds.Ignore = λ rs. refl
laid_form lines.Pattern kinds.Identifier = λ rs. refl
laid_form lines.Pattern kinds.Var = tt
laid_form lines.Pattern kinds.OpenBracket = tt
laid_form lines.Pattern kinds.Via = (refl, refl)
laid_form lines.OtherPattern kinds.Var = tt
laid_form lines.OtherPattern kinds.OpenBracket = tt
laid_form lines.OtherPattern kinds.Via = (refl, refl)
laid_form lines.Guard kinds.Identifier = tt
laid_form lines.Guard kinds.OpenParen = refl
laid_form lines.Member kinds.To = tt
laid_form lines.Member kinds.Method = tt
laid_form lines.Member kinds.Match = refl
laid_form _ _ = tt

-- a noun has no parts, so that behind it an assignment has its value
noun_assigned : (ss : List (Option TokenKind)) (k : Option TokenKind) → no_parts ss ≡ true → tree_there ((ss ++ k ∷ []) ++ None ∷ []) 1 ≡ true
noun_assigned [] k h = refl
noun_assigned (s ∷ ss) k h = cc

index_assigned : (ss : List (Option TokenKind)) (k : Option TokenKind) → tree_there ss 0 ≡ true → has shapes.AssignIndex ((ss ++ k ∷ []) ++ None ∷ []) ≡ true
index_assigned ss k h = and_true _ _ (there_more (ss ++ k ∷ []) None 0 (there_more ss k 0 h)) (last_more (ss ++ k ∷ []))

assigned_laid : (l : Line) (s : Shape) (ss : List (Option TokenKind)) (k : Option TokenKind) → has s ss ≡ true → LaidAt (assigned l s) (ss ++ k ∷ [])
assigned_laid l shapes.Noun ss k h = noun_assigned ss k h
assigned_laid l shapes.Index ss k h = index_assigned ss k h
assigned_laid l _ ss k h = tt

changed_laid : (l : Line) (s : Shape) (ss : List (Option TokenKind)) (k : Option TokenKind) → has s ss ≡ true → LaidAt (changed l s) (ss ++ k ∷ [])
changed_laid l shapes.Noun ss k h = noun_assigned ss k h
changed_laid l _ ss k h = tt

becomes_laid : (l : Line) (s : Shape) (k : TokenKind) (ss : List (Option TokenKind)) → has s ss ≡ true → LaidAt (becomes l s k) (ss ++ Some k ∷ [])
becomes_laid l s kinds.Assign ss h = assigned_laid l s ss (Some kinds.Assign) h
becomes_laid l s kinds.AddAssign ss h = changed_laid l s ss (Some kinds.AddAssign) h
becomes_laid l s kinds.SubtractAssign ss h = changed_laid l s ss (Some kinds.SubtractAssign) h
becomes_laid l s kinds.MultiplyAssign ss h = changed_laid l s ss (Some kinds.MultiplyAssign) h
becomes_laid l s kinds.FloorDivideAssign ss h = changed_laid l s ss (Some kinds.FloorDivideAssign) h
becomes_laid l s kinds.RemainderAssign ss h = changed_laid l s ss (Some kinds.RemainderAssign) h
becomes_laid l s kinds.ModAssign ss h = changed_laid l s ss (Some kinds.ModAssign) h
becomes_laid l s kinds.PowAssign ss h = changed_laid l s ss (Some kinds.PowAssign) h
becomes_laid l s kinds.AndAssign ss h = changed_laid l s ss (Some kinds.AndAssign) h
becomes_laid l s kinds.OrAssign ss h = changed_laid l s ss (Some kinds.OrAssign) h
becomes_laid l s kinds.XorAssign ss h = changed_laid l s ss (Some kinds.XorAssign) h
becomes_laid l s _ ss h = tt

-- behind any other tail the first part is the tree
abbrev SuffixLaid : Tail → Shape → TokenKind → Type 0
SuffixLaid tails.Becomes s k = Unit {0}
SuffixLaid tails.BecomesBeforeBlock s k = Unit {0}
SuffixLaid c s k = LaidAt (more_at c s k) (None ∷ Some k ∷ [])

suffix_laid : (c : Tail) (s : Shape) (k : TokenKind) → SuffixLaid c s k
suffix_laid tails.Becomes s k = tt
suffix_laid tails.BecomesBeforeBlock s k = tt
suffix_laid tails.Ors s kinds.LogicalOr = refl
suffix_laid tails.Ands s kinds.LogicalAnd = refl
suffix_laid tails.Equality s kinds.Same = refl
suffix_laid tails.Equality s kinds.NotSame = refl
suffix_laid tails.Equality s kinds.Matches = refl
suffix_laid tails.Bits s kinds.And = refl
suffix_laid tails.Bits s kinds.Or = refl
suffix_laid tails.Bits s kinds.Xor = refl
suffix_laid tails.Relation s kinds.Less = refl
suffix_laid tails.Relation s kinds.AtMost = refl
suffix_laid tails.Relation s kinds.AsBigAs = refl
suffix_laid tails.Relation s kinds.AtLeast = refl
suffix_laid tails.Relation s kinds.Greater = refl
suffix_laid tails.Range s kinds.Through = refl
suffix_laid tails.Range s kinds.Till = refl
suffix_laid tails.Sums s kinds.Plus = refl
suffix_laid tails.Sums s kinds.Minus = refl
suffix_laid tails.Products s kinds.Times = refl
suffix_laid tails.Products s kinds.FloorDivide = refl
suffix_laid tails.Products s kinds.Remainder = refl
suffix_laid tails.Products s kinds.Mod = refl
suffix_laid tails.Power s kinds.Pow = refl
suffix_laid tails.Suffixes s kinds.OpenParen = refl
suffix_laid tails.Suffixes s kinds.OpenBracket = refl
suffix_laid tails.Suffixes s kinds.Dot = refl
suffix_laid tails.Suffixes s kinds.Send = refl
suffix_laid _ s _ = tt

laid_more : (c : Tail) (v : Tree) (t : Word) → Whole v → LaidAt (more_at c (shape_of v) t.kind) (slots (begun c v t))
laid_more tails.Becomes (node s f ts) t h = becomes_laid lines.Expr s t.kind (slots ts) h.0
laid_more tails.BecomesBeforeBlock (node s f ts) t h = becomes_laid lines.ExprBeforeBlock s t.kind (slots ts) h.0
laid_more tails.Ors v t h = suffix_laid tails.Ors (shape_of v) t.kind
laid_more tails.Ands v t h = suffix_laid tails.Ands (shape_of v) t.kind
laid_more tails.Equality v t h = suffix_laid tails.Equality (shape_of v) t.kind
laid_more tails.Bits v t h = suffix_laid tails.Bits (shape_of v) t.kind
laid_more tails.Relation v t h = suffix_laid tails.Relation (shape_of v) t.kind
laid_more tails.Range v t h = suffix_laid tails.Range (shape_of v) t.kind
laid_more tails.Sums v t h = suffix_laid tails.Sums (shape_of v) t.kind
laid_more tails.Products v t h = suffix_laid tails.Products (shape_of v) t.kind
laid_more tails.Power v t h = suffix_laid tails.Power (shape_of v) t.kind
laid_more tails.Suffixes v t h = suffix_laid tails.Suffixes (shape_of v) t.kind
laid_more tails.Nothing v t h = tt

begun_whole : (c : Tail) (v : Tree) (t : Word) → Whole v → AllWhole (begun c v t)
begun_whole tails.Becomes (node s f ts) t h = h.1
begun_whole tails.BecomesBeforeBlock (node s f ts) t h = h.1
begun_whole _ v t h = (tt, h)

-- ---- each tree that is spelled

abbrev Promise : Goal → Tree → Type 0
Promise (line l) w = Whole w
Promise (tail c v) w = Whole v → Whole w
Promise (inside q f fs) w = AllWhole fs → Laid q (slots fs) → Whole w

laid_at : {o : Option Place} {q : Place} (ss : List (Option TokenKind)) → o ≡ Some q → LaidAt o ss → Laid q ss
laid_at ss e h = subst (λ (x : Option Place). LaidAt x ss) e h

whole : {g : Goal} {ts : List Word} {w : Tree} {rest : List Word} → Spells g ts w rest → Promise g w
whole (form {l = l} {t = t} e d) = whole d tt (laid_at [] e (laid_form l t.kind))
whole (tower e d k) = whole k (whole d)
whole stays = λ h. h
whole (goes {c = c} {t = t} {v = v} e d k) = λ h. whole k (whole d (begun_whole c v t h) (laid_at (slots (begun c v t)) e (laid_more c v t h)))
whole (ends {q = q} {s = s} {fs = fs} {ts = ts} m) = λ a l. (ended_has (ending q) s ts (slots fs) m (laid_ends q (slots fs) l), a)
whole (takes {q = q} {r = r} {t = t} {fs = fs} h e d) = λ a l. whole d a (subst (λ (k : TokenKind). Laid r (slots fs ++ Some k ∷ [])) (sym e) (kept_of (slots fs) (laid_moves q (slots fs) l) h))
whole (reads {q = q} {fs = fs} h d k) = λ a l. whole k (a, whole d) (kept_of (slots fs) (laid_moves q (slots fs) l) h)
whole (wraps {q = q} {r = r} {t = t} {fs = fs} h e d) = λ a l.
    let g = kept_of (slots fs) (laid_moves q (slots fs) l) h in
    whole d (tt, (g.0, a)) (subst (λ (k : TokenKind). Laid r (None ∷ Some k ∷ [])) (sym e) g.1)

pub program_whole : (w : Tree) (ts : List Word) → SpellsProgram w ts → Whole w
program_whole w ts d = whole d tt tt
