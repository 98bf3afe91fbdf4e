-- In a tree that tokens spell, no part of a node is looked for twice: what a mark leads to is not the last part.
use Rattle.std.proofs.Common.{◌≡◌, ◌⊎◌, inl, inr, ◌≤◌, zero, suc, List, [], ◌∷◌, ◌++◌, true, false, Option, Some, None, length, refl, sym, subst, ap, ◌∙◌, arith, length-append, append_assoc}
use Rattle.def_syntax.specs.declared.token.TokenKind.{TokenKind}
use Rattle.def_syntax.specs.declared.token.TokenKind.TheVariants as kinds
use Rattle.def_syntax.specs.declared.syntax.Word.{Word}
use Rattle.def_syntax.specs.declared.syntax.Shape.{Shape}
use Rattle.def_syntax.specs.declared.syntax.Shape.TheVariants as shapes
use Rattle.def_syntax.specs.declared.syntax.Line.{Line}
use Rattle.def_syntax.specs.declared.syntax.Line.TheVariants as lines
use Rattle.def_syntax.specs.declared.syntax.Tail.{Tail}
use Rattle.def_syntax.specs.declared.syntax.Tail.TheVariants as tails
use Rattle.def_syntax.specs.declared.place.Place.{Place}
use Rattle.def_syntax.specs.declared.place.Place.TheVariants as places
use Rattle.def_syntax.specs.declared.place.Move.{Move}
use Rattle.def_syntax.specs.declared.place.Move.TheVariants.{Takes, Reads, Wraps}
use Rattle.def_syntax.specs.declared.place.Ending.{Ending}
use Rattle.def_syntax.specs.declared.place.Ending.TheVariants.{Never, Ends, BeforeStop}
use Rattle.def_syntax.specs.declared.place.Series.{Series}
use Rattle.def_syntax.specs.declared.place.Series.TheVariants as series
use Rattle.def_syntax.specs.declared.place.Head.{Head}
use Rattle.def_syntax.specs.declared.place.Head.TheVariants as heads
use Rattle.def_syntax.specs.declared.place.Caught.{Caught}
use Rattle.def_syntax.specs.declared.place.Caught.TheVariants as caught
use Rattle.def_syntax.specs.declared.place.Named.TheVariants as named
use Rattle.def_syntax.specs.declared.place.Definition.{Definition}
use Rattle.def_syntax.specs.declared.place.Definition.TheVariants as definitions
use Rattle.def_syntax.specs.declared.place.Role.{Role}
use Rattle.def_syntax.specs.declared.place.Role.TheVariants as roles
use Rattle.def_syntax.specs.Kinds.{same}
use Rattle.def_syntax.specs.Grammar.{Tree, Trees, node, none, more, leaf, moves, ending, closing, caught_shape, definition_shape, role_shape, form_at, shape_of, assigned, changed, becomes, more_at, begun, MayEnd, Has, here, there, Goal, line, tail, inside, Spells, form, tower, stays, goes, ends, takes, reads, wraps, SpellsProgram}
use Rattle.law_reading.proofs.Reading.Whole.{slots}

abbrev pub Slots : Type 0
Slots = List (Option TokenKind)

-- no part is a token of this kind
abbrev pub Without : TokenKind → Slots → Type 0
Without k [] = Unit {0}
Without k (None ∷ ss) = Without k ss
Without k (Some j ∷ ss) = (same j k ≡ false) × Without k ss

-- behind `implements` is no colon
abbrev pub Ordered : Slots → Type 0
Ordered [] = Unit {0}
Ordered (None ∷ ss) = Ordered ss
Ordered (Some j ∷ ss) = (same j kinds.Implements ≡ true → Without kinds.Colon ss) × Ordered ss

-- behind `finally` is one part
abbrev pub Finishes : Slots → Type 0
Finishes [] = Unit {0}
Finishes (None ∷ ss) = Finishes ss
Finishes (Some j ∷ ss) = (same j kinds.Finally ≡ true → length ss ≤ 1) × Finishes ss

-- no mark before a guard or an ejector
abbrev pub IsClear : Option TokenKind → Type 0
IsClear None = Unit {0}
IsClear (Some j) = (same j kinds.Colon ≡ false) × (same j kinds.Exit ≡ false)

-- the last part is none
abbrev pub Clear : Slots → Type 0
Clear ss = (xs : Slots) × (x : Option TokenKind) × (ss ≡ xs ++ x ∷ []) × IsClear x

-- behind each token of this kind are two parts or more
abbrev pub Guarded : TokenKind → Slots → Type 0
Guarded k [] = Unit {0}
Guarded k (None ∷ ss) = Guarded k ss
Guarded k (Some j ∷ ss) = (same j k ≡ true → 2 ≤ length ss) × Guarded k ss

-- what a mark leads to is not the last part
pub record Closes (ss : Slots) : Type 0 where
  pub guard : Guarded kinds.Colon ss
  pub exit : Guarded kinds.Exit ss
  pub two : 2 ≤ length ss

-- a `)` is there, and one behind which is a part
abbrev pub Closed : Slots → Type 0
Closed [] = ⊥
Closed (None ∷ ss) = Closed ss
Closed (Some j ∷ ss) = (same j kinds.CloseParen ≡ true) ⊎ Closed ss

abbrev pub Behind : Slots → Type 0
Behind [] = ⊥
Behind (None ∷ ss) = Behind ss
Behind (Some j ∷ ss) = ((same j kinds.CloseParen ≡ true) × (1 ≤ length ss)) ⊎ Behind ss

-- so are the parts of a node of this shape
abbrev pub Tidy : Shape → Slots → Type 0
Tidy shapes.Try ss = Finishes ss
Tidy shapes.Define ss = Closes ss
Tidy shapes.DefineVar ss = Closes ss
Tidy shapes.AssignIndex ss = Closes ss
Tidy shapes.To ss = Closes ss × Behind ss
Tidy shapes.Method ss = Closes ss × Behind ss
Tidy shapes.DefineFunction ss = Ordered ss × (Closes ss × Behind ss)
Tidy _ ss = Unit {0}

-- each node of the tree is so
abbrev mutual
  pub TidyTree : Tree → Type 0
  TidyTree (node s t ts) = Tidy s (slots ts) × AllTidy ts

  pub AllTidy : Trees → Type 0
  AllTidy none = Unit {0}
  AllTidy (more ts v) = AllTidy ts × TidyTree v
  AllTidy (leaf ts t) = AllTidy ts

-- ---- one more part

clear_of : (ss : Slots) (x : Option TokenKind) → IsClear x → Clear (ss ++ x ∷ [])
clear_of ss x c = (ss, x, refl, c)

guarded_of : (k : TokenKind) (xs : Slots) (x : Option TokenKind) → Guarded k (x ∷ None ∷ []) → Guarded k (xs ++ x ∷ None ∷ [])
guarded_of k [] x h = h
guarded_of k (None ∷ xs) x h = guarded_of k xs x h
guarded_of k (Some j ∷ xs) x h = (λ e. omega (arith, length-append xs (x ∷ None ∷ [])), guarded_of k xs x h)

clash : (j k : TokenKind) → same j k ≡ true → same j k ≡ false → ⊥
clash j k h i = cc

clear_guards : (k : TokenKind) (x : Option TokenKind) → Without k (x ∷ []) → Guarded k (x ∷ None ∷ [])
clear_guards k None h = tt
clear_guards k (Some j) h = (λ e. absurd (clash j k e h.0), tt)

colon_clear : (x : Option TokenKind) → IsClear x → Without kinds.Colon (x ∷ [])
colon_clear None c = tt
colon_clear (Some j) c = (c.0, tt)

exit_clear : (x : Option TokenKind) → IsClear x → Without kinds.Exit (x ∷ [])
exit_clear None c = tt
exit_clear (Some j) c = (c.1, tt)

closes_of : (ss : Slots) → Clear ss → Closes (ss ++ None ∷ [])
closes_of ss (xs, x, e, c) =
    let all : ss ++ None ∷ [] ≡ xs ++ x ∷ None ∷ [] = ap (λ (y : Slots). y ++ None ∷ []) e ∙ append_assoc xs (x ∷ []) (None ∷ []) in
    subst Closes (sym all) (record {
      guard = guarded_of kinds.Colon xs x (clear_guards kinds.Colon x (colon_clear x c));
      exit = guarded_of kinds.Exit xs x (clear_guards kinds.Exit x (exit_clear x c));
      two = omega (arith, length-append xs (x ∷ None ∷ []));
    })

closed_more : (ss : Slots) (x : Option TokenKind) → Closed ss → Closed (ss ++ x ∷ [])
closed_more [] x h = absurd h
closed_more (None ∷ ss) x h = closed_more ss x h
closed_more (Some j ∷ ss) x (inl e) = inl e
closed_more (Some j ∷ ss) x (inr h) = inr (closed_more ss x h)

closed_at : (ss : Slots) → Closed (ss ++ Some kinds.CloseParen ∷ [])
closed_at [] = inl refl
closed_at (None ∷ ss) = closed_at ss
closed_at (Some j ∷ ss) = inr (closed_at ss)

behind_of : (ss : Slots) (x : Option TokenKind) → Closed ss → Behind (ss ++ x ∷ [])
behind_of [] x h = absurd h
behind_of (None ∷ ss) x h = behind_of ss x h
behind_of (Some j ∷ ss) x (inl e) = inl (e, omega (arith, length-append ss (x ∷ [])))
behind_of (Some j ∷ ss) x (inr h) = inr (behind_of ss x h)

without_more : (k : TokenKind) (ss : Slots) (x : Option TokenKind) → Without k ss → Without k (x ∷ []) → Without k (ss ++ x ∷ [])
without_more k [] x h i = i
without_more k (None ∷ ss) x h i = without_more k ss x h i
without_more k (Some j ∷ ss) x h i = (h.0, without_more k ss x h.1 i)

ordered_of : (ss : Slots) → Without kinds.Implements ss → Ordered ss
ordered_of [] h = tt
ordered_of (None ∷ ss) h = ordered_of ss h
ordered_of (Some j ∷ ss) h = (λ i. absurd (clash j kinds.Implements i h.0), ordered_of ss h.1)

-- one more part that is no colon
ordered_more : (ss : Slots) (x : Option TokenKind) → Ordered ss → Without kinds.Colon (x ∷ []) → Ordered (x ∷ []) → Ordered (ss ++ x ∷ [])
ordered_more [] x h i o = o
ordered_more (None ∷ ss) x h i o = ordered_more ss x h i o
ordered_more (Some j ∷ ss) x h i o = (λ k. without_more kinds.Colon ss x (h.0 k) i, ordered_more ss x h.1 i o)

finishes_of : (ss : Slots) → Without kinds.Finally ss → Finishes ss
finishes_of [] h = tt
finishes_of (None ∷ ss) h = finishes_of ss h
finishes_of (Some j ∷ ss) h = (λ i. absurd (clash j kinds.Finally i h.0), finishes_of ss h.1)

finishes_at : (ss : Slots) → Without kinds.Finally ss → Finishes ((ss ++ Some kinds.Finally ∷ []) ++ None ∷ [])
finishes_at [] h = (λ i. omega arith, tt)
finishes_at (None ∷ ss) h = finishes_at ss h
finishes_at (Some j ∷ ss) h = (λ i. absurd (clash j kinds.Finally i h.0), finishes_at ss h.1)

-- ---- what is known at a place

abbrev series_laid : Series → Slots → Type 0
series_laid series.Parameters ss = Without kinds.Implements ss
series_laid _ ss = Unit {0}

abbrev Laid : Place → Slots → Type 0
Laid (places.Done s) ss = Tidy s ss
Laid (places.Last l s) ss = Tidy s (ss ++ None ∷ [])
Laid (places.First x) ss = series_laid x ss
Laid (places.Item n x) ss = series_laid x ss
Laid (places.More n x) ss = series_laid x ss
Laid places.Try ss = Without kinds.Finally ss
Laid places.TryMore ss = Without kinds.Finally ss
Laid places.TryPattern ss = Without kinds.Finally ss
Laid places.TryBlock ss = Without kinds.Finally ss
Laid (places.Def c) ss = Without kinds.Implements ss
Laid (places.Name c x) ss = Without kinds.Implements ss
Laid (places.Value c d) ss = Clear ss
Laid places.Result ss = Without kinds.Implements ss × (Closed ss × Clear ss)
Laid places.ResultGuard ss = Without kinds.Implements ss × Closed ss
Laid places.ResultGuarded ss = Without kinds.Implements ss × (Closed ss × Clear ss)
Laid places.FunctionAuditor ss = Ordered ss × Closed ss
Laid places.FunctionAuditorMore ss = Ordered ss × (Closed ss × Clear ss)
Laid (places.MemberResult r) ss = Closed ss × Clear ss
Laid (places.MemberGuard r) ss = Closed ss
Laid (places.PatternGuard s) ss = (rs : Slots) → Tidy s rs
Laid _ ss = Unit {0}

abbrev Ended : Ending → Slots → Type 0
Ended Never ss = Unit {0}
Ended (Ends s) ss = Tidy s ss
Ended (BeforeStop s) ss = Tidy s ss

caught_ends : (e : Caught) (ss : Slots) → Tidy (caught_shape e) ss
caught_ends caught.Escape ss = tt
caught_ends caught.When ss = tt

laid_ends : (q : Place) (ss : Slots) → Laid q ss → Ended (ending q) ss
laid_ends (places.Done s) ss h = h
laid_ends places.Program ss h = tt
laid_ends places.ProgramMore ss h = tt
laid_ends places.Leave ss h = tt
laid_ends places.IfElse ss h = tt
laid_ends (places.Caught e) ss h = caught_ends e ss
laid_ends places.TryMore ss h = finishes_of ss h
laid_ends (places.PatternGuard s) ss h = h ss
laid_ends places.NounGuard ss h = tt
laid_ends _ ss h = tt

ended_tidy : (e : Ending) (s : Shape) (ts : List Word) (ss : Slots) → MayEnd e s ts → Ended e ss → Tidy s ss
ended_tidy Never s ts ss m h = absurd m
ended_tidy (Ends r) s ts ss m h = subst (λ (x : Shape). Tidy x ss) m h
ended_tidy (BeforeStop r) s ts ss m h = subst (λ (x : Shape). Tidy x ss) m.0 h

-- ---- a move keeps it

abbrev Kept : Slots → Move → Type 0
Kept ss (Takes k r) = Laid r (ss ++ Some k ∷ [])
Kept ss (Reads l r) = Laid r (ss ++ None ∷ [])
Kept ss (Wraps k s r) = Tidy s ss × Laid r (None ∷ Some k ∷ [])

abbrev EachKept : Slots → List Move → Type 0
EachKept ss [] = Unit {0}
EachKept ss (m ∷ ms) = Kept ss m × EachKept ss ms

kept_of : (ss : Slots) {ms : List Move} {m : Move} → EachKept ss ms → Has ms m → Kept ss m
kept_of ss h (here {m = m} {ms = ms}) = h.0
kept_of ss h (there {n = n} {ms = ms} k) = kept_of ss h.1 k

series_more : (x : Series) (ss : Slots) (p : Option TokenKind) → series_laid x ss → Without kinds.Implements (p ∷ []) → series_laid x (ss ++ p ∷ [])
series_more series.Parameters ss p h i = without_more kinds.Implements ss p h i
series_more _ ss p h i = tt

series_closed : (x : Series) (ss : Slots) → series_laid x ss → Kept ss (closing x)
series_closed series.Parameters ss h = (without_more kinds.Implements ss (Some kinds.CloseParen) h (refl, tt), (closed_at ss, clear_of ss (Some kinds.CloseParen) (refl, refl)))
series_closed series.ToParameters ss h = (closed_at ss, clear_of ss (Some kinds.CloseParen) (refl, refl))
series_closed series.MethodParameters ss h = (closed_at ss, clear_of ss (Some kinds.CloseParen) (refl, refl))
series_closed other ss h = tt

behind_laid : (h : Head) (ss : Slots) → EachKept ss (moves (places.Close h))
behind_laid heads.If ss = (tt, tt)
behind_laid other ss = (tt, tt)

definition_done : (d : Definition) (ss : Slots) → Clear ss → Tidy (definition_shape d) (ss ++ None ∷ [])
definition_done definitions.Def ss h = closes_of ss h
definition_done definitions.Var ss h = closes_of ss h

role_done : (r : Role) (ss : Slots) → Closed ss → Clear ss → Tidy (role_shape r) (ss ++ None ∷ [])
role_done roles.To ss c h = (closes_of ss h, behind_of ss None c)
role_done roles.Method ss c h = (closes_of ss h, behind_of ss None c)

parameters_laid : (r : Role) (ss : Slots) → EachKept ss (moves (places.MemberOpen r))
parameters_laid roles.To ss = (tt, tt)
parameters_laid roles.Method ss = (tt, tt)

-- a definition behind a name
assigned_by : Clear (None ∷ Some kinds.Assign ∷ [])
assigned_by = clear_of (None ∷ []) (Some kinds.Assign) (refl, refl)

plain : (k : TokenKind) (ss : Slots) → Without kinds.Implements ss → same k kinds.Implements ≡ false → Without kinds.Implements (ss ++ Some k ∷ [])
plain k ss h e = without_more kinds.Implements ss (Some k) h (e, tt)

function_done : (ss : Slots) → Ordered ss → Closed ss → Clear ss → Tidy shapes.DefineFunction (ss ++ None ∷ [])
function_done ss o b c = (ordered_more ss None o tt tt, (closes_of ss c, behind_of ss None b))

audited : (ss : Slots) → Without kinds.Implements ss → Closed ss → Ordered (ss ++ Some kinds.Implements ∷ []) × Closed (ss ++ Some kinds.Implements ∷ [])
audited ss h c = (ordered_more ss (Some kinds.Implements) (ordered_of ss h) (refl, tt) (λ i. tt, tt), closed_more ss (Some kinds.Implements) c)

laid_moves : (q : Place) (ss : Slots) → Laid q ss → EachKept ss (moves q)
laid_moves (places.Done s) ss h = tt
laid_moves (places.Last l s) ss h = (h, tt)
laid_moves places.Program ss h = (tt, (tt, (tt, tt)))
laid_moves places.ProgramMore ss h = (tt, (tt, tt))
laid_moves places.Block ss h = (tt, (tt, (tt, (tt, tt))))
laid_moves places.BlockMore ss h = (tt, (tt, (tt, tt)))
laid_moves (places.First x) ss h = (series_more x ss None h tt, (series_closed x ss h, tt))
laid_moves (places.Item n x) ss h = (series_more x ss None h tt, tt)
laid_moves (places.More zero x) ss h = (series_closed x ss h, tt)
laid_moves (places.More (suc n) x) ss h = (series_more x ss (Some kinds.Comma) h (refl, tt), (series_closed x ss h, tt))
laid_moves (places.Close x) ss h = behind_laid x ss
laid_moves (places.CatchBlock e) ss h = (caught_ends e (ss ++ None ∷ []), tt)
laid_moves places.Try ss h = (without_more kinds.Finally ss None h tt, tt)
laid_moves places.TryMore ss h = (without_more kinds.Finally ss (Some kinds.Catch) h (refl, tt), (finishes_at ss h, tt))
laid_moves places.TryPattern ss h = (without_more kinds.Finally ss None h tt, tt)
laid_moves places.TryBlock ss h = (without_more kinds.Finally ss None h tt, tt)
laid_moves places.ForKey ss h = (tt, (tt, tt))
laid_moves places.Verb ss h = (tt, (tt, tt))
laid_moves places.Send ss h = (tt, (tt, (tt, tt)))
laid_moves (places.Def c) ss h = (tt, (plain kinds.Ignore ss h refl, (plain kinds.Identifier ss h refl, tt)))
laid_moves (places.Name c named.Noun) ss h = (tt, ((tt, tt), ((tt, assigned_by), (plain kinds.OpenParen ss h refl, (tt, (tt, tt))))))
laid_moves (places.Name c named.Ignore) ss h = (tt, ((tt, tt), ((tt, assigned_by), (tt, (tt, tt)))))
laid_moves (places.NameGuarded c named.Noun) ss h = ((tt, tt), ((tt, assigned_by), tt))
laid_moves (places.NameGuarded c named.Ignore) ss h = ((tt, tt), ((tt, assigned_by), tt))
laid_moves (places.Bound c d) ss h = (tt, (clear_of ss (Some kinds.Assign) (refl, refl), tt))
laid_moves (places.Ejector c d) ss h = (clear_of ss (Some kinds.Assign) (refl, refl), tt)
laid_moves (places.Value c d) ss h = (definition_done d ss h, tt)
laid_moves (places.VarName c) ss h = (tt, (tt, (clear_of ss (Some kinds.Assign) (refl, refl), tt)))
laid_moves places.AuditorMore ss h = (tt, (tt, tt))
laid_moves places.Script ss h = (tt, (tt, (tt, (tt, tt))))
laid_moves places.Result ss h = ((plain kinds.Colon ss h.0 refl, closed_more ss (Some kinds.Colon) h.1.0), (audited ss h.0 h.1.0, (function_done ss (ordered_of ss h.0) h.1.0 h.1.1, tt)))
laid_moves places.ResultGuard ss h = ((without_more kinds.Implements ss None h.0 tt, (closed_more ss None h.1, clear_of ss None tt)), tt)
laid_moves places.ResultGuarded ss h = (audited ss h.0 h.1.0, (function_done ss (ordered_of ss h.0) h.1.0 h.1.1, tt))
laid_moves places.FunctionAuditor ss h = ((ordered_more ss None h.0 tt tt, (closed_more ss None h.1, clear_of ss None tt)), tt)
laid_moves places.FunctionAuditorMore ss h = ((ordered_more ss (Some kinds.Comma) h.0 (refl, tt) (λ i. tt, tt), closed_more ss (Some kinds.Comma) h.1.0), (function_done ss h.0 h.1.0 h.1.1, tt))
laid_moves (places.MemberVerb r) ss h = (tt, (tt, tt))
laid_moves (places.MemberOpen r) ss h = parameters_laid r ss
laid_moves (places.MemberResult r) ss h = (closed_more ss (Some kinds.Colon) h.0, (role_done r ss h.0 h.1, tt))
laid_moves (places.MemberGuard r) ss h = (role_done r (ss ++ None ∷ []) (closed_more ss None h) (clear_of ss None tt), tt)
laid_moves (places.PatternGuard s) ss h = (h ((ss ++ Some kinds.Colon ∷ []) ++ None ∷ []), tt)
laid_moves places.VarPattern ss h = ((λ rs. tt), tt)
laid_moves other ss h = (tt, tt)

-- ---- where a node begins

abbrev LaidAt : Option Place → Slots → Type 0
LaidAt None ss = Unit {0}
LaidAt (Some q) ss = Laid q ss

laid_form : (l : Line) (k : TokenKind) → LaidAt (form_at l k) []
laid_form lines.Expr kinds.Return = tt
laid_form lines.Expr kinds.Break = tt
laid_form lines.Expr kinds.Continue = tt
laid_form lines.Expr kinds.Def = tt
laid_form lines.Expr kinds.Var = tt
laid_form lines.ExprBeforeBlock kinds.Return = tt
laid_form lines.ExprBeforeBlock kinds.Break = tt
laid_form lines.ExprBeforeBlock kinds.Continue = tt
laid_form lines.ExprBeforeBlock kinds.Def = tt
laid_form lines.ExprBeforeBlock kinds.Var = tt
laid_form lines.Prefix kinds.Minus = tt
laid_form lines.Prefix kinds.Not = tt
laid_form lines.Prim kinds.Number = tt
laid_form lines.Prim kinds.Text = tt
laid_form lines.Prim kinds.Character = tt
laid_form lines.Prim kinds.Identifier = tt
laid_form lines.Prim kinds.OpenBracket = tt
laid_form lines.Prim kinds.OpenParen = tt
laid_form lines.Prim kinds.OpenBrace = tt
laid_form lines.Prim kinds.If = tt
laid_form lines.Prim kinds.While = tt
laid_form lines.Prim kinds.For = tt
laid_form lines.Prim kinds.Escape = tt
laid_form lines.Prim kinds.Try = tt
laid_form lines.Prim kinds.When = tt
laid_form lines.Prim kinds.Fn = tt
laid_form lines.Block kinds.OpenBrace = tt
laid_form lines.Branch kinds.OpenBrace = tt
laid_form lines.Branch kinds.If = tt
laid_form lines.Pattern kinds.Ignore = λ rs. tt
laid_form lines.Pattern kinds.Identifier = λ rs. tt
laid_form lines.Pattern kinds.Var = tt
laid_form lines.Pattern kinds.OpenBracket = tt
laid_form lines.Pattern kinds.Via = tt
laid_form lines.OtherPattern kinds.Var = tt
laid_form lines.OtherPattern kinds.OpenBracket = tt
laid_form lines.OtherPattern kinds.Via = tt
laid_form lines.Guard kinds.Identifier = tt
laid_form lines.Guard kinds.OpenParen = tt
laid_form lines.Member kinds.To = tt
laid_form lines.Member kinds.Method = tt
laid_form lines.Member kinds.Match = tt
laid_form _ _ = tt

assigned_laid : (l : Line) (s : Shape) (ss : Slots) → LaidAt (assigned l s) (ss ++ Some kinds.Assign ∷ [])
assigned_laid l shapes.Noun ss = tt
assigned_laid l shapes.Index ss = closes_of (ss ++ Some kinds.Assign ∷ []) (clear_of ss (Some kinds.Assign) (refl, refl))
assigned_laid l _ ss = tt

changed_laid : (l : Line) (s : Shape) (ss : Slots) (k : Option TokenKind) → LaidAt (changed l s) (ss ++ k ∷ [])
changed_laid l shapes.Noun ss k = tt
changed_laid l _ ss k = tt

becomes_laid : (l : Line) (s : Shape) (k : TokenKind) (ss : Slots) → LaidAt (becomes l s k) (ss ++ Some k ∷ [])
becomes_laid l s kinds.Assign ss = assigned_laid l s ss
becomes_laid l s kinds.AddAssign ss = changed_laid l s ss (Some kinds.AddAssign)
becomes_laid l s kinds.SubtractAssign ss = changed_laid l s ss (Some kinds.SubtractAssign)
becomes_laid l s kinds.MultiplyAssign ss = changed_laid l s ss (Some kinds.MultiplyAssign)
becomes_laid l s kinds.FloorDivideAssign ss = changed_laid l s ss (Some kinds.FloorDivideAssign)
becomes_laid l s kinds.RemainderAssign ss = changed_laid l s ss (Some kinds.RemainderAssign)
becomes_laid l s kinds.ModAssign ss = changed_laid l s ss (Some kinds.ModAssign)
becomes_laid l s kinds.PowAssign ss = changed_laid l s ss (Some kinds.PowAssign)
becomes_laid l s kinds.AndAssign ss = changed_laid l s ss (Some kinds.AndAssign)
becomes_laid l s kinds.OrAssign ss = changed_laid l s ss (Some kinds.OrAssign)
becomes_laid l s kinds.XorAssign ss = changed_laid l s ss (Some kinds.XorAssign)
becomes_laid l s _ ss = tt

-- behind any other tail the first part is the tree
abbrev SuffixLaid : Tail → Shape → TokenKind → Type 0
SuffixLaid tails.Becomes s k = Unit {0}
SuffixLaid tails.BecomesBeforeBlock s k = Unit {0}
SuffixLaid c s k = LaidAt (more_at c s k) (None ∷ Some k ∷ [])

suffix_laid : (c : Tail) (s : Shape) (k : TokenKind) → SuffixLaid c s k
suffix_laid tails.Becomes s k = tt
suffix_laid tails.BecomesBeforeBlock s k = tt
suffix_laid tails.Ors s kinds.LogicalOr = tt
suffix_laid tails.Ands s kinds.LogicalAnd = tt
suffix_laid tails.Equality s kinds.Same = tt
suffix_laid tails.Equality s kinds.NotSame = tt
suffix_laid tails.Equality s kinds.Matches = tt
suffix_laid tails.Bits s kinds.And = tt
suffix_laid tails.Bits s kinds.Or = tt
suffix_laid tails.Bits s kinds.Xor = tt
suffix_laid tails.Relation s kinds.Less = tt
suffix_laid tails.Relation s kinds.AtMost = tt
suffix_laid tails.Relation s kinds.AsBigAs = tt
suffix_laid tails.Relation s kinds.AtLeast = tt
suffix_laid tails.Relation s kinds.Greater = tt
suffix_laid tails.Range s kinds.Through = tt
suffix_laid tails.Range s kinds.Till = tt
suffix_laid tails.Sums s kinds.Plus = tt
suffix_laid tails.Sums s kinds.Minus = tt
suffix_laid tails.Products s kinds.Times = tt
suffix_laid tails.Products s kinds.FloorDivide = tt
suffix_laid tails.Products s kinds.Remainder = tt
suffix_laid tails.Products s kinds.Mod = tt
suffix_laid tails.Power s kinds.Pow = tt
suffix_laid tails.Suffixes s kinds.OpenParen = tt
suffix_laid tails.Suffixes s kinds.OpenBracket = tt
suffix_laid tails.Suffixes s kinds.Dot = tt
suffix_laid tails.Suffixes s kinds.Send = tt
suffix_laid _ s _ = tt

laid_more : (c : Tail) (v : Tree) (t : Word) → LaidAt (more_at c (shape_of v) t.kind) (slots (begun c v t))
laid_more tails.Becomes (node s f ts) t = becomes_laid lines.Expr s t.kind (slots ts)
laid_more tails.BecomesBeforeBlock (node s f ts) t = becomes_laid lines.ExprBeforeBlock s t.kind (slots ts)
laid_more tails.Ors v t = suffix_laid tails.Ors (shape_of v) t.kind
laid_more tails.Ands v t = suffix_laid tails.Ands (shape_of v) t.kind
laid_more tails.Equality v t = suffix_laid tails.Equality (shape_of v) t.kind
laid_more tails.Bits v t = suffix_laid tails.Bits (shape_of v) t.kind
laid_more tails.Relation v t = suffix_laid tails.Relation (shape_of v) t.kind
laid_more tails.Range v t = suffix_laid tails.Range (shape_of v) t.kind
laid_more tails.Sums v t = suffix_laid tails.Sums (shape_of v) t.kind
laid_more tails.Products v t = suffix_laid tails.Products (shape_of v) t.kind
laid_more tails.Power v t = suffix_laid tails.Power (shape_of v) t.kind
laid_more tails.Suffixes v t = suffix_laid tails.Suffixes (shape_of v) t.kind
laid_more tails.Nothing v t = tt

begun_tidy : (c : Tail) (v : Tree) (t : Word) → TidyTree v → AllTidy (begun c v t)
begun_tidy tails.Becomes (node s f ts) t h = h.1
begun_tidy tails.BecomesBeforeBlock (node s f ts) t h = h.1
begun_tidy _ v t h = (tt, h)

-- ---- each tree that is spelled

abbrev Promise : Goal → Tree → Type 0
Promise (line l) w = TidyTree w
Promise (tail c v) w = TidyTree v → TidyTree w
Promise (inside q f fs) w = AllTidy fs → Laid q (slots fs) → TidyTree w

laid_at : {o : Option Place} {q : Place} (ss : Slots) → o ≡ Some q → LaidAt o ss → Laid q ss
laid_at ss e h = subst (λ (x : Option Place). LaidAt x ss) e h

tidy : {g : Goal} {ts : List Word} {w : Tree} {rest : List Word} → Spells g ts w rest → Promise g w
tidy (form {l = l} {t = t} e d) = tidy d tt (laid_at [] e (laid_form l t.kind))
tidy (tower e d k) = tidy k (tidy d)
tidy stays = λ h. h
tidy (goes {c = c} {t = t} {v = v} e d k) = λ h. tidy k (tidy d (begun_tidy c v t h) (laid_at (slots (begun c v t)) e (laid_more c v t)))
tidy (ends {q = q} {s = s} {fs = fs} {ts = ts} m) = λ a l. (ended_tidy (ending q) s ts (slots fs) m (laid_ends q (slots fs) l), a)
tidy (takes {q = q} {r = r} {t = t} {fs = fs} h e d) = λ a l. tidy d a (subst (λ (k : TokenKind). Laid r (slots fs ++ Some k ∷ [])) (sym e) (kept_of (slots fs) (laid_moves q (slots fs) l) h))
tidy (reads {q = q} {fs = fs} h d k) = λ a l. tidy k (a, tidy d) (kept_of (slots fs) (laid_moves q (slots fs) l) h)
tidy (wraps {q = q} {r = r} {t = t} {fs = fs} h e d) = λ a l.
    let g = kept_of (slots fs) (laid_moves q (slots fs) l) h in
    tidy d (tt, (g.0, a)) (subst (λ (k : TokenKind). Laid r (None ∷ Some k ∷ [])) (sym e) g.1)

pub program_tidy : (w : Tree) (ts : List Word) → SpellsProgram w ts → TidyTree w
program_tidy w ts d = tidy d tt tt
