-- The lines spell what the table of places spells.
use Rattle.std.proofs.Common.{◌≡◌, zero, suc, List, [], ◌∷◌, ◌++◌, Option, Some, None, refl, sym, ◌∙◌, subst, ap, ◌⊎◌, inl, inr}
use Rattle.def_syntax.specs.declared.token.TokenKind.{TokenKind}
use Rattle.def_syntax.specs.declared.token.TokenKind.TheVariants as kinds
use Rattle.def_syntax.specs.declared.syntax.Word.{Word}
use Rattle.def_syntax.specs.declared.syntax.Shape.{Shape}
use Rattle.def_syntax.specs.declared.syntax.Shape.TheVariants as shapes
use Rattle.def_syntax.specs.declared.syntax.Line.{Line}
use Rattle.def_syntax.specs.declared.syntax.Line.TheVariants as lines
use Rattle.def_syntax.specs.declared.syntax.Tail.{Tail}
use Rattle.def_syntax.specs.declared.syntax.Tail.TheVariants as tails
use Rattle.def_syntax.specs.declared.place.Place.{Place}
use Rattle.def_syntax.specs.declared.place.Place.TheVariants.{Done, Last, Open, First, Item, More, Test, Close, Name, NameGuard, NameGuarded, Bound, Exit, Ejector, Value, Var, VarName, VarGuard, MemberVerb, MemberOpen, MemberResult, MemberGuard, PatternGuard, CatchPattern, CatchBlock, Def}
use Rattle.def_syntax.specs.declared.place.Place.TheVariants as places
use Rattle.def_syntax.specs.declared.place.Move.{Move}
use Rattle.def_syntax.specs.declared.place.Move.TheVariants.{Takes, Reads, Wraps}
use Rattle.def_syntax.specs.declared.place.Ending.{Ending}
use Rattle.def_syntax.specs.declared.place.Ending.TheVariants.{Never, Ends, BeforeStop}
use Rattle.def_syntax.specs.declared.place.Series.{Series}
use Rattle.def_syntax.specs.declared.place.Series.TheVariants as series
use Rattle.def_syntax.specs.declared.place.Head.{Head}
use Rattle.def_syntax.specs.declared.place.Head.TheVariants as heads
use Rattle.def_syntax.specs.declared.place.Caught.TheVariants as caught_forms
use Rattle.def_syntax.specs.declared.place.Named.TheVariants as named
use Rattle.def_syntax.specs.declared.place.Definition.TheVariants as definitions
use Rattle.def_syntax.specs.declared.place.Role.TheVariants as roles
use Rattle.def_syntax.specs.Grammar.{Tree, Trees, node, more, leaf, item_line, caught_shape, value_line, definition_shape, named_shape, role_shape, moves, ending, form_at, shape_of, more_at, IsStop, MayEnd, Has, here, there, wrapped, Goal, inside, Spells, form, tower, stays, goes, ends, takes, reads, wraps, assigned, changed, becomes}
use Rattle.def_syntax.specs.Grammar.{line as goal_line, tail as goal_tail}
use Rattle.law_reading.specs.Grammar.Lines.{Rule, token, tree, either, upto, several, catches, exprs, exprs_more, members, Opens, left, right, upto_on, upto_end, several_on, several_end, catches_on, catches_end, exprs_semicolon, exprs_line_end, exprs_on, exprs_end, more_semicolon, more_line_end, more_end, members_semicolon, members_line_end, members_on, members_end, guarded, audited, valued, pattern_valued, pattern_guarded, listed, filled, parenthesis, caught, script, object_rule, function_rule, def_rule, var_rule, verb, arguments, member_rule, block_rule, rule_at, assigned_rule, changed_rule, becomes_rule, more_rule, Aim, line, tail, rest, at_end, at_stop, groups, opens, LinesArePlaces}
use Rattle.law_reading.specs.Grammar.Lines as lined

-- what a rule may begin with
data Begin : Type 0 where
  takes_head : TokenKind → Rule → Begin
  reads_head : Line → Rule → Begin
  wraps_head : TokenKind → Shape → Rule → Begin
  ends_head : Shape → Begin
  stops_head : Shape → Begin

abbrev begins_with : Rule → List Begin
begins_with (lined.ends s) = ends_head s ∷ []
begins_with (lined.stops s) = stops_head s ∷ []
begins_with (token k p) = takes_head k p ∷ []
begins_with (tree l p) = reads_head l p ∷ []
begins_with (lined.wraps k s p) = wraps_head k s p ∷ []
begins_with (either p q) = begins_with p ++ begins_with q
begins_with (upto zero l p) = begins_with p
begins_with (upto (suc n) l p) = takes_head kinds.Comma (tree l (upto n l p)) ∷ begins_with p
begins_with (several l p) = takes_head kinds.Comma (tree l (several l p)) ∷ begins_with p
begins_with (catches p) = takes_head kinds.Catch (tree lines.Pattern (tree lines.Block (catches p))) ∷ begins_with p
begins_with (exprs p) = takes_head kinds.Semicolon (exprs p) ∷ takes_head kinds.LineEnd (exprs p) ∷ reads_head lines.Expr (exprs_more p) ∷ begins_with p
begins_with (exprs_more p) = takes_head kinds.Semicolon (exprs p) ∷ takes_head kinds.LineEnd (exprs p) ∷ begins_with p
begins_with (members p) = takes_head kinds.Semicolon (members p) ∷ takes_head kinds.LineEnd (members p) ∷ reads_head lines.Member (members p) ∷ begins_with p

abbrev closing_rule : Series → Rule
closing_rule series.Arguments = token kinds.CloseParen (lined.ends shapes.Call)
closing_rule series.Members = token kinds.CloseBracket (lined.ends shapes.List)
closing_rule series.Index = token kinds.CloseBracket (lined.ends shapes.Index)
closing_rule series.VerbArguments = token kinds.CloseParen (lined.ends shapes.VerbCall)
closing_rule series.SendArguments = token kinds.CloseParen (lined.ends shapes.Send)
closing_rule series.GuardArguments = token kinds.CloseBracket (lined.ends shapes.NounGuard)
closing_rule series.Parameters = token kinds.CloseParen (guarded (audited (tree lines.Block (lined.ends shapes.DefineFunction))))
closing_rule series.FunctionParameters = tree lines.Block (lined.ends shapes.Function)
closing_rule series.ToParameters = token kinds.CloseParen (guarded (tree lines.Block (lined.ends shapes.To)))
closing_rule series.MethodParameters = token kinds.CloseParen (guarded (tree lines.Block (lined.ends shapes.Method)))
closing_rule series.ListPattern = token kinds.CloseBracket (lined.ends shapes.ListPattern)

abbrev else_rule : Rule
else_rule = either (token kinds.Else (tree lines.Branch (lined.ends shapes.If))) (lined.ends shapes.If)

abbrev behind_rule : Head → Rule
behind_rule heads.If = tree lines.Block else_rule
behind_rule heads.While = tree lines.Block (lined.ends shapes.While)
behind_rule heads.When = token kinds.Arrow (tree lines.Block (caught shapes.When))
behind_rule heads.Via = tree lines.Pattern (lined.ends shapes.ViaPattern)
behind_rule heads.Group = lined.ends shapes.Group
behind_rule heads.Guard = lined.ends shapes.ExprGuard

abbrev function_block : Rule
function_block = tree lines.Block (lined.ends shapes.DefineFunction)

abbrev try_rule : Rule
try_rule = catches (either (token kinds.Finally (tree lines.Block (lined.ends shapes.Try))) (lined.ends shapes.Try))

abbrev for_rule : Rule
for_rule = tree lines.ExprBeforeBlock (tree lines.Block (lined.ends shapes.For))

-- the rest of a line from a place
abbrev meaning : Place → Rule
meaning (Done s) = lined.ends s
meaning (Last l s) = tree l (lined.ends s)
meaning places.Program = exprs (lined.ends shapes.Program)
meaning places.ProgramMore = exprs_more (lined.ends shapes.Program)
meaning places.Block = block_rule
meaning places.BlockMore = exprs_more (token kinds.CloseBrace (lined.ends shapes.Block))
meaning places.Leave = either (tree lines.Expr (lined.ends shapes.Leave)) (lined.stops shapes.Leave)
meaning (First x) = listed (item_line x) (closing_rule x)
meaning (Item n x) = tree (item_line x) (upto n (item_line x) (closing_rule x))
meaning (More n x) = upto n (item_line x) (closing_rule x)
meaning (Open h) = parenthesis (behind_rule h)
meaning (Test h) = tree lines.Expr (token kinds.CloseParen (behind_rule h))
meaning (Close h) = token kinds.CloseParen (behind_rule h)
meaning places.IfThen = tree lines.Block else_rule
meaning places.IfElse = else_rule
meaning places.WhenArrow = token kinds.Arrow (tree lines.Block (caught shapes.When))
meaning places.WhenBlock = tree lines.Block (caught shapes.When)
meaning (places.Caught e) = caught (caught_shape e)
meaning (CatchPattern e) = tree lines.Pattern (tree lines.Block (lined.ends (caught_shape e)))
meaning (CatchBlock e) = tree lines.Block (lined.ends (caught_shape e))
meaning places.Escape = tree lines.Pattern (tree lines.Block (caught shapes.Escape))
meaning places.EscapeBlock = tree lines.Block (caught shapes.Escape)
meaning places.Try = tree lines.Block try_rule
meaning places.TryMore = try_rule
meaning places.TryPattern = tree lines.Pattern (tree lines.Block try_rule)
meaning places.TryBlock = tree lines.Block try_rule
meaning places.For = tree lines.Pattern (either (token kinds.FatArrow (tree lines.Pattern (token kinds.In for_rule))) (token kinds.In for_rule))
meaning places.ForKey = either (token kinds.FatArrow (tree lines.Pattern (token kinds.In for_rule))) (token kinds.In for_rule)
meaning places.ForValue = tree lines.Pattern (token kinds.In for_rule)
meaning places.ForIn = token kinds.In for_rule
meaning places.ForList = for_rule
meaning places.Verb = verb (arguments shapes.VerbCall)
meaning places.VerbOpen = arguments shapes.VerbCall
meaning places.Send = either (token kinds.Text (arguments shapes.Send)) (either (token kinds.Identifier (arguments shapes.Send)) (arguments shapes.Send))
meaning places.SendOpen = arguments shapes.Send
meaning (Def c) = def_rule (value_line c)
meaning (Name c named.Noun) = either (token kinds.Colon (pattern_guarded (value_line c) shapes.FinalPattern)) (pattern_valued (value_line c) shapes.FinalPattern (either function_rule object_rule))
meaning (Name c named.Ignore) = either (token kinds.Colon (pattern_guarded (value_line c) shapes.AnyPattern)) (pattern_valued (value_line c) shapes.AnyPattern object_rule)
meaning (NameGuard c x) = pattern_guarded (value_line c) (named_shape x)
meaning (NameGuarded c x) = either (lined.wraps kinds.Exit (named_shape x) (tree lines.Or (token kinds.Assign (tree (value_line c) (lined.ends shapes.Define))))) (lined.wraps kinds.Assign (named_shape x) (tree (value_line c) (lined.ends shapes.Define)))
meaning (Bound c d) = valued (value_line c) (definition_shape d)
meaning (Exit c d) = tree lines.Or (token kinds.Assign (tree (value_line c) (lined.ends (definition_shape d))))
meaning (Ejector c d) = token kinds.Assign (tree (value_line c) (lined.ends (definition_shape d)))
meaning (Value c d) = tree (value_line c) (lined.ends (definition_shape d))
meaning (Var c) = var_rule (value_line c)
meaning (VarName c) = guarded (valued (value_line c) shapes.DefineVar)
meaning (VarGuard c) = tree lines.Guard (valued (value_line c) shapes.DefineVar)
meaning places.Auditor = tree lines.Postfix (several lines.Postfix (token kinds.OpenBrace script))
meaning places.AuditorMore = several lines.Postfix (token kinds.OpenBrace script)
meaning places.Script = script
meaning places.Result = guarded (audited function_block)
meaning places.ResultGuard = tree lines.Guard (audited function_block)
meaning places.ResultGuarded = audited function_block
meaning places.FunctionAuditor = tree lines.Postfix (several lines.Postfix function_block)
meaning places.FunctionAuditorMore = several lines.Postfix function_block
meaning (MemberVerb r) = member_rule (role_shape r)
meaning (MemberOpen r) = token kinds.OpenParen (listed lines.Pattern (token kinds.CloseParen (guarded (tree lines.Block (lined.ends (role_shape r))))))
meaning (MemberResult r) = guarded (tree lines.Block (lined.ends (role_shape r)))
meaning (MemberGuard r) = tree lines.Guard (tree lines.Block (lined.ends (role_shape r)))
meaning places.Matcher = tree lines.Pattern (tree lines.Block (lined.ends shapes.Matcher))
meaning (PatternGuard s) = guarded (lined.ends s)
meaning places.VarPattern = token kinds.Identifier (guarded (lined.ends shapes.VarPattern))
meaning places.NounGuard = either (token kinds.OpenBracket (filled lines.Expr (token kinds.CloseBracket (lined.ends shapes.NounGuard)))) (lined.ends shapes.NounGuard)

abbrev as_head : Move → Begin
as_head (Takes k r) = takes_head k (meaning r)
as_head (Reads l r) = reads_head l (meaning r)
as_head (Wraps k s r) = wraps_head k s (meaning r)

abbrev as_heads : List Move → List Begin
as_heads [] = []
as_heads (m ∷ ms) = as_head m ∷ as_heads ms

abbrev end_heads : Ending → List Begin
end_heads Never = []
end_heads (Ends s) = ends_head s ∷ []
end_heads (BeforeStop s) = stops_head s ∷ []

-- what a place may begin with
abbrev place_heads : Place → List Begin
place_heads q = as_heads (moves q) ++ end_heads (ending q)

means : (q : Place) → begins_with (meaning q) ≡ place_heads q
means (Done s) = refl
means (Last l s) = refl
means (PatternGuard s) = refl
means places.Program = refl
means places.ProgramMore = refl
means places.Block = refl
means places.BlockMore = refl
means places.Leave = refl
means places.IfThen = refl
means places.IfElse = refl
means places.WhenArrow = refl
means places.WhenBlock = refl
means places.Escape = refl
means places.EscapeBlock = refl
means places.Try = refl
means places.TryMore = refl
means places.TryPattern = refl
means places.TryBlock = refl
means places.For = refl
means places.ForKey = refl
means places.ForValue = refl
means places.ForIn = refl
means places.ForList = refl
means places.Verb = refl
means places.VerbOpen = refl
means places.Send = refl
means places.SendOpen = refl
means places.Auditor = refl
means places.AuditorMore = refl
means places.Script = refl
means places.Result = refl
means places.ResultGuard = refl
means places.ResultGuarded = refl
means places.FunctionAuditor = refl
means places.FunctionAuditorMore = refl
means places.Matcher = refl
means places.VarPattern = refl
means places.NounGuard = refl
means (First series.Arguments) = refl
means (First series.Members) = refl
means (First series.Index) = refl
means (First series.VerbArguments) = refl
means (First series.SendArguments) = refl
means (First series.GuardArguments) = refl
means (First series.Parameters) = refl
means (First series.FunctionParameters) = refl
means (First series.ToParameters) = refl
means (First series.MethodParameters) = refl
means (First series.ListPattern) = refl
means (Item n x) = refl
means (More zero series.Arguments) = refl
means (More (suc n) series.Arguments) = refl
means (More zero series.Members) = refl
means (More (suc n) series.Members) = refl
means (More zero series.Index) = refl
means (More (suc n) series.Index) = refl
means (More zero series.VerbArguments) = refl
means (More (suc n) series.VerbArguments) = refl
means (More zero series.SendArguments) = refl
means (More (suc n) series.SendArguments) = refl
means (More zero series.GuardArguments) = refl
means (More (suc n) series.GuardArguments) = refl
means (More zero series.Parameters) = refl
means (More (suc n) series.Parameters) = refl
means (More zero series.FunctionParameters) = refl
means (More (suc n) series.FunctionParameters) = refl
means (More zero series.ToParameters) = refl
means (More (suc n) series.ToParameters) = refl
means (More zero series.MethodParameters) = refl
means (More (suc n) series.MethodParameters) = refl
means (More zero series.ListPattern) = refl
means (More (suc n) series.ListPattern) = refl
means (Open heads.If) = refl
means (Open heads.While) = refl
means (Open heads.When) = refl
means (Open heads.Via) = refl
means (Open heads.Group) = refl
means (Open heads.Guard) = refl
means (Test heads.If) = refl
means (Test heads.While) = refl
means (Test heads.When) = refl
means (Test heads.Via) = refl
means (Test heads.Group) = refl
means (Test heads.Guard) = refl
means (Close heads.If) = refl
means (Close heads.While) = refl
means (Close heads.When) = refl
means (Close heads.Via) = refl
means (Close heads.Group) = refl
means (Close heads.Guard) = refl
means (places.Caught caught_forms.Escape) = refl
means (places.Caught caught_forms.When) = refl
means (CatchPattern caught_forms.Escape) = refl
means (CatchPattern caught_forms.When) = refl
means (CatchBlock caught_forms.Escape) = refl
means (CatchBlock caught_forms.When) = refl
means (Def c) = refl
means (Var c) = refl
means (VarName c) = refl
means (VarGuard c) = refl
means (Name c named.Noun) = refl
means (Name c named.Ignore) = refl
means (NameGuard c named.Noun) = refl
means (NameGuard c named.Ignore) = refl
means (NameGuarded c named.Noun) = refl
means (NameGuarded c named.Ignore) = refl
means (Bound c definitions.Def) = refl
means (Bound c definitions.Var) = refl
means (Exit c definitions.Def) = refl
means (Exit c definitions.Var) = refl
means (Ejector c definitions.Def) = refl
means (Ejector c definitions.Var) = refl
means (Value c definitions.Def) = refl
means (Value c definitions.Var) = refl
means (MemberVerb roles.To) = refl
means (MemberVerb roles.Method) = refl
means (MemberOpen roles.To) = refl
means (MemberOpen roles.Method) = refl
means (MemberResult roles.To) = refl
means (MemberResult roles.Method) = refl
means (MemberGuard roles.To) = refl
means (MemberGuard roles.Method) = refl

abbrev mean_of : Option Place → Option Rule
mean_of None = None
mean_of (Some q) = Some (meaning q)

forms_mean : (l : Line) (k : TokenKind) → rule_at l k ≡ mean_of (form_at l k)
forms_mean lines.Expr kinds.Return = refl
forms_mean lines.Expr kinds.Break = refl
forms_mean lines.Expr kinds.Continue = refl
forms_mean lines.Expr kinds.Def = refl
forms_mean lines.Expr kinds.Var = refl
forms_mean lines.Expr _ = refl
forms_mean lines.ExprBeforeBlock kinds.Return = refl
forms_mean lines.ExprBeforeBlock kinds.Break = refl
forms_mean lines.ExprBeforeBlock kinds.Continue = refl
forms_mean lines.ExprBeforeBlock kinds.Def = refl
forms_mean lines.ExprBeforeBlock kinds.Var = refl
forms_mean lines.ExprBeforeBlock _ = refl
forms_mean lines.Or _ = refl
forms_mean lines.And _ = refl
forms_mean lines.Equality _ = refl
forms_mean lines.Bits _ = refl
forms_mean lines.Relation _ = refl
forms_mean lines.Range _ = refl
forms_mean lines.Sum _ = refl
forms_mean lines.Product _ = refl
forms_mean lines.Power _ = refl
forms_mean lines.Prefix kinds.Minus = refl
forms_mean lines.Prefix kinds.Not = refl
forms_mean lines.Prefix _ = refl
forms_mean lines.Postfix _ = refl
forms_mean lines.Prim kinds.Number = refl
forms_mean lines.Prim kinds.Text = refl
forms_mean lines.Prim kinds.Character = refl
forms_mean lines.Prim kinds.Identifier = refl
forms_mean lines.Prim kinds.OpenBracket = refl
forms_mean lines.Prim kinds.OpenParen = refl
forms_mean lines.Prim kinds.OpenBrace = refl
forms_mean lines.Prim kinds.If = refl
forms_mean lines.Prim kinds.While = refl
forms_mean lines.Prim kinds.For = refl
forms_mean lines.Prim kinds.Escape = refl
forms_mean lines.Prim kinds.Try = refl
forms_mean lines.Prim kinds.When = refl
forms_mean lines.Prim kinds.Fn = refl
forms_mean lines.Prim _ = refl
forms_mean lines.Block kinds.OpenBrace = refl
forms_mean lines.Block _ = refl
forms_mean lines.Branch kinds.OpenBrace = refl
forms_mean lines.Branch kinds.If = refl
forms_mean lines.Branch _ = refl
forms_mean lines.Pattern kinds.Ignore = refl
forms_mean lines.Pattern kinds.Identifier = refl
forms_mean lines.Pattern kinds.Var = refl
forms_mean lines.Pattern kinds.OpenBracket = refl
forms_mean lines.Pattern kinds.Via = refl
forms_mean lines.Pattern _ = refl
forms_mean lines.OtherPattern kinds.Var = refl
forms_mean lines.OtherPattern kinds.OpenBracket = refl
forms_mean lines.OtherPattern kinds.Via = refl
forms_mean lines.OtherPattern _ = refl
forms_mean lines.Guard kinds.Identifier = refl
forms_mean lines.Guard kinds.OpenParen = refl
forms_mean lines.Guard _ = refl
forms_mean lines.Member kinds.To = refl
forms_mean lines.Member kinds.Method = refl
forms_mean lines.Member kinds.Match = refl
forms_mean lines.Member _ = refl

assigned_mean : (l : Line) (s : Shape) → assigned_rule l s ≡ mean_of (assigned l s)
assigned_mean l shapes.Noun = refl
assigned_mean l shapes.Index = refl
assigned_mean l _ = refl

changed_mean : (l : Line) (s : Shape) → changed_rule l s ≡ mean_of (changed l s)
changed_mean l shapes.Noun = refl
changed_mean l _ = refl

becomes_mean : (l : Line) (s : Shape) (k : TokenKind) → becomes_rule l s k ≡ mean_of (becomes l s k)
becomes_mean l s kinds.Assign = assigned_mean l s
becomes_mean l s kinds.AddAssign = changed_mean l s
becomes_mean l s kinds.SubtractAssign = changed_mean l s
becomes_mean l s kinds.MultiplyAssign = changed_mean l s
becomes_mean l s kinds.FloorDivideAssign = changed_mean l s
becomes_mean l s kinds.RemainderAssign = changed_mean l s
becomes_mean l s kinds.ModAssign = changed_mean l s
becomes_mean l s kinds.PowAssign = changed_mean l s
becomes_mean l s kinds.AndAssign = changed_mean l s
becomes_mean l s kinds.OrAssign = changed_mean l s
becomes_mean l s kinds.XorAssign = changed_mean l s
becomes_mean l s _ = refl

more_mean : (c : Tail) (s : Shape) (k : TokenKind) → more_rule c s k ≡ mean_of (more_at c s k)
more_mean tails.Becomes s k = becomes_mean lines.Expr s k
more_mean tails.BecomesBeforeBlock s k = becomes_mean lines.ExprBeforeBlock s k
more_mean tails.Ors s kinds.LogicalOr = refl
more_mean tails.Ors s _ = refl
more_mean tails.Ands s kinds.LogicalAnd = refl
more_mean tails.Ands s _ = refl
more_mean tails.Equality s kinds.Same = refl
more_mean tails.Equality s kinds.NotSame = refl
more_mean tails.Equality s kinds.Matches = refl
more_mean tails.Equality s _ = refl
more_mean tails.Bits s kinds.And = refl
more_mean tails.Bits s kinds.Or = refl
more_mean tails.Bits s kinds.Xor = refl
more_mean tails.Bits s _ = refl
more_mean tails.Relation s kinds.Less = refl
more_mean tails.Relation s kinds.AtMost = refl
more_mean tails.Relation s kinds.AsBigAs = refl
more_mean tails.Relation s kinds.AtLeast = refl
more_mean tails.Relation s kinds.Greater = refl
more_mean tails.Relation s _ = refl
more_mean tails.Range s kinds.Through = refl
more_mean tails.Range s kinds.Till = refl
more_mean tails.Range s _ = refl
more_mean tails.Sums s kinds.Plus = refl
more_mean tails.Sums s kinds.Minus = refl
more_mean tails.Sums s _ = refl
more_mean tails.Products s kinds.Times = refl
more_mean tails.Products s kinds.FloorDivide = refl
more_mean tails.Products s kinds.Remainder = refl
more_mean tails.Products s kinds.Mod = refl
more_mean tails.Products s _ = refl
more_mean tails.Power s kinds.Pow = refl
more_mean tails.Power s _ = refl
more_mean tails.Suffixes s kinds.OpenParen = refl
more_mean tails.Suffixes s kinds.OpenBracket = refl
more_mean tails.Suffixes s kinds.Dot = refl
more_mean tails.Suffixes s kinds.Send = refl
more_mean tails.Suffixes s _ = refl
more_mean tails.Nothing s _ = refl

-- one of some beginnings
data In : List Begin → Begin → Type 0 where
  first : {h : Begin} {hs : List Begin} → In (h ∷ hs) h
  later : {h g : Begin} {hs : List Begin} → In hs h → In (g ∷ hs) h

in_left : (a b : List Begin) (h : Begin) → In a h → In (a ++ b) h
in_left [] b h i = elim i [ ]
in_left (g ∷ a) b h first = first
in_left (g ∷ a) b h (later i) = later (in_left a b h i)

in_right : (a b : List Begin) (h : Begin) → In b h → In (a ++ b) h
in_right [] b h i = i
in_right (g ∷ a) b h i = later (in_right a b h i)

in_either : (a b : List Begin) (h : Begin) → In (a ++ b) h → In a h ⊎ In b h
in_either [] b h i = inr i
in_either (g ∷ a) b h first = inl first
in_either (g ∷ a) b h (later i) = elim (in_either a b h i) [ inl j ↦ inl (later j) | inr j ↦ inr j ]

-- what a side begins with, the rule begins with
in_opens : {p q : Rule} → Opens p q → (h : Begin) → In (begins_with q) h → In (begins_with p) h
in_opens (left {p = p} {q = q}) h i = in_left (begins_with p) (begins_with q) h i
in_opens (right {p = p} {q = q}) h i = in_right (begins_with p) (begins_with q) h i
in_opens upto_on h first = first
in_opens upto_on h (later i) = elim i [ ]
in_opens (upto_end {n = zero}) h i = i
in_opens (upto_end {n = suc n}) h i = later i
in_opens several_on h first = first
in_opens several_on h (later i) = elim i [ ]
in_opens several_end h i = later i
in_opens catches_on h first = first
in_opens catches_on h (later i) = elim i [ ]
in_opens catches_end h i = later i
in_opens exprs_semicolon h first = first
in_opens exprs_semicolon h (later i) = elim i [ ]
in_opens exprs_line_end h first = later first
in_opens exprs_line_end h (later i) = elim i [ ]
in_opens exprs_on h first = later (later first)
in_opens exprs_on h (later i) = elim i [ ]
in_opens exprs_end h i = later (later (later i))
in_opens more_semicolon h first = first
in_opens more_semicolon h (later i) = elim i [ ]
in_opens more_line_end h first = later first
in_opens more_line_end h (later i) = elim i [ ]
in_opens more_end h i = later (later i)
in_opens members_semicolon h first = first
in_opens members_semicolon h (later i) = elim i [ ]
in_opens members_line_end h first = later first
in_opens members_line_end h (later i) = elim i [ ]
in_opens members_on h first = later (later first)
in_opens members_on h (later i) = elim i [ ]
in_opens members_end h i = later (later (later i))

-- the move of a place that begins so
abbrev MoveOf : Place → Begin → Type 0
MoveOf q (takes_head k p) = (r : Place) × Has (moves q) (Takes k r) × (meaning r ≡ p)
MoveOf q (reads_head l p) = (r : Place) × Has (moves q) (Reads l r) × (meaning r ≡ p)
MoveOf q (wraps_head k s p) = (r : Place) × Has (moves q) (Wraps k s r) × (meaning r ≡ p)
MoveOf q (ends_head s) = ending q ≡ Ends s
MoveOf q (stops_head s) = ending q ≡ BeforeStop s

by_move : (q : Place) (m : Move) → Has (moves q) m → MoveOf q (as_head m)
by_move q (Takes k r) h = (r, h, refl)
by_move q (Reads l r) h = (r, h, refl)
by_move q (Wraps k s r) h = (r, h, refl)

by_end : (q : Place) (e : Ending) → ending q ≡ e → (h : Begin) → In (end_heads e) h → MoveOf q h
by_end q Never d h i = elim i [ ]
by_end q (Ends s) d h first = d
by_end q (Ends s) d h (later i) = elim i [ ]
by_end q (BeforeStop s) d h first = d
by_end q (BeforeStop s) d h (later i) = elim i [ ]

by_heads : (q : Place) (ms : List Move) → ((m : Move) → Has ms m → Has (moves q) m) → (h : Begin) → In (as_heads ms ++ end_heads (ending q)) h → MoveOf q h
by_heads q [] sub h i = by_end q (ending q) refl h i
by_heads q (m ∷ ms) sub h first = by_move q m (sub m here)
by_heads q (m ∷ ms) sub h (later i) = by_heads q ms (λ n x. sub n (there x)) h i

move_of : (q : Place) (h : Begin) → In (place_heads q) h → MoveOf q h
move_of q h i = by_heads q (moves q) (λ m x. x) h i

-- a rule begins as a place does
abbrev Under : Rule → Place → Type 0
Under p q = (h : Begin) → In (begins_with p) h → In (place_heads q) h

under_self : (q : Place) → Under (meaning q) q
under_self q = λ h i. subst (λ (x : List Begin). In x h) (means q) i

under_at : (p : Rule) (q : Place) → meaning q ≡ p → Under p q
under_at p q e = subst (λ (x : Rule). Under x q) e (under_self q)

place_of : (o : Option Place) (p : Rule) → Some p ≡ mean_of o → (q : Place) × (o ≡ Some q) × (meaning q ≡ p)
place_of None p e = cc
place_of (Some q) p e = (q, refl, (let k : meaning q ≡ p = cc in k))

abbrev ToPlaces : Aim → List Word → Tree → List Word → Type 0
ToPlaces (line l) ts w us = Spells (goal_line l) ts w us
ToPlaces (tail c v) ts w us = Spells (goal_tail c v) ts w us
ToPlaces (rest p f fs) ts w us = (q : Place) → Under p q → Spells (inside q f fs) ts w us

to_places : {g : Aim} {ts us : List Word} {w : Tree} → lined.Reads g ts w us → ToPlaces g ts w us
to_places (lined.form {l = l} {t = t} {p = p} e d) =
    let x = place_of (form_at l t.kind) p (sym e ∙ forms_mean l t.kind) in
    form x.1 (to_places d x.0 (under_at p x.0 x.2))
to_places (lined.tower e d tl) = tower e (to_places d) (to_places tl)
to_places lined.stays = stays
to_places (lined.goes {c = c} {t = t} {p = p} {v = v} e d tl) =
    let x = place_of (more_at c (shape_of v) t.kind) p (sym e ∙ more_mean c (shape_of v) t.kind) in
    goes x.1 (to_places d x.0 (under_at p x.0 x.2)) (to_places tl)
to_places {ts = ts} (at_end {s = s}) = λ q u. ends (subst (λ (e : Ending). MayEnd e s ts) (sym (move_of q (ends_head s) (u (ends_head s) first))) refl)
to_places {ts = ts} (at_stop {s = s} i) = λ q u. ends (subst (λ (e : Ending). MayEnd e s ts) (sym (move_of q (stops_head s) (u (stops_head s) first))) (refl, i))
to_places (lined.takes {k = k} {p = p} e d) = λ q u.
    let m = move_of q (takes_head k p) (u (takes_head k p) first) in
    takes m.1 e (to_places d m.0 (under_at p m.0 m.2))
to_places (lined.reads {l = l} {p = p} d n) = λ q u.
    let m = move_of q (reads_head l p) (u (reads_head l p) first) in
    reads m.1 (to_places d) (to_places n m.0 (under_at p m.0 m.2))
to_places (groups {k = k} {s = s} {p = p} e d) = λ q u.
    let m = move_of q (wraps_head k s p) (u (wraps_head k s p) first) in
    wraps m.1 e (to_places d m.0 (under_at p m.0 m.2))
to_places (opens o d) = λ q u. to_places d q (λ h i. u h (in_opens o h i))

-- what a beginning of a rule spells
abbrev Does : Begin → Word → Trees → List Word → Tree → List Word → Type 0
Does (takes_head k p) f fs ts w us = (t : Word) × (vs : List Word) × (ts ≡ (t ∷ vs)) × (t.kind ≡ k) × lined.Reads (rest p f (leaf fs t)) vs w us
Does (reads_head l p) f fs ts w us = (v : Tree) × (mid : List Word) × lined.Reads (line l) ts v mid × lined.Reads (rest p f (more fs v)) mid w us
Does (wraps_head k s p) f fs ts w us = (t : Word) × (vs : List Word) × (ts ≡ (t ∷ vs)) × (t.kind ≡ k) × lined.Reads (rest p f (leaf (wrapped s fs) t)) vs w us
Does (ends_head s) f fs ts w us = (w ≡ node s f fs) × (us ≡ ts)
Does (stops_head s) f fs ts w us = (w ≡ node s f fs) × (us ≡ ts) × IsStop ts

reads_as : {g : Aim} {ts vs us ws : List Word} {w x : Tree} → ts ≡ vs → w ≡ x → us ≡ ws → lined.Reads g vs x ws → lined.Reads g ts w us
reads_as {g} {ts} {vs} {us} {ws} {w} {x} a b c d = subst (λ (z : List Word). lined.Reads g z w us) (sym a) (subst (λ (z : Tree). lined.Reads g vs z us) (sym b) (subst (λ (z : List Word). lined.Reads g vs x z) (sym c) d))

-- from what a rule begins with it spells the rest
built : (p : Rule) (h : Begin) (f : Word) (fs : Trees) (ts : List Word) (w : Tree) (us : List Word) → In (begins_with p) h → Does h f fs ts w us → lined.Reads (rest p f fs) ts w us
built (lined.ends s) h f fs ts w us first d = reads_as refl d.0 d.1 at_end
built (lined.ends s) h f fs ts w us (later i) d = elim i [ ]
built (lined.stops s) h f fs ts w us first d = reads_as refl d.0 d.1 (at_stop d.2)
built (lined.stops s) h f fs ts w us (later i) d = elim i [ ]
built (token k p) h f fs ts w us first d = reads_as d.2 refl refl (lined.takes d.3 d.4)
built (token k p) h f fs ts w us (later i) d = elim i [ ]
built (tree l p) h f fs ts w us first d = lined.reads d.2 d.3
built (tree l p) h f fs ts w us (later i) d = elim i [ ]
built (lined.wraps k s p) h f fs ts w us first d = reads_as d.2 refl refl (groups d.3 d.4)
built (lined.wraps k s p) h f fs ts w us (later i) d = elim i [ ]
built (either p q) h f fs ts w us i d = elim (in_either (begins_with p) (begins_with q) h i) [
  | inl j ↦ opens left (built p h f fs ts w us j d)
  | inr j ↦ opens right (built q h f fs ts w us j d)
]
built (upto zero l p) h f fs ts w us i d = opens upto_end (built p h f fs ts w us i d)
built (upto (suc n) l p) h f fs ts w us first d = opens upto_on (reads_as d.2 refl refl (lined.takes d.3 d.4))
built (upto (suc n) l p) h f fs ts w us (later i) d = opens upto_end (built p h f fs ts w us i d)
built (several l p) h f fs ts w us first d = opens several_on (reads_as d.2 refl refl (lined.takes d.3 d.4))
built (several l p) h f fs ts w us (later i) d = opens several_end (built p h f fs ts w us i d)
built (catches p) h f fs ts w us first d = opens catches_on (reads_as d.2 refl refl (lined.takes d.3 d.4))
built (catches p) h f fs ts w us (later i) d = opens catches_end (built p h f fs ts w us i d)
built (exprs p) h f fs ts w us first d = opens exprs_semicolon (reads_as d.2 refl refl (lined.takes d.3 d.4))
built (exprs p) h f fs ts w us (later first) d = opens exprs_line_end (reads_as d.2 refl refl (lined.takes d.3 d.4))
built (exprs p) h f fs ts w us (later (later first)) d = opens exprs_on (lined.reads d.2 d.3)
built (exprs p) h f fs ts w us (later (later (later i))) d = opens exprs_end (built p h f fs ts w us i d)
built (exprs_more p) h f fs ts w us first d = opens more_semicolon (reads_as d.2 refl refl (lined.takes d.3 d.4))
built (exprs_more p) h f fs ts w us (later first) d = opens more_line_end (reads_as d.2 refl refl (lined.takes d.3 d.4))
built (exprs_more p) h f fs ts w us (later (later i)) d = opens more_end (built p h f fs ts w us i d)
built (members p) h f fs ts w us first d = opens members_semicolon (reads_as d.2 refl refl (lined.takes d.3 d.4))
built (members p) h f fs ts w us (later first) d = opens members_line_end (reads_as d.2 refl refl (lined.takes d.3 d.4))
built (members p) h f fs ts w us (later (later first)) d = opens members_on (lined.reads d.2 d.3)
built (members p) h f fs ts w us (later (later (later i))) d = opens members_end (built p h f fs ts w us i d)

-- a move of a place is something that it begins with
in_moves : {ms : List Move} {m : Move} (hs : List Begin) → Has ms m → In (as_heads ms ++ hs) (as_head m)
in_moves hs here = first
in_moves hs (there h) = later (in_moves hs h)

begins_at : (q : Place) (h : Begin) → In (place_heads q) h → In (begins_with (meaning q)) h
begins_at q h i = subst (λ (x : List Begin). In x h) (sym (means q)) i

ending_in : (q : Place) (e : Ending) (s : Shape) (f : Word) (fs : Trees) (ts : List Word) → ending q ≡ e → MayEnd e s ts → lined.Reads (rest (meaning q) f fs) ts (node s f fs) ts
ending_in q Never s f fs ts d m = absurd m
ending_in q (Ends x) s f fs ts d m = built (meaning q) (ends_head x) f fs ts (node s f fs) ts (begins_at q (ends_head x) (in_right (as_heads (moves q)) (end_heads (ending q)) (ends_head x) (subst (λ (e : Ending). In (end_heads e) (ends_head x)) (sym d) first))) (ap (λ (y : Shape). node y f fs) (sym m), refl)
ending_in q (BeforeStop x) s f fs ts d m = built (meaning q) (stops_head x) f fs ts (node s f fs) ts (begins_at q (stops_head x) (in_right (as_heads (moves q)) (end_heads (ending q)) (stops_head x) (subst (λ (e : Ending). In (end_heads e) (stops_head x)) (sym d) first))) (ap (λ (y : Shape). node y f fs) (sym m.0), refl, m.1)

abbrev FromPlaces : Goal → List Word → Tree → List Word → Type 0
FromPlaces (goal_line l) ts w us = lined.Reads (line l) ts w us
FromPlaces (goal_tail c v) ts w us = lined.Reads (tail c v) ts w us
FromPlaces (inside q f fs) ts w us = lined.Reads (rest (meaning q) f fs) ts w us

from_places : {g : Goal} {ts us : List Word} {w : Tree} → Spells g ts w us → FromPlaces g ts w us
from_places (form {l = l} {t = t} {q = q} e d) = lined.form (forms_mean l t.kind ∙ ap mean_of e) (from_places d)
from_places (tower e d tl) = lined.tower e (from_places d) (from_places tl)
from_places stays = lined.stays
from_places (goes {c = c} {t = t} {v = v} e d tl) = lined.goes (more_mean c (shape_of v) t.kind ∙ ap mean_of e) (from_places d) (from_places tl)
from_places {ts = ts} (ends {q = q} {s = s} {f = f} {fs = fs} m) = ending_in q (ending q) s f fs ts refl m
from_places {us = us} {w = w} (takes {q = q} {r = r} {k = k} {t = t} {f = f} {fs = fs} {ts = vs} h e d) =
    built (meaning q) (takes_head k (meaning r)) f fs (t ∷ vs) w us (begins_at q (takes_head k (meaning r)) (in_moves (end_heads (ending q)) h)) (t, vs, refl, e, from_places d)
from_places {ts = ts} {us = us} {w = w} (reads {q = q} {r = r} {l = l} {f = f} {fs = fs} {v = v} {mid = mid} h d n) =
    built (meaning q) (reads_head l (meaning r)) f fs ts w us (begins_at q (reads_head l (meaning r)) (in_moves (end_heads (ending q)) h)) (v, mid, from_places d, from_places n)
from_places {us = us} {w = w} (wraps {q = q} {r = r} {k = k} {s = s} {t = t} {f = f} {fs = fs} {ts = vs} h e d) =
    built (meaning q) (wraps_head k s (meaning r)) f fs (t ∷ vs) w us (begins_at q (wraps_head k s (meaning r)) (in_moves (end_heads (ending q)) h)) (t, vs, refl, e, from_places d)

-- the lines spell what the places spell
pub lines_are_places : LinesArePlaces
lines_are_places = λ ts w. (λ d. to_places d places.Program (under_self places.Program), λ d. from_places d)
