-- The grammar, and what its lines spell.
use Rattle.std.specs.Prelude.{◌≡◌, ℕ, zero, suc, List, [], ◌∷◌, Bool, true, false, Option, Some, None}
use Rattle.def_syntax.specs.declared.token.TokenKind.{TokenKind}
use Rattle.def_syntax.specs.declared.token.TokenKind.TheVariants as kinds
use Rattle.def_syntax.specs.declared.syntax.Word.{Word}
use Rattle.def_syntax.specs.declared.syntax.Shape.{Shape}
use Rattle.def_syntax.specs.declared.syntax.Shape.TheVariants as shapes
use Rattle.def_syntax.specs.declared.syntax.Line.{Line}
use Rattle.def_syntax.specs.declared.syntax.Line.TheVariants as lines
use Rattle.def_syntax.specs.declared.syntax.Tail.{Tail}
use Rattle.def_syntax.specs.declared.syntax.Tail.TheVariants as tails
use Rattle.def_syntax.specs.declared.place.Place.{Place}
use Rattle.def_syntax.specs.declared.place.Place.TheVariants.{Done, Last, Open, First, Item, More, Test, Close, Name, NameGuard, NameGuarded, Bound, Exit, Ejector, Value, Var, VarName, VarGuard, MemberVerb, MemberOpen, MemberResult, MemberGuard, PatternGuard, CatchPattern, CatchBlock, Def}
use Rattle.def_syntax.specs.declared.place.Place.TheVariants as places
use Rattle.def_syntax.specs.declared.place.Move.{Move}
use Rattle.def_syntax.specs.declared.place.Move.TheVariants.{Takes, Reads, Wraps}
use Rattle.def_syntax.specs.declared.place.Ending.{Ending}
use Rattle.def_syntax.specs.declared.place.Ending.TheVariants.{Never, Ends, BeforeStop}
use Rattle.def_syntax.specs.declared.place.Series.{Series}
use Rattle.def_syntax.specs.declared.place.Series.TheVariants as series
use Rattle.def_syntax.specs.declared.place.Head.{Head}
use Rattle.def_syntax.specs.declared.place.Head.TheVariants as heads
use Rattle.def_syntax.specs.declared.place.Caught.{Caught}
use Rattle.def_syntax.specs.declared.place.Caught.TheVariants as caught
use Rattle.def_syntax.specs.declared.place.Context.{Context}
use Rattle.def_syntax.specs.declared.place.Context.TheVariants.{Plain, BeforeBlock}
use Rattle.def_syntax.specs.declared.place.Named.{Named}
use Rattle.def_syntax.specs.declared.place.Named.TheVariants as named
use Rattle.def_syntax.specs.declared.place.Definition.{Definition}
use Rattle.def_syntax.specs.declared.place.Definition.TheVariants as definitions
use Rattle.def_syntax.specs.declared.place.Role.{Role}
use Rattle.def_syntax.specs.declared.place.Role.TheVariants as roles

-- A tree is a node with its first token, and what has been read of it from left to right: trees and tokens.
mutual
  pub data Tree : Type 0 where
    node : Shape → Word → Trees → Tree

  pub data Trees : Type 0 where
    none : Trees
    more : Trees → Tree → Trees
    leaf : Trees → Word → Trees

-- a list has one member and at most so many more
abbrev pub most_more : ℕ
most_more = 254

-- the line of a list's members
abbrev pub item_line : Series → Line
item_line series.Parameters = lines.Pattern
item_line series.FunctionParameters = lines.Pattern
item_line series.ToParameters = lines.Pattern
item_line series.MethodParameters = lines.Pattern
item_line series.ListPattern = lines.Pattern
item_line _ = lines.Expr

-- what closes a list
abbrev pub closing : Series → Move
closing series.Arguments = Takes kinds.CloseParen (Done shapes.Call)
closing series.Members = Takes kinds.CloseBracket (Done shapes.List)
closing series.Index = Takes kinds.CloseBracket (Done shapes.Index)
closing series.VerbArguments = Takes kinds.CloseParen (Done shapes.VerbCall)
closing series.SendArguments = Takes kinds.CloseParen (Done shapes.Send)
closing series.GuardArguments = Takes kinds.CloseBracket (Done shapes.NounGuard)
closing series.Parameters = Takes kinds.CloseParen places.Result
closing series.FunctionParameters = Reads lines.Block (Done shapes.Function)
closing series.ToParameters = Takes kinds.CloseParen (MemberResult roles.To)
closing series.MethodParameters = Takes kinds.CloseParen (MemberResult roles.Method)
closing series.ListPattern = Takes kinds.CloseBracket (Done shapes.ListPattern)

-- behind the `)` of a form
abbrev pub behind : Head → Place
behind heads.If = places.IfThen
behind heads.While = Last lines.Block shapes.While
behind heads.When = places.WhenArrow
behind heads.Via = Last lines.Pattern shapes.ViaPattern
behind heads.Group = Done shapes.Group
behind heads.Guard = Done shapes.ExprGuard

abbrev pub caught_shape : Caught → Shape
caught_shape caught.Escape = shapes.Escape
caught_shape caught.When = shapes.When

-- the expression behind `:=`
abbrev pub value_line : Context → Line
value_line Plain = lines.Expr
value_line BeforeBlock = lines.ExprBeforeBlock

abbrev pub definition_shape : Definition → Shape
definition_shape definitions.Def = shapes.Define
definition_shape definitions.Var = shapes.DefineVar

abbrev pub named_shape : Named → Shape
named_shape named.Noun = shapes.FinalPattern
named_shape named.Ignore = shapes.AnyPattern

abbrev pub role_shape : Role → Shape
role_shape roles.To = shapes.To
role_shape roles.Method = shapes.Method

abbrev pub parameters : Role → Series
parameters roles.To = series.ToParameters
parameters roles.Method = series.MethodParameters

-- The moves at each place. The last of them leads to a lowest tree.
abbrev pub moves : Place → List Move
moves (Done s) = []
moves (Last l s) = Reads l (Done s) ∷ []
moves places.Program = Takes kinds.Semicolon places.Program ∷ Takes kinds.LineEnd places.Program ∷ Reads lines.Expr places.ProgramMore ∷ []
moves places.ProgramMore = Takes kinds.Semicolon places.Program ∷ Takes kinds.LineEnd places.Program ∷ []
moves places.Block = Takes kinds.Semicolon places.Block ∷ Takes kinds.LineEnd places.Block ∷ Reads lines.Expr places.BlockMore ∷ Takes kinds.CloseBrace (Done shapes.Block) ∷ []
moves places.BlockMore = Takes kinds.Semicolon places.Block ∷ Takes kinds.LineEnd places.Block ∷ Takes kinds.CloseBrace (Done shapes.Block) ∷ []
moves places.Leave = Reads lines.Expr (Done shapes.Leave) ∷ []
moves (First x) = Reads (item_line x) (More most_more x) ∷ closing x ∷ []
moves (Item n x) = Reads (item_line x) (More n x) ∷ []
moves (More zero x) = closing x ∷ []
moves (More (suc n) x) = Takes kinds.Comma (Item n x) ∷ closing x ∷ []
moves (Open h) = Takes kinds.OpenParen (Test h) ∷ []
moves (Test h) = Reads lines.Expr (Close h) ∷ []
moves (Close h) = Takes kinds.CloseParen (behind h) ∷ []
moves places.IfThen = Reads lines.Block places.IfElse ∷ []
moves places.IfElse = Takes kinds.Else (Last lines.Branch shapes.If) ∷ []
moves places.WhenArrow = Takes kinds.Arrow places.WhenBlock ∷ []
moves places.WhenBlock = Reads lines.Block (places.Caught caught.When) ∷ []
moves (places.Caught e) = Takes kinds.Catch (CatchPattern e) ∷ []
moves (CatchPattern e) = Reads lines.Pattern (CatchBlock e) ∷ []
moves (CatchBlock e) = Reads lines.Block (Done (caught_shape e)) ∷ []
moves places.Escape = Reads lines.Pattern places.EscapeBlock ∷ []
moves places.EscapeBlock = Reads lines.Block (places.Caught caught.Escape) ∷ []
moves places.Try = Reads lines.Block places.TryMore ∷ []
moves places.TryMore = Takes kinds.Catch places.TryPattern ∷ Takes kinds.Finally (Last lines.Block shapes.Try) ∷ []
moves places.TryPattern = Reads lines.Pattern places.TryBlock ∷ []
moves places.TryBlock = Reads lines.Block places.TryMore ∷ []
moves places.For = Reads lines.Pattern places.ForKey ∷ []
moves places.ForKey = Takes kinds.FatArrow places.ForValue ∷ Takes kinds.In places.ForList ∷ []
moves places.ForValue = Reads lines.Pattern places.ForIn ∷ []
moves places.ForIn = Takes kinds.In places.ForList ∷ []
moves places.ForList = Reads lines.ExprBeforeBlock (Last lines.Block shapes.For) ∷ []
moves places.Verb = Takes kinds.Text places.VerbOpen ∷ Takes kinds.Identifier places.VerbOpen ∷ []
moves places.VerbOpen = Takes kinds.OpenParen (First series.VerbArguments) ∷ []
moves places.Send = Takes kinds.Text places.SendOpen ∷ Takes kinds.Identifier places.SendOpen ∷ Takes kinds.OpenParen (First series.SendArguments) ∷ []
moves places.SendOpen = Takes kinds.OpenParen (First series.SendArguments) ∷ []
moves (Def c) = Reads lines.OtherPattern (Bound c definitions.Def) ∷ Takes kinds.Ignore (Name c named.Ignore) ∷ Takes kinds.Identifier (Name c named.Noun) ∷ []
moves (Name c named.Noun) = Takes kinds.Colon (NameGuard c named.Noun) ∷ Wraps kinds.Exit shapes.FinalPattern (Exit c definitions.Def) ∷ Wraps kinds.Assign shapes.FinalPattern (Value c definitions.Def) ∷ Takes kinds.OpenParen (First series.Parameters) ∷ Takes kinds.Implements places.Auditor ∷ Takes kinds.OpenBrace places.Script ∷ []
moves (Name c named.Ignore) = Takes kinds.Colon (NameGuard c named.Ignore) ∷ Wraps kinds.Exit shapes.AnyPattern (Exit c definitions.Def) ∷ Wraps kinds.Assign shapes.AnyPattern (Value c definitions.Def) ∷ Takes kinds.Implements places.Auditor ∷ Takes kinds.OpenBrace places.Script ∷ []
moves (NameGuard c x) = Reads lines.Guard (NameGuarded c x) ∷ []
moves (NameGuarded c x) = Wraps kinds.Exit (named_shape x) (Exit c definitions.Def) ∷ Wraps kinds.Assign (named_shape x) (Value c definitions.Def) ∷ []
moves (Bound c d) = Takes kinds.Exit (Exit c d) ∷ Takes kinds.Assign (Value c d) ∷ []
moves (Exit c d) = Reads lines.Or (Ejector c d) ∷ []
moves (Ejector c d) = Takes kinds.Assign (Value c d) ∷ []
moves (Value c d) = Reads (value_line c) (Done (definition_shape d)) ∷ []
moves (Var c) = Takes kinds.Identifier (VarName c) ∷ []
moves (VarName c) = Takes kinds.Colon (VarGuard c) ∷ Takes kinds.Exit (Exit c definitions.Var) ∷ Takes kinds.Assign (Value c definitions.Var) ∷ []
moves (VarGuard c) = Reads lines.Guard (Bound c definitions.Var) ∷ []
moves places.Auditor = Reads lines.Postfix places.AuditorMore ∷ []
moves places.AuditorMore = Takes kinds.Comma places.Auditor ∷ Takes kinds.OpenBrace places.Script ∷ []
moves places.Script = Takes kinds.Semicolon places.Script ∷ Takes kinds.LineEnd places.Script ∷ Reads lines.Member places.Script ∷ Takes kinds.CloseBrace (Done shapes.DefineObject) ∷ []
moves places.Result = Takes kinds.Colon places.ResultGuard ∷ Takes kinds.Implements places.FunctionAuditor ∷ Reads lines.Block (Done shapes.DefineFunction) ∷ []
moves places.ResultGuard = Reads lines.Guard places.ResultGuarded ∷ []
moves places.ResultGuarded = Takes kinds.Implements places.FunctionAuditor ∷ Reads lines.Block (Done shapes.DefineFunction) ∷ []
moves places.FunctionAuditor = Reads lines.Postfix places.FunctionAuditorMore ∷ []
moves places.FunctionAuditorMore = Takes kinds.Comma places.FunctionAuditor ∷ Reads lines.Block (Done shapes.DefineFunction) ∷ []
moves (MemberVerb r) = Takes kinds.Text (MemberOpen r) ∷ Takes kinds.Identifier (MemberOpen r) ∷ []
moves (MemberOpen r) = Takes kinds.OpenParen (First (parameters r)) ∷ []
moves (MemberResult r) = Takes kinds.Colon (MemberGuard r) ∷ Reads lines.Block (Done (role_shape r)) ∷ []
moves (MemberGuard r) = Reads lines.Guard (Last lines.Block (role_shape r)) ∷ []
moves places.Matcher = Reads lines.Pattern (Last lines.Block shapes.Matcher) ∷ []
moves (PatternGuard s) = Takes kinds.Colon (Last lines.Guard s) ∷ []
moves places.VarPattern = Takes kinds.Identifier (PatternGuard shapes.VarPattern) ∷ []
moves places.NounGuard = Takes kinds.OpenBracket (Item most_more series.GuardArguments) ∷ []

-- where a node may end
abbrev pub ending : Place → Ending
ending (Done s) = Ends s
ending places.Program = Ends shapes.Program
ending places.ProgramMore = Ends shapes.Program
ending places.Leave = BeforeStop shapes.Leave
ending places.IfElse = Ends shapes.If
ending (places.Caught e) = Ends (caught_shape e)
ending places.TryMore = Ends shapes.Try
ending (PatternGuard s) = Ends s
ending places.NounGuard = Ends shapes.NounGuard
ending _ = Never

-- The alternatives of a line that begin with a token of their own, by that token.
abbrev pub form_at : Line → TokenKind → Option Place
form_at lines.Expr kinds.Return = Some places.Leave
form_at lines.Expr kinds.Break = Some places.Leave
form_at lines.Expr kinds.Continue = Some places.Leave
form_at lines.Expr kinds.Def = Some (Def Plain)
form_at lines.Expr kinds.Var = Some (Var Plain)
form_at lines.ExprBeforeBlock kinds.Return = Some (Last lines.ExprBeforeBlock shapes.Leave)
form_at lines.ExprBeforeBlock kinds.Break = Some (Last lines.ExprBeforeBlock shapes.Leave)
form_at lines.ExprBeforeBlock kinds.Continue = Some (Last lines.ExprBeforeBlock shapes.Leave)
form_at lines.ExprBeforeBlock kinds.Def = Some (Def BeforeBlock)
form_at lines.ExprBeforeBlock kinds.Var = Some (Var BeforeBlock)
form_at lines.Prefix kinds.Minus = Some (Last lines.Prefix shapes.Prefix)
form_at lines.Prefix kinds.Not = Some (Last lines.Prefix shapes.Prefix)
form_at lines.Prim kinds.Number = Some (Done shapes.Literal)
form_at lines.Prim kinds.Text = Some (Done shapes.Literal)
form_at lines.Prim kinds.Character = Some (Done shapes.Literal)
form_at lines.Prim kinds.Identifier = Some (Done shapes.Noun)
form_at lines.Prim kinds.OpenBracket = Some (First series.Members)
form_at lines.Prim kinds.OpenParen = Some (Test heads.Group)
form_at lines.Prim kinds.OpenBrace = Some places.Block
form_at lines.Prim kinds.If = Some (Open heads.If)
form_at lines.Prim kinds.While = Some (Open heads.While)
form_at lines.Prim kinds.For = Some places.For
form_at lines.Prim kinds.Escape = Some places.Escape
form_at lines.Prim kinds.Try = Some places.Try
form_at lines.Prim kinds.When = Some (Open heads.When)
form_at lines.Prim kinds.Fn = Some (First series.FunctionParameters)
form_at lines.Block kinds.OpenBrace = Some places.Block
form_at lines.Branch kinds.OpenBrace = Some places.Block
form_at lines.Branch kinds.If = Some (Open heads.If)
form_at lines.Pattern kinds.Ignore = Some (PatternGuard shapes.AnyPattern)
form_at lines.Pattern kinds.Identifier = Some (PatternGuard shapes.FinalPattern)
form_at lines.Pattern kinds.Var = Some places.VarPattern
form_at lines.Pattern kinds.OpenBracket = Some (First series.ListPattern)
form_at lines.Pattern kinds.Via = Some (Open heads.Via)
form_at lines.OtherPattern kinds.Var = Some places.VarPattern
form_at lines.OtherPattern kinds.OpenBracket = Some (First series.ListPattern)
form_at lines.OtherPattern kinds.Via = Some (Open heads.Via)
form_at lines.Guard kinds.Identifier = Some places.NounGuard
form_at lines.Guard kinds.OpenParen = Some (Test heads.Guard)
form_at lines.Member kinds.To = Some (MemberVerb roles.To)
form_at lines.Member kinds.Method = Some (MemberVerb roles.Method)
form_at lines.Member kinds.Match = Some places.Matcher
form_at _ _ = None

-- The alternative of a line that is another line, and what may follow it there.
abbrev pub tower_of : Line → Option (Line × Tail)
tower_of lines.Expr = Some (lines.Or, tails.Becomes)
tower_of lines.ExprBeforeBlock = Some (lines.Or, tails.BecomesBeforeBlock)
tower_of lines.Or = Some (lines.And, tails.Ors)
tower_of lines.And = Some (lines.Equality, tails.Ands)
tower_of lines.Equality = Some (lines.Bits, tails.Equality)
tower_of lines.Bits = Some (lines.Relation, tails.Bits)
tower_of lines.Relation = Some (lines.Range, tails.Relation)
tower_of lines.Range = Some (lines.Sum, tails.Range)
tower_of lines.Sum = Some (lines.Product, tails.Sums)
tower_of lines.Product = Some (lines.Power, tails.Products)
tower_of lines.Power = Some (lines.Prefix, tails.Power)
tower_of lines.Prefix = Some (lines.Postfix, tails.Nothing)
tower_of lines.Postfix = Some (lines.Prim, tails.Suffixes)
tower_of _ = None

abbrev pub shape_of : Tree → Shape
shape_of (node s t ts) = s

abbrev pub word_of : Tree → Word
word_of (node s t ts) = t

abbrev pub parts_of : Tree → Trees
parts_of (node s t ts) = ts

-- what is assigned to by `:=`, behind a tree of this shape, and by an operator with `=`
abbrev pub assigned : Line → Shape → Option Place
assigned l shapes.Noun = Some (Last l shapes.Assign)
assigned l shapes.Index = Some (Last l shapes.AssignIndex)
assigned l _ = None

abbrev pub changed : Line → Shape → Option Place
changed l shapes.Noun = Some (Last l shapes.Assign)
changed l _ = None

-- an assignment to a tree of this shape, its right side being of this line
abbrev pub becomes : Line → Shape → TokenKind → Option Place
becomes l s kinds.Assign = assigned l s
becomes l s kinds.AddAssign = changed l s
becomes l s kinds.SubtractAssign = changed l s
becomes l s kinds.MultiplyAssign = changed l s
becomes l s kinds.FloorDivideAssign = changed l s
becomes l s kinds.RemainderAssign = changed l s
becomes l s kinds.ModAssign = changed l s
becomes l s kinds.PowAssign = changed l s
becomes l s kinds.AndAssign = changed l s
becomes l s kinds.OrAssign = changed l s
becomes l s kinds.XorAssign = changed l s
becomes l s _ = None

-- What goes on behind a tree of this shape, by the next token.
abbrev pub more_at : Tail → Shape → TokenKind → Option Place
more_at tails.Becomes s k = becomes lines.Expr s k
more_at tails.BecomesBeforeBlock s k = becomes lines.ExprBeforeBlock s k
more_at tails.Ors s kinds.LogicalOr = Some (Last lines.And shapes.Binary)
more_at tails.Ands s kinds.LogicalAnd = Some (Last lines.Equality shapes.Binary)
more_at tails.Equality s kinds.Same = Some (Last lines.Bits shapes.Binary)
more_at tails.Equality s kinds.NotSame = Some (Last lines.Bits shapes.Binary)
more_at tails.Equality s kinds.Matches = Some (Last lines.Pattern shapes.MatchBind)
more_at tails.Bits s kinds.And = Some (Last lines.Relation shapes.Binary)
more_at tails.Bits s kinds.Or = Some (Last lines.Relation shapes.Binary)
more_at tails.Bits s kinds.Xor = Some (Last lines.Relation shapes.Binary)
more_at tails.Relation s kinds.Less = Some (Last lines.Range shapes.Binary)
more_at tails.Relation s kinds.AtMost = Some (Last lines.Range shapes.Binary)
more_at tails.Relation s kinds.AsBigAs = Some (Last lines.Range shapes.Binary)
more_at tails.Relation s kinds.AtLeast = Some (Last lines.Range shapes.Binary)
more_at tails.Relation s kinds.Greater = Some (Last lines.Range shapes.Binary)
more_at tails.Range s kinds.Through = Some (Last lines.Sum shapes.Binary)
more_at tails.Range s kinds.Till = Some (Last lines.Sum shapes.Binary)
more_at tails.Sums s kinds.Plus = Some (Last lines.Product shapes.Binary)
more_at tails.Sums s kinds.Minus = Some (Last lines.Product shapes.Binary)
more_at tails.Products s kinds.Times = Some (Last lines.Power shapes.Binary)
more_at tails.Products s kinds.FloorDivide = Some (Last lines.Power shapes.Binary)
more_at tails.Products s kinds.Remainder = Some (Last lines.Power shapes.Binary)
more_at tails.Products s kinds.Mod = Some (Last lines.Power shapes.Binary)
more_at tails.Power s kinds.Pow = Some (Last lines.Prefix shapes.Binary)
more_at tails.Suffixes s kinds.OpenParen = Some (First series.Arguments)
more_at tails.Suffixes s kinds.OpenBracket = Some (Item most_more series.Index)
more_at tails.Suffixes s kinds.Dot = Some places.Verb
more_at tails.Suffixes s kinds.Send = Some places.Send
more_at _ _ _ = None

-- once more, or not
abbrev pub again : Tail → Tail
again tails.Ors = tails.Ors
again tails.Ands = tails.Ands
again tails.Bits = tails.Bits
again tails.Sums = tails.Sums
again tails.Products = tails.Products
again tails.Suffixes = tails.Suffixes
again _ = tails.Nothing

-- The first parts of the node behind a tree: that tree, or for an assignment the parts of that tree; and the token.
abbrev pub begun : Tail → Tree → Word → Trees
begun tails.Becomes v t = leaf (parts_of v) t
begun tails.BecomesBeforeBlock v t = leaf (parts_of v) t
begun _ v t = leaf (more none v) t

abbrev pub is_stop : TokenKind → Bool
is_stop kinds.Semicolon = true
is_stop kinds.LineEnd = true
is_stop kinds.CloseParen = true
is_stop kinds.CloseBracket = true
is_stop kinds.CloseBrace = true
is_stop _ = false

-- a separator, a closing bracket or the end
abbrev pub IsStop : List Word → Type 0
IsStop [] = Unit {0}
IsStop (t ∷ ts) = is_stop t.kind ≡ true

-- the token list before which a node with this ending ends, as this shape
abbrev pub MayEnd : Ending → Shape → List Word → Type 0
MayEnd Never s ts = ⊥
MayEnd (Ends e) s ts = e ≡ s
MayEnd (BeforeStop e) s ts = (e ≡ s) × IsStop ts

-- one of some moves
pub data Has : List Move → Move → Type 0 where
  here : {m : Move} {ms : List Move} → Has (m ∷ ms) m
  there : {m n : Move} {ms : List Move} → Has ms m → Has (n ∷ ms) m

-- the word for a place where no token is
abbrev pub no_word : Word
no_word = record { kind = kinds.LineEnd; number = 0 }

-- the first token among some parts
abbrev pub lead : Trees → Word
lead none = no_word
lead (leaf none t) = t
lead (leaf ts t) = lead ts
lead (more ts v) = lead ts

-- the parts so far as one node
abbrev pub wrapped : Shape → Trees → Trees
wrapped s ts = more none (node s (lead ts) ts)

-- what is being read
pub data Goal : Type 0 where
  -- a tree of this line
  line : Line → Goal
  -- what may follow this tree
  tail : Tail → Tree → Goal
  -- the rest of a node from this place, which began with this token, and has these parts so far
  inside : Place → Word → Trees → Goal

-- Spells g ts w rest: the tokens ts up to rest spell w, read as g.
pub data Spells : Goal → List Word → Tree → List Word → Type 0 where
  -- an alternative that begins with its own token
  form : {l : Line} {t : Word} {q : Place} {w : Tree} {ts rest : List Word} → form_at l t.kind ≡ Some q → Spells (inside q t none) ts w rest → Spells (line l) (t ∷ ts) w rest
  -- a tree of another line, and what follows it
  tower : {l m : Line} {c : Tail} {v w : Tree} {ts mid rest : List Word} → tower_of l ≡ Some (m, c) → Spells (line m) ts v mid → Spells (tail c v) mid w rest → Spells (line l) ts w rest
  stays : {c : Tail} {v : Tree} {ts : List Word} → Spells (tail c v) ts v ts
  goes : {c : Tail} {t : Word} {q : Place} {v u w : Tree} {ts mid rest : List Word} → more_at c (shape_of v) t.kind ≡ Some q → Spells (inside q (word_of v) (begun c v t)) ts u mid → Spells (tail (again c) u) mid w rest → Spells (tail c v) (t ∷ ts) w rest
  ends : {q : Place} {s : Shape} {f : Word} {fs : Trees} {ts : List Word} → MayEnd (ending q) s ts → Spells (inside q f fs) ts (node s f fs) ts
  takes : {q r : Place} {k : TokenKind} {t f : Word} {fs : Trees} {w : Tree} {ts rest : List Word} → Has (moves q) (Takes k r) → t.kind ≡ k → Spells (inside r f (leaf fs t)) ts w rest → Spells (inside q f fs) (t ∷ ts) w rest
  reads : {q r : Place} {l : Line} {f : Word} {fs : Trees} {v w : Tree} {ts mid rest : List Word} → Has (moves q) (Reads l r) → Spells (line l) ts v mid → Spells (inside r f (more fs v)) mid w rest → Spells (inside q f fs) ts w rest
  wraps : {q r : Place} {k : TokenKind} {s : Shape} {t f : Word} {fs : Trees} {w : Tree} {ts rest : List Word} → Has (moves q) (Wraps k s r) → t.kind ≡ k → Spells (inside r f (leaf (wrapped s fs) t)) ts w rest → Spells (inside q f fs) (t ∷ ts) w rest

-- the program's first token does not matter
abbrev pub start : Goal
start = inside places.Program no_word none

-- The tokens spell the tree of a program.
abbrev pub SpellsProgram : Tree → List Word → Type 0
SpellsProgram w ts = Spells start ts w []
