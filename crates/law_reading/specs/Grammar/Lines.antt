-- The grammar in lines: each alternative of a line as one rule, and what the rules spell.
use Rattle.std.specs.Prelude.{◌≡◌, ℕ, suc, List, [], ◌∷◌, Option, Some, None, ◌↔◌}
use Rattle.def_syntax.specs.declared.token.TokenKind.{TokenKind}
use Rattle.def_syntax.specs.declared.token.TokenKind.TheVariants as kinds
use Rattle.def_syntax.specs.declared.syntax.Word.{Word}
use Rattle.def_syntax.specs.declared.syntax.Shape.{Shape}
use Rattle.def_syntax.specs.declared.syntax.Shape.TheVariants as shapes
use Rattle.def_syntax.specs.declared.syntax.Line.{Line}
use Rattle.def_syntax.specs.declared.syntax.Line.TheVariants as lines
use Rattle.def_syntax.specs.declared.syntax.Tail.{Tail}
use Rattle.def_syntax.specs.declared.syntax.Tail.TheVariants as tails
use Rattle.def_syntax.specs.Grammar.{Tree, Trees, node, none, more, leaf, tower_of, shape_of, word_of, again, begun, IsStop, wrapped, no_word, most_more, SpellsProgram}

-- the right side of a line, behind its first token
pub data Rule : Type 0 where
  -- here the node ends
  ends : Shape → Rule
  -- here the node ends, where a separator, a closing bracket or the end comes
  stops : Shape → Rule
  -- this token
  token : TokenKind → Rule → Rule
  -- a tree of this line
  tree : Line → Rule → Rule
  -- this token, and what has been read of the node before it is a node of its own
  wraps : TokenKind → Shape → Rule → Rule
  -- one of two
  either : Rule → Rule → Rule
  -- { ',' tree }, at most so many
  upto : ℕ → Line → Rule → Rule
  -- { ',' tree }
  several : Line → Rule → Rule
  -- { 'catch' pattern block }
  catches : Rule → Rule
  -- {sep} [ expr { sep {sep} expr } {sep} ], a sep being ';' or a line end
  exprs : Rule → Rule
  -- { sep {sep} expr } {sep}, behind an expr
  exprs_more : Rule → Rule
  -- {sep} { member {sep} }
  members : Rule → Rule

-- One side of a choice, or one more turn of a repetition or none.
pub data Opens : Rule → Rule → Type 0 where
  left : {p q : Rule} → Opens (either p q) p
  right : {p q : Rule} → Opens (either p q) q
  upto_on : {n : ℕ} {l : Line} {p : Rule} → Opens (upto (suc n) l p) (token kinds.Comma (tree l (upto n l p)))
  upto_end : {n : ℕ} {l : Line} {p : Rule} → Opens (upto n l p) p
  several_on : {l : Line} {p : Rule} → Opens (several l p) (token kinds.Comma (tree l (several l p)))
  several_end : {l : Line} {p : Rule} → Opens (several l p) p
  catches_on : {p : Rule} → Opens (catches p) (token kinds.Catch (tree lines.Pattern (tree lines.Block (catches p))))
  catches_end : {p : Rule} → Opens (catches p) p
  exprs_semicolon : {p : Rule} → Opens (exprs p) (token kinds.Semicolon (exprs p))
  exprs_line_end : {p : Rule} → Opens (exprs p) (token kinds.LineEnd (exprs p))
  exprs_on : {p : Rule} → Opens (exprs p) (tree lines.Expr (exprs_more p))
  exprs_end : {p : Rule} → Opens (exprs p) p
  more_semicolon : {p : Rule} → Opens (exprs_more p) (token kinds.Semicolon (exprs p))
  more_line_end : {p : Rule} → Opens (exprs_more p) (token kinds.LineEnd (exprs p))
  more_end : {p : Rule} → Opens (exprs_more p) p
  members_semicolon : {p : Rule} → Opens (members p) (token kinds.Semicolon (members p))
  members_line_end : {p : Rule} → Opens (members p) (token kinds.LineEnd (members p))
  members_on : {p : Rule} → Opens (members p) (tree lines.Member (members p))
  members_end : {p : Rule} → Opens (members p) p

-- [ ':' guard ]
abbrev pub guarded : Rule → Rule
guarded p = either (token kinds.Colon (tree lines.Guard p)) p

-- [ 'implements' postfixes ]
abbrev pub audited : Rule → Rule
audited p = either (token kinds.Implements (tree lines.Postfix (several lines.Postfix p))) p

-- [ 'exit' or ] ':=' expr, in a context
abbrev pub valued : Line → Shape → Rule
valued l s = either (token kinds.Exit (tree lines.Or (token kinds.Assign (tree l (ends s))))) (token kinds.Assign (tree l (ends s)))

-- the same behind a noun or '_' that turns out to be a pattern
abbrev pub pattern_valued : Line → Shape → Rule → Rule
pattern_valued l s p = either (wraps kinds.Exit s (tree lines.Or (token kinds.Assign (tree l (ends shapes.Define))))) (either (wraps kinds.Assign s (tree l (ends shapes.Define))) p)

abbrev pub pattern_guarded : Line → Shape → Rule
pattern_guarded l s = tree lines.Guard (either (wraps kinds.Exit s (tree lines.Or (token kinds.Assign (tree l (ends shapes.Define))))) (wraps kinds.Assign s (tree l (ends shapes.Define))))

-- [ tree { ',' tree } ] with at most 255 trees, and what closes them
abbrev pub listed : Line → Rule → Rule
listed l p = either (tree l (upto most_more l p)) p

-- tree { ',' tree }, and what closes them
abbrev pub filled : Line → Rule → Rule
filled l p = tree l (upto most_more l p)

-- '(' expr ')'
abbrev pub parenthesis : Rule → Rule
parenthesis p = token kinds.OpenParen (tree lines.Expr (token kinds.CloseParen p))

-- [ 'catch' pattern block ]
abbrev pub caught : Shape → Rule
caught s = either (token kinds.Catch (tree lines.Pattern (tree lines.Block (ends s)))) (ends s)

-- '{' script '}' behind the '{'
abbrev pub script : Rule
script = members (token kinds.CloseBrace (ends shapes.DefineObject))

-- ['implements' postfixes] '{' script '}'
abbrev pub object_rule : Rule
object_rule = either (token kinds.Implements (tree lines.Postfix (several lines.Postfix (token kinds.OpenBrace script)))) (token kinds.OpenBrace script)

-- '(' [patterns] ')' [':' guard] ['implements' postfixes] block
abbrev pub function_rule : Rule
function_rule = token kinds.OpenParen (listed lines.Pattern (token kinds.CloseParen (guarded (audited (tree lines.Block (ends shapes.DefineFunction))))))

-- what stands behind 'def', in a line of expressions
abbrev pub def_rule : Line → Rule
def_rule l = either (tree lines.OtherPattern (valued l shapes.Define))
    (either (token kinds.Ignore (either (token kinds.Colon (pattern_guarded l shapes.AnyPattern)) (pattern_valued l shapes.AnyPattern object_rule)))
    (token kinds.Identifier (either (token kinds.Colon (pattern_guarded l shapes.FinalPattern)) (pattern_valued l shapes.FinalPattern (either function_rule object_rule)))))

-- what stands behind 'var', in a line of expressions: noun [':' guard] ['exit' or] ':=' expr
abbrev pub var_rule : Line → Rule
var_rule l = token kinds.Identifier (guarded (valued l shapes.DefineVar))

-- verb
abbrev pub verb : Rule → Rule
verb p = either (token kinds.Text p) (token kinds.Identifier p)

-- '(' [exprs] ')'
abbrev pub arguments : Shape → Rule
arguments s = token kinds.OpenParen (listed lines.Expr (token kinds.CloseParen (ends s)))

-- verb '(' [patterns] ')' [':' guard] block
abbrev pub member_rule : Shape → Rule
member_rule s = verb (token kinds.OpenParen (listed lines.Pattern (token kinds.CloseParen (guarded (tree lines.Block (ends s))))))

abbrev pub block_rule : Rule
block_rule = exprs (token kinds.CloseBrace (ends shapes.Block))

-- '(' expr ')' block [ 'else' (block | if) ]
abbrev pub if_rule : Rule
if_rule = parenthesis (tree lines.Block (either (token kinds.Else (tree lines.Branch (ends shapes.If))) (ends shapes.If)))

-- The alternatives of a line that begin with a token of their own, by that token: what stands behind it.
abbrev pub rule_at : Line → TokenKind → Option Rule
rule_at lines.Expr kinds.Return = Some (either (tree lines.Expr (ends shapes.Leave)) (stops shapes.Leave))
rule_at lines.Expr kinds.Break = Some (either (tree lines.Expr (ends shapes.Leave)) (stops shapes.Leave))
rule_at lines.Expr kinds.Continue = Some (either (tree lines.Expr (ends shapes.Leave)) (stops shapes.Leave))
rule_at lines.Expr kinds.Def = Some (def_rule lines.Expr)
rule_at lines.Expr kinds.Var = Some (var_rule lines.Expr)
rule_at lines.ExprBeforeBlock kinds.Return = Some (tree lines.ExprBeforeBlock (ends shapes.Leave))
rule_at lines.ExprBeforeBlock kinds.Break = Some (tree lines.ExprBeforeBlock (ends shapes.Leave))
rule_at lines.ExprBeforeBlock kinds.Continue = Some (tree lines.ExprBeforeBlock (ends shapes.Leave))
rule_at lines.ExprBeforeBlock kinds.Def = Some (def_rule lines.ExprBeforeBlock)
rule_at lines.ExprBeforeBlock kinds.Var = Some (var_rule lines.ExprBeforeBlock)
rule_at lines.Prefix kinds.Minus = Some (tree lines.Prefix (ends shapes.Prefix))
rule_at lines.Prefix kinds.Not = Some (tree lines.Prefix (ends shapes.Prefix))
rule_at lines.Prim kinds.Number = Some (ends shapes.Literal)
rule_at lines.Prim kinds.Text = Some (ends shapes.Literal)
rule_at lines.Prim kinds.Character = Some (ends shapes.Literal)
rule_at lines.Prim kinds.Identifier = Some (ends shapes.Noun)
rule_at lines.Prim kinds.OpenBracket = Some (listed lines.Expr (token kinds.CloseBracket (ends shapes.List)))
rule_at lines.Prim kinds.OpenParen = Some (tree lines.Expr (token kinds.CloseParen (ends shapes.Group)))
rule_at lines.Prim kinds.OpenBrace = Some block_rule
rule_at lines.Prim kinds.If = Some if_rule
rule_at lines.Prim kinds.While = Some (parenthesis (tree lines.Block (ends shapes.While)))
rule_at lines.Prim kinds.For = Some (tree lines.Pattern (either (token kinds.FatArrow (tree lines.Pattern (token kinds.In (tree lines.ExprBeforeBlock (tree lines.Block (ends shapes.For)))))) (token kinds.In (tree lines.ExprBeforeBlock (tree lines.Block (ends shapes.For))))))
rule_at lines.Prim kinds.Escape = Some (tree lines.Pattern (tree lines.Block (caught shapes.Escape)))
rule_at lines.Prim kinds.Try = Some (tree lines.Block (catches (either (token kinds.Finally (tree lines.Block (ends shapes.Try))) (ends shapes.Try))))
rule_at lines.Prim kinds.When = Some (parenthesis (token kinds.Arrow (tree lines.Block (caught shapes.When))))
rule_at lines.Prim kinds.Fn = Some (listed lines.Pattern (tree lines.Block (ends shapes.Function)))
rule_at lines.Block kinds.OpenBrace = Some block_rule
rule_at lines.Branch kinds.OpenBrace = Some block_rule
rule_at lines.Branch kinds.If = Some if_rule
rule_at lines.Pattern kinds.Ignore = Some (guarded (ends shapes.AnyPattern))
rule_at lines.Pattern kinds.Identifier = Some (guarded (ends shapes.FinalPattern))
rule_at lines.Pattern kinds.Var = Some (token kinds.Identifier (guarded (ends shapes.VarPattern)))
rule_at lines.Pattern kinds.OpenBracket = Some (listed lines.Pattern (token kinds.CloseBracket (ends shapes.ListPattern)))
rule_at lines.Pattern kinds.Via = Some (parenthesis (tree lines.Pattern (ends shapes.ViaPattern)))
rule_at lines.OtherPattern kinds.Var = Some (token kinds.Identifier (guarded (ends shapes.VarPattern)))
rule_at lines.OtherPattern kinds.OpenBracket = Some (listed lines.Pattern (token kinds.CloseBracket (ends shapes.ListPattern)))
rule_at lines.OtherPattern kinds.Via = Some (parenthesis (tree lines.Pattern (ends shapes.ViaPattern)))
rule_at lines.Guard kinds.Identifier = Some (either (token kinds.OpenBracket (filled lines.Expr (token kinds.CloseBracket (ends shapes.NounGuard)))) (ends shapes.NounGuard))
rule_at lines.Guard kinds.OpenParen = Some (tree lines.Expr (token kinds.CloseParen (ends shapes.ExprGuard)))
rule_at lines.Member kinds.To = Some (member_rule shapes.To)
rule_at lines.Member kinds.Method = Some (member_rule shapes.Method)
rule_at lines.Member kinds.Match = Some (tree lines.Pattern (tree lines.Block (ends shapes.Matcher)))
rule_at _ _ = None

-- an assignment to a noun or to an index form, its right side being of this line
abbrev pub assigned_rule : Line → Shape → Option Rule
assigned_rule l shapes.Noun = Some (tree l (ends shapes.Assign))
assigned_rule l shapes.Index = Some (tree l (ends shapes.AssignIndex))
assigned_rule l _ = None

abbrev pub changed_rule : Line → Shape → Option Rule
changed_rule l shapes.Noun = Some (tree l (ends shapes.Assign))
changed_rule l _ = None

abbrev pub becomes_rule : Line → Shape → TokenKind → Option Rule
becomes_rule l s kinds.Assign = assigned_rule l s
becomes_rule l s kinds.AddAssign = changed_rule l s
becomes_rule l s kinds.SubtractAssign = changed_rule l s
becomes_rule l s kinds.MultiplyAssign = changed_rule l s
becomes_rule l s kinds.FloorDivideAssign = changed_rule l s
becomes_rule l s kinds.RemainderAssign = changed_rule l s
becomes_rule l s kinds.ModAssign = changed_rule l s
becomes_rule l s kinds.PowAssign = changed_rule l s
becomes_rule l s kinds.AndAssign = changed_rule l s
becomes_rule l s kinds.OrAssign = changed_rule l s
becomes_rule l s kinds.XorAssign = changed_rule l s
becomes_rule l s _ = None

-- What goes on behind a tree of this shape: the operators, postfixes and assignments of the lines, by their token.
abbrev pub more_rule : Tail → Shape → TokenKind → Option Rule
more_rule tails.Becomes s k = becomes_rule lines.Expr s k
more_rule tails.BecomesBeforeBlock s k = becomes_rule lines.ExprBeforeBlock s k
more_rule tails.Ors s kinds.LogicalOr = Some (tree lines.And (ends shapes.Binary))
more_rule tails.Ands s kinds.LogicalAnd = Some (tree lines.Equality (ends shapes.Binary))
more_rule tails.Equality s kinds.Same = Some (tree lines.Bits (ends shapes.Binary))
more_rule tails.Equality s kinds.NotSame = Some (tree lines.Bits (ends shapes.Binary))
more_rule tails.Equality s kinds.Matches = Some (tree lines.Pattern (ends shapes.MatchBind))
more_rule tails.Bits s kinds.And = Some (tree lines.Relation (ends shapes.Binary))
more_rule tails.Bits s kinds.Or = Some (tree lines.Relation (ends shapes.Binary))
more_rule tails.Bits s kinds.Xor = Some (tree lines.Relation (ends shapes.Binary))
more_rule tails.Relation s kinds.Less = Some (tree lines.Range (ends shapes.Binary))
more_rule tails.Relation s kinds.AtMost = Some (tree lines.Range (ends shapes.Binary))
more_rule tails.Relation s kinds.AsBigAs = Some (tree lines.Range (ends shapes.Binary))
more_rule tails.Relation s kinds.AtLeast = Some (tree lines.Range (ends shapes.Binary))
more_rule tails.Relation s kinds.Greater = Some (tree lines.Range (ends shapes.Binary))
more_rule tails.Range s kinds.Through = Some (tree lines.Sum (ends shapes.Binary))
more_rule tails.Range s kinds.Till = Some (tree lines.Sum (ends shapes.Binary))
more_rule tails.Sums s kinds.Plus = Some (tree lines.Product (ends shapes.Binary))
more_rule tails.Sums s kinds.Minus = Some (tree lines.Product (ends shapes.Binary))
more_rule tails.Products s kinds.Times = Some (tree lines.Power (ends shapes.Binary))
more_rule tails.Products s kinds.FloorDivide = Some (tree lines.Power (ends shapes.Binary))
more_rule tails.Products s kinds.Remainder = Some (tree lines.Power (ends shapes.Binary))
more_rule tails.Products s kinds.Mod = Some (tree lines.Power (ends shapes.Binary))
more_rule tails.Power s kinds.Pow = Some (tree lines.Prefix (ends shapes.Binary))
more_rule tails.Suffixes s kinds.OpenParen = Some (listed lines.Expr (token kinds.CloseParen (ends shapes.Call)))
more_rule tails.Suffixes s kinds.OpenBracket = Some (filled lines.Expr (token kinds.CloseBracket (ends shapes.Index)))
more_rule tails.Suffixes s kinds.Dot = Some (verb (arguments shapes.VerbCall))
more_rule tails.Suffixes s kinds.Send = Some (either (token kinds.Text (arguments shapes.Send)) (either (token kinds.Identifier (arguments shapes.Send)) (arguments shapes.Send)))
more_rule _ _ _ = None

-- what is being read
pub data Aim : Type 0 where
  -- a tree of this line
  line : Line → Aim
  -- what may follow this tree
  tail : Tail → Tree → Aim
  -- the rest of a node by this rule, which began with this token, and has these parts so far
  rest : Rule → Word → Trees → Aim

-- Reads g ts w us: the tokens ts up to us spell w, read as g.
pub data Reads : Aim → List Word → Tree → List Word → Type 0 where
  -- an alternative that begins with its own token
  form : {l : Line} {t : Word} {p : Rule} {w : Tree} {ts us : List Word} → rule_at l t.kind ≡ Some p → Reads (rest p t none) ts w us → Reads (line l) (t ∷ ts) w us
  -- a tree of another line, and what follows it
  tower : {l m : Line} {c : Tail} {v w : Tree} {ts mid us : List Word} → tower_of l ≡ Some (m, c) → Reads (line m) ts v mid → Reads (tail c v) mid w us → Reads (line l) ts w us
  stays : {c : Tail} {v : Tree} {ts : List Word} → Reads (tail c v) ts v ts
  goes : {c : Tail} {t : Word} {p : Rule} {v u w : Tree} {ts mid us : List Word} → more_rule c (shape_of v) t.kind ≡ Some p → Reads (rest p (word_of v) (begun c v t)) ts u mid → Reads (tail (again c) u) mid w us → Reads (tail c v) (t ∷ ts) w us
  at_end : {s : Shape} {f : Word} {fs : Trees} {ts : List Word} → Reads (rest (ends s) f fs) ts (node s f fs) ts
  at_stop : {s : Shape} {f : Word} {fs : Trees} {ts : List Word} → IsStop ts → Reads (rest (stops s) f fs) ts (node s f fs) ts
  takes : {k : TokenKind} {p : Rule} {t f : Word} {fs : Trees} {w : Tree} {ts us : List Word} → t.kind ≡ k → Reads (rest p f (leaf fs t)) ts w us → Reads (rest (token k p) f fs) (t ∷ ts) w us
  reads : {l : Line} {p : Rule} {f : Word} {fs : Trees} {v w : Tree} {ts mid us : List Word} → Reads (line l) ts v mid → Reads (rest p f (more fs v)) mid w us → Reads (rest (tree l p) f fs) ts w us
  groups : {k : TokenKind} {s : Shape} {p : Rule} {t f : Word} {fs : Trees} {w : Tree} {ts us : List Word} → t.kind ≡ k → Reads (rest p f (leaf (wrapped s fs) t)) ts w us → Reads (rest (wraps k s p) f fs) (t ∷ ts) w us
  opens : {p q : Rule} {f : Word} {fs : Trees} {w : Tree} {ts us : List Word} → Opens p q → Reads (rest q f fs) ts w us → Reads (rest p f fs) ts w us

-- program = seq: by the lines the tokens spell the tree of a program.
abbrev pub LinesSpell : Tree → List Word → Type 0
LinesSpell w ts = Reads (rest (exprs (ends shapes.Program)) no_word none) ts w []

-- Law: the lines spell what the table of places spells.
abbrev pub LinesArePlaces : Type 0
LinesArePlaces = (ts : List Word) (w : Tree) → LinesSpell w ts ↔ SpellsProgram w ts
