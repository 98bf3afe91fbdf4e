-- The lines with no difference between an expression and one before a block.
use Rattle.std.specs.Prelude.{◌≡◌, List, [], ◌∷◌, Option, Some, None, ◌↔◌}
use Rattle.def_syntax.specs.declared.token.TokenKind.{TokenKind}
use Rattle.def_syntax.specs.declared.syntax.Word.{Word}
use Rattle.def_syntax.specs.declared.syntax.Shape.{Shape}
use Rattle.def_syntax.specs.declared.syntax.Shape.TheVariants as shapes
use Rattle.def_syntax.specs.declared.syntax.Line.{Line}
use Rattle.def_syntax.specs.declared.syntax.Line.TheVariants as lines
use Rattle.def_syntax.specs.declared.syntax.Tail.{Tail}
use Rattle.def_syntax.specs.declared.syntax.Tail.TheVariants as tails
use Rattle.def_syntax.specs.Grammar.{Tree, Trees, node, none, more, leaf, tower_of, shape_of, word_of, again, begun, IsStop, wrapped, no_word, SpellsProgram}
use Rattle.law_reading.specs.Grammar.Lines.{Rule, ends, stops, token, tree, wraps, either, upto, several, catches, exprs, exprs_more, members, Opens, rule_at, more_rule, Aim, line, tail, rest}

-- the line, where an expression before a block is an expression
abbrev pub plain_line : Line → Line
plain_line lines.ExprBeforeBlock = lines.Expr
plain_line l = l

-- the rule, where an expression before a block is an expression
abbrev pub plain : Rule → Rule
plain (ends s) = ends s
plain (stops s) = stops s
plain (token k p) = token k (plain p)
plain (tree l p) = tree (plain_line l) (plain p)
plain (wraps k s p) = wraps k s (plain p)
plain (either p q) = either (plain p) (plain q)
plain (upto n l p) = upto n (plain_line l) (plain p)
plain (several l p) = several (plain_line l) (plain p)
plain (catches p) = catches (plain p)
plain (exprs p) = exprs (plain p)
plain (exprs_more p) = exprs_more (plain p)
plain (members p) = members (plain p)

abbrev pub plain_of : Option Rule → Option Rule
plain_of None = None
plain_of (Some p) = Some (plain p)

-- The alternatives of each line, by their first token. There is no line for an expression before a block.
abbrev pub plain_at : Line → TokenKind → Option Rule
plain_at lines.ExprBeforeBlock k = None
plain_at l k = plain_of (rule_at l k)

abbrev pub plain_tower : Line → Option (Line × Tail)
plain_tower lines.ExprBeforeBlock = None
plain_tower l = tower_of l

-- what goes on behind a tree
abbrev pub plain_more : Tail → Shape → TokenKind → Option Rule
plain_more tails.BecomesBeforeBlock s k = None
plain_more c s k = plain_of (more_rule c s k)

-- Plain g ts w us: the tokens ts up to us spell w, read as g.
pub data Plain : Aim → List Word → Tree → List Word → Type 0 where
  form : {l : Line} {t : Word} {p : Rule} {w : Tree} {ts us : List Word} → plain_at l t.kind ≡ Some p → Plain (rest p t none) ts w us → Plain (line l) (t ∷ ts) w us
  tower : {l m : Line} {c : Tail} {v w : Tree} {ts mid us : List Word} → plain_tower l ≡ Some (m, c) → Plain (line m) ts v mid → Plain (tail c v) mid w us → Plain (line l) ts w us
  stays : {c : Tail} {v : Tree} {ts : List Word} → Plain (tail c v) ts v ts
  goes : {c : Tail} {t : Word} {p : Rule} {v u w : Tree} {ts mid us : List Word} → plain_more c (shape_of v) t.kind ≡ Some p → Plain (rest p (word_of v) (begun c v t)) ts u mid → Plain (tail (again c) u) mid w us → Plain (tail c v) (t ∷ ts) w us
  at_end : {s : Shape} {f : Word} {fs : Trees} {ts : List Word} → Plain (rest (ends s) f fs) ts (node s f fs) ts
  at_stop : {s : Shape} {f : Word} {fs : Trees} {ts : List Word} → IsStop ts → Plain (rest (stops s) f fs) ts (node s f fs) ts
  takes : {k : TokenKind} {p : Rule} {t f : Word} {fs : Trees} {w : Tree} {ts us : List Word} → t.kind ≡ k → Plain (rest p f (leaf fs t)) ts w us → Plain (rest (token k p) f fs) (t ∷ ts) w us
  reads : {l : Line} {p : Rule} {f : Word} {fs : Trees} {v w : Tree} {ts mid us : List Word} → Plain (line l) ts v mid → Plain (rest p f (more fs v)) mid w us → Plain (rest (tree l p) f fs) ts w us
  groups : {k : TokenKind} {s : Shape} {p : Rule} {t f : Word} {fs : Trees} {w : Tree} {ts us : List Word} → t.kind ≡ k → Plain (rest p f (leaf (wrapped s fs) t)) ts w us → Plain (rest (wraps k s p) f fs) (t ∷ ts) w us
  opens : {p q : Rule} {f : Word} {fs : Trees} {w : Tree} {ts us : List Word} → Opens p q → Plain (rest q f fs) ts w us → Plain (rest p f fs) ts w us

-- The tokens spell the tree of a program.
abbrev pub PlainSpell : Tree → List Word → Type 0
PlainSpell w ts = Plain (rest (exprs (ends shapes.Program)) no_word none) ts w []

-- Law: the plain lines spell what the table of places spells.
abbrev pub PlainIsPlaces : Type 0
PlainIsPlaces = (ts : List Word) (w : Tree) → PlainSpell w ts ↔ SpellsProgram w ts
