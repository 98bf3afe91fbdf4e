-- How high a tree is, and how low a tree can be that begins with some tokens.
use Rattle.std.specs.Prelude.{ℕ, suc, List, [], ◌∷◌, ◌++◌, cond, ◌+◌, ◌≤◌, ◌<◌, max, Option, Some, None, nat_lt, take, length}
use Rattle.def_syntax.specs.declared.syntax.Word.{Word}
use Rattle.def_syntax.specs.declared.syntax.Shape.{Shape}
use Rattle.def_syntax.specs.declared.syntax.Shape.TheVariants as shapes
use Rattle.def_syntax.specs.declared.syntax.Line.{Line}
use Rattle.def_syntax.specs.declared.syntax.Line.TheVariants as lines
use Rattle.def_syntax.specs.declared.place.Place.{Place}
use Rattle.def_syntax.specs.declared.place.Place.TheVariants as places
use Rattle.def_syntax.specs.declared.place.Series.{Series}
use Rattle.def_syntax.specs.declared.place.Series.TheVariants as series
use Rattle.def_syntax.specs.declared.place.Head.{Head}
use Rattle.def_syntax.specs.declared.place.Head.TheVariants as heads
use Rattle.def_syntax.specs.Grammar.{Tree, Trees, node, none, more, leaf, SpellsProgram}
use Rattle.def_syntax.specs.Machine.{Frame, within, after, State, at, step, finish, started}

-- a node counts one, but for the program itself
abbrev pub weight : Shape → ℕ
weight shapes.Program = 0
weight _ = 1

abbrev mutual
  pub height : Tree → ℕ
  height (node s t ts) = weight s + tallest ts

  pub tallest : Trees → ℕ
  tallest none = 0
  tallest (more ts t) = max (tallest ts) (height t)
  tallest (leaf ts t) = tallest ts

-- the weight of the node that is read at a place
abbrev pub base : Place → ℕ
base places.Program = 0
base places.ProgramMore = 0
base (places.Done s) = weight s
base (places.Last l s) = weight s
base (places.PatternGuard s) = weight s
base _ = 1

-- the height of the lowest tree of a line
abbrev pub lowest_of : Line → ℕ
lowest_of lines.Member = 2
lowest_of _ = 1

-- the height that what closes a list has at least
abbrev pub closing_need : Series → ℕ
closing_need series.Parameters = 1
closing_need series.FunctionParameters = 1
closing_need series.ToParameters = 1
closing_need series.MethodParameters = 1
closing_need _ = 0

-- the height that what comes behind the `)` of a form has at least
abbrev pub behind_need : Head → ℕ
behind_need heads.Group = 0
behind_need heads.Guard = 0
behind_need _ = 1

-- the height that the parts to come have at least
abbrev pub need : Place → ℕ
need (places.Done s) = 0
need (places.Last l s) = lowest_of l
need places.Program = 0
need places.ProgramMore = 0
need places.Block = 0
need places.BlockMore = 0
need places.Leave = 0
need (places.First x) = closing_need x
need (places.More n x) = closing_need x
need (places.Close h) = behind_need h
need places.IfElse = 0
need (places.Caught e) = 0
need places.TryMore = 0
need places.Verb = 0
need places.VerbOpen = 0
need places.Send = 0
need places.SendOpen = 0
need (places.Def c) = 0
need (places.Name c x) = 0
need (places.NameGuard c x) = 2
need places.AuditorMore = 0
need places.Script = 0
need (places.PatternGuard s) = 0
need places.VarPattern = 0
need places.NounGuard = 0
need _ = 1

-- whether the parts so far have to be a part of a part
abbrev pub lift : Place → ℕ
lift (places.NameGuard c x) = 1
lift (places.NameGuarded c x) = 1
lift _ = 0

-- the node's height at least, with parts of this height so far
abbrev pub low : Place → ℕ → ℕ
low q h = base q + max (h + lift q) (need q)

unfoldable pub low_frames : List Frame → ℕ → ℕ
low_frames [] h = h
low_frames (within q f fs ∷ frs) h = low_frames frs (low q (max (tallest fs) h))
low_frames (after c ∷ frs) h = low_frames frs h

-- The height of each tree that a continuation spells is this or more, and for one it is this.
abbrev pub least : State → ℕ
least (at q f fs frs) = low_frames frs (low q (tallest fs))

abbrev pub most_height : ℕ
most_height = 60

pub data Answer : Type 0 where
  tree : Tree → Answer
  no_spelling : ℕ → Answer
  too_nested : ℕ → Answer

-- the first token behind which no tree is low enough, if there is one so far
abbrev pub noted : Option ℕ → ℕ → State → Option ℕ
noted (Some k) n s = Some k
noted None n s = cond (nat_lt most_height (least s)) (Some n) None

abbrev pub closed : Option ℕ → Tree → Answer
closed None w = tree w
closed (Some k) w = too_nested k

abbrev pub ended_with : Option Tree → ℕ → Option ℕ → Answer
ended_with None n d = no_spelling n
ended_with (Some w) n d = closed d w

abbrev pub onward : Option State → ℕ → (State → Answer) → Answer
onward None n on = no_spelling n
onward (Some s) n on = on s

unfoldable pub answer_from : List Word → ℕ → Option ℕ → State → Answer
answer_from [] n d s = ended_with (finish s) n d
answer_from (t ∷ ts) n d s = onward (step s t) n (λ s'. answer_from ts (suc n) (noted d n s') s')

abbrev pub answer : List Word → Answer
answer ts = answer_from ts 0 None started

-- some continuation spells a tree that is not too high
abbrev pub IsLow : List Word → Type 0
IsLow ts = (rest : List Word) × (w : Tree) × SpellsProgram w (ts ++ rest) × (height w ≤ most_height)

-- the first token behind which each tree that a continuation spells is too high
pub record IsFirstHigh (ts : List Word) (k : ℕ) : Type 0 where
  pub within : k < length ts
  pub before : IsLow (take k ts)
  pub at : IsLow (take (suc k) ts) → ⊥
