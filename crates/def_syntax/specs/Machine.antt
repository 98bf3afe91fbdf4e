-- The machine: an explicit stack, one step for each token.
use Rattle.std.specs.Prelude.{◌≡◌, ℕ, suc, List, [], ◌∷◌, ◌++◌, Bool, cond, Option, Some, None, is_some}
use Rattle.def_syntax.specs.declared.token.TokenKind.{TokenKind}
use Rattle.def_syntax.specs.declared.syntax.Word.{Word}
use Rattle.def_syntax.specs.declared.syntax.Line.{Line}
use Rattle.def_syntax.specs.declared.syntax.Line.TheVariants as lines
use Rattle.def_syntax.specs.declared.syntax.Tail.{Tail}
use Rattle.def_syntax.specs.declared.syntax.Tail.TheVariants as tails
use Rattle.def_syntax.specs.declared.place.Place.{Place}
use Rattle.def_syntax.specs.declared.place.Place.TheVariants as places
use Rattle.def_syntax.specs.declared.place.Move.{Move}
use Rattle.def_syntax.specs.declared.place.Move.TheVariants.{Takes, Reads, Wraps}
use Rattle.def_syntax.specs.declared.place.Ending.{Ending}
use Rattle.def_syntax.specs.declared.place.Ending.TheVariants.{Never, Ends, BeforeStop}
use Rattle.def_syntax.specs.Kinds.{same}
use Rattle.def_syntax.specs.Grammar.{Tree, Trees, node, none, more, leaf, moves, ending, form_at, shape_of, word_of, more_at, again, begun, is_stop, wrapped, no_word, Goal, tail, inside, Spells}

-- what waits for a tree: the rest of a node, or what may follow the tree
pub data Frame : Type 0 where
  within : Place → Word → Trees → Frame
  after : Tail → Frame

abbrev pub Begun : Type 0
Begun = Option (Place × List Frame)

abbrev pub choose : Option Place → Begun → Begun
choose (Some q) other = Some (q, [])
choose None other = other

abbrev pub under : Tail → Begun → Begun
under c None = None
under c (Some b) = Some (b.0, b.1 ++ after c ∷ [])

abbrev pub begin_prim : TokenKind → Begun
begin_prim k = choose (form_at lines.Prim k) None

abbrev pub begin_postfix : TokenKind → Begun
begin_postfix k = choose (form_at lines.Postfix k) (under tails.Suffixes (begin_prim k))

abbrev pub begin_prefix : TokenKind → Begun
begin_prefix k = choose (form_at lines.Prefix k) (under tails.Nothing (begin_postfix k))

abbrev pub begin_power : TokenKind → Begun
begin_power k = choose (form_at lines.Power k) (under tails.Power (begin_prefix k))

abbrev pub begin_product : TokenKind → Begun
begin_product k = choose (form_at lines.Product k) (under tails.Products (begin_power k))

abbrev pub begin_sum : TokenKind → Begun
begin_sum k = choose (form_at lines.Sum k) (under tails.Sums (begin_product k))

abbrev pub begin_range : TokenKind → Begun
begin_range k = choose (form_at lines.Range k) (under tails.Range (begin_sum k))

abbrev pub begin_relation : TokenKind → Begun
begin_relation k = choose (form_at lines.Relation k) (under tails.Relation (begin_range k))

abbrev pub begin_bits : TokenKind → Begun
begin_bits k = choose (form_at lines.Bits k) (under tails.Bits (begin_relation k))

abbrev pub begin_equality : TokenKind → Begun
begin_equality k = choose (form_at lines.Equality k) (under tails.Equality (begin_bits k))

abbrev pub begin_and : TokenKind → Begun
begin_and k = choose (form_at lines.And k) (under tails.Ands (begin_equality k))

abbrev pub begin_or : TokenKind → Begun
begin_or k = choose (form_at lines.Or k) (under tails.Ors (begin_and k))

-- what a token begins a line with: the place behind that token, and the frames round the node
unfoldable pub begin : Line → TokenKind → Begun
begin lines.Expr k = choose (form_at lines.Expr k) (under tails.Becomes (begin_or k))
begin lines.ExprBeforeBlock k = choose (form_at lines.ExprBeforeBlock k) (under tails.BecomesBeforeBlock (begin_or k))
begin lines.Or k = begin_or k
begin lines.And k = begin_and k
begin lines.Equality k = begin_equality k
begin lines.Bits k = begin_bits k
begin lines.Relation k = begin_relation k
begin lines.Range k = begin_range k
begin lines.Sum k = begin_sum k
begin lines.Product k = begin_product k
begin lines.Power k = begin_power k
begin lines.Prefix k = begin_prefix k
begin lines.Postfix k = begin_postfix k
begin lines.Prim k = begin_prim k
begin lines.Block k = choose (form_at lines.Block k) None
begin lines.Branch k = choose (form_at lines.Branch k) None
begin lines.Pattern k = choose (form_at lines.Pattern k) None
begin lines.OtherPattern k = choose (form_at lines.OtherPattern k) None
begin lines.Guard k = choose (form_at lines.Guard k) None
begin lines.Member k = choose (form_at lines.Member k) None

-- whether a token of this kind begins what a move reads
abbrev pub accepts : Move → TokenKind → Bool
accepts (Takes j r) k = same k j
accepts (Reads l r) k = is_some (begin l k)
accepts (Wraps j s r) k = same k j

-- the first move that a token begins
abbrev pub pick : List Move → TokenKind → Option Move
pick [] k = None
pick (m ∷ ms) k = cond (accepts m k) (Some m) (pick ms k)

pub data Outcome : Type 0 where
  moved : Place → Word → Trees → List Frame → Outcome
  ended : Tree → Outcome
  stuck : Outcome

abbrev pub opened : Begun → Word → Frame → Outcome
opened None t fr = stuck
opened (Some b) t fr = moved b.0 t none (b.1 ++ fr ∷ [])

abbrev pub ends_before : Ending → Word → Trees → Word → Outcome
ends_before Never f fs t = stuck
ends_before (Ends s) f fs t = ended (node s f fs)
ends_before (BeforeStop s) f fs t = cond (is_stop t.kind) (ended (node s f fs)) stuck

abbrev pub follow_move : Option Move → Ending → Word → Trees → Word → Outcome
follow_move None e f fs t = ends_before e f fs t
follow_move (Some (Takes k r)) e f fs t = moved r f (leaf fs t) []
follow_move (Some (Reads l r)) e f fs t = opened (begin l t.kind) t (within r f fs)
follow_move (Some (Wraps k s r)) e f fs t = moved r f (leaf (wrapped s fs) t) []

-- a token in the rest of a node
unfoldable pub step_in : Place → Word → Trees → Word → Outcome
step_in q f fs t = follow_move (pick (moves q) t.kind) (ending q) f fs t

abbrev pub tail_step : Option Place → Tail → Tree → Word → Outcome
tail_step (Some q) c v t = moved q (word_of v) (begun c v t) (after (again c) ∷ [])
tail_step None c v t = ended v

abbrev pub step_frame : Frame → Tree → Word → Outcome
step_frame (within q f fs) v t = step_in q f (more fs v) t
step_frame (after c) v t = tail_step (more_at c (shape_of v) t.kind) c v t

-- where the machine stands: in the rest of a node, and what waits for it
pub data State : Type 0 where
  at : Place → Word → Trees → List Frame → State

abbrev pub settle : Outcome → List Frame → (Tree → Option State) → Option State
settle (moved q f fs pushed) frs on = Some (at q f fs (pushed ++ frs))
settle (ended u) frs on = on u
settle stuck frs on = None

-- the token behind a tree
unfoldable pub pop : List Frame → Tree → Word → Option State
pop [] v t = None
pop (fr ∷ frs) v t = settle (step_frame fr v t) frs (λ u. pop frs u t)

unfoldable pub step : State → Word → Option State
step (at q f fs frs) t = settle (step_in q f fs t) frs (λ u. pop frs u t)

abbrev pub started : State
started = at places.Program no_word none []

-- the end of the tokens
abbrev pub end_in : Ending → Word → Trees → Option Tree
end_in Never f fs = None
end_in (Ends s) f fs = Some (node s f fs)
end_in (BeforeStop s) f fs = Some (node s f fs)

abbrev pub end_frame : Frame → Tree → Option Tree
end_frame (within q f fs) v = end_in (ending q) f (more fs v)
end_frame (after c) v = Some v

abbrev pub and_then : Option Tree → (Tree → Option Tree) → Option Tree
and_then None on = None
and_then (Some v) on = on v

unfoldable pub end_frames : List Frame → Tree → Option Tree
end_frames [] v = Some v
end_frames (fr ∷ frs) v = and_then (end_frame fr v) (λ u. end_frames frs u)

unfoldable pub finish : State → Option Tree
finish (at q f fs frs) = and_then (end_in (ending q) f fs) (λ u. end_frames frs u)

-- What the machine says of some tokens, from a state: the tree, or the number of the first token that cannot follow.
pub data Verdict : Type 0 where
  tree : Tree → Verdict
  fails : ℕ → Verdict

abbrev pub at_end : Option Tree → ℕ → Verdict
at_end (Some w) n = tree w
at_end None n = fails n

abbrev pub go_on : Option State → ℕ → (State → Verdict) → Verdict
go_on None n on = fails n
go_on (Some s) n on = on s

-- n is the number of the first of the tokens
unfoldable pub run : List Word → ℕ → State → Verdict
run [] n s = at_end (finish s) n
run (t ∷ ts) n s = go_on (step s t) n (λ s'. run ts (suc n) s')

-- how a tree goes on in a frame
abbrev pub goal_of : Frame → Tree → Goal
goal_of (within q f fs) v = inside q f (more fs v)
goal_of (after c) v = tail c v

-- The frames, with this tree in the topmost, spell the tokens up to rest.
abbrev pub Through : List Frame → Tree → List Word → Tree → List Word → Type 0
Through [] v ts w rest = (v ≡ w) × (ts ≡ rest)
Through (fr ∷ frs) v ts w rest = (u : Tree) × (mid : List Word) × Spells (goal_of fr v) ts u mid × Through frs u mid w rest

-- From here on the tokens spell the rest of the tree.
abbrev pub Completes : State → List Word → Tree → Type 0
Completes (at q f fs frs) ts w = (u : Tree) × (mid : List Word) × Spells (inside q f fs) ts u mid × Through frs u mid w []
