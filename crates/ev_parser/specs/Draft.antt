-- What the code's nodes and frames stand for.
use Rattle.std.specs.Prelude.{◌≡◌, ◌<◌, ℕ, List, [], ◌∷◌, ◌++◌, Option, Some, None, slice_get, length, ◌+◌, ◌*◌, max, cond}
use Rattle.def_syntax.specs.declared.syntax.Word.{Word}
use Rattle.def_syntax.specs.declared.syntax.Shape.{Shape}
use Rattle.def_syntax.specs.declared.syntax.Tail.{Tail}
use Rattle.def_syntax.specs.declared.syntax.Tail.TheVariants as tails
use Rattle.def_syntax.specs.declared.place.Place.{Place}
use Rattle.ev_parser.specs.declared.draft.Part.{Part}
use Rattle.ev_parser.specs.declared.draft.Part.TheVariants as piece
use Rattle.ev_parser.specs.declared.draft.Node.{Node}
use Rattle.ev_parser.specs.declared.draft.Stand.{Stand}
use Rattle.ev_parser.specs.declared.draft.Waiting.{Waiting}
use Rattle.ev_parser.specs.declared.draft.Waiting.TheVariants as waits
use Rattle.ev_parser.specs.declared.draft.Turn.{Turn}
use Rattle.ev_parser.specs.declared.draft.Turn.TheVariants as turns
use Rattle.def_syntax.specs.declared.token.TokenKind.{TokenKind}
use Rattle.def_syntax.specs.declared.syntax.Line.{Line}
use Rattle.def_syntax.specs.declared.place.Ending.{Ending}
use Rattle.def_syntax.specs.declared.place.Ending.TheVariants as endings
use Rattle.def_syntax.specs.Grammar.{Tree, Trees, node, none, more, leaf, no_word, is_stop}
use Rattle.def_syntax.specs.Machine.{Frame, within, after, Begun, begin, State, at, step, pop, finish, end_frames}
use Rattle.def_syntax.specs.Heights.{weight, tallest, low}
use Rattle.ev_parse_table.specs.Table.{capped}

-- the trees among these parts stand before that place
abbrev pub StandBefore : ℕ → List Part → Type 0
StandBefore i [] = Unit {0}
StandBefore i (piece.Token t ∷ is) = StandBefore i is
StandBefore i (piece.Tree j ∷ is) = (j < i) × StandBefore i is

-- the node at this place is the root of this tree, and each node stands behind its parts
abbrev mutual
  pub Shows : List Node → ℕ → Tree → Type 0
  Shows ns i (node s t ts) = (n : Node) × (slice_get ns i ≡ Some n) × (n.shape ≡ s) × (n.first ≡ t) × ShowsAll ns n.parts.items ts × (n.tallest ≡ capped (tallest ts)) × StandBefore i n.parts.items

  pub ShowsAll : List Node → List Part → Trees → Type 0
  ShowsAll ns is none = is ≡ []
  ShowsAll ns is (more ts t) = (js : List Part) × (i : ℕ) × (is ≡ js ++ piece.Tree i ∷ []) × ShowsAll ns js ts × Shows ns i t
  ShowsAll ns is (leaf ts t) = (js : List Part) × (is ≡ js ++ piece.Token t ∷ []) × ShowsAll ns js ts

abbrev pub ShowsStand : List Node → Stand → Place → Word → Trees → Type 0
ShowsStand ns st q f fs = (st.place ≡ q) × (st.first ≡ f) × ShowsAll ns st.parts.items fs × (st.tallest ≡ capped (tallest fs))

abbrev pub ShowsFrame : List Node → Waiting → Frame → Type 0
ShowsFrame ns (waits.Inside st) (within q f fs) = ShowsStand ns st q f fs
ShowsFrame ns (waits.After c) (after d) = c ≡ d
ShowsFrame ns (waits.Inside st) (after d) = ⊥
ShowsFrame ns (waits.After c) (within q f fs) = ⊥

-- the code has the topmost frame at the end
abbrev pub ShowsFrames : List Node → List Waiting → List Frame → Type 0
ShowsFrames ns ws [] = ws ≡ []
ShowsFrames ns ws (fr ∷ frs) = (below : List Waiting) × (w : Waiting) × (ws ≡ below ++ w ∷ []) × ShowsFrame ns w fr × ShowsFrames ns below frs

abbrev pub ShowsState : List Node → List Waiting → Stand → State → Type 0
ShowsState ns ws st (at q f fs frs) = ShowsStand ns st q f fs × ShowsFrames ns ws frs

-- what a line was opened by
abbrev pub Opened : Begun → Option Place → List Waiting → List Waiting → Type 0
Opened None None old new = Unit {0}
Opened (Some b) (Some q) old new = (q ≡ b.0) × ((ns : List Node) (frs : List Frame) → ShowsFrames ns old frs → ShowsFrames ns new (b.1 ++ frs))
Opened None (Some q) old new = ⊥
Opened (Some b) None old new = ⊥

-- where a turn stands, the machine comes to o by this token
abbrev pub Comes : List Node → List Waiting → Word → Option State → Turn → Type 0
Comes ns ws t o (turns.At st) = (s : State) × ShowsState ns ws st s × (step s t ≡ o)
Comes ns ws t o (turns.Have i) = (v : Tree) × (frs : List Frame) × Shows ns i v × ShowsFrames ns ws frs × (pop frs v t ≡ o)
Comes ns ws t o (turns.Moved st) = (s : State) × ShowsState ns ws st s × (Some s ≡ o)
Comes ns ws t o turns.Failed = None ≡ o

-- what a step comes to
abbrev pub Came : List Node → List Waiting → Word → Option State → Option Stand → Type 0
Came ns ws t o None = None ≡ o
Came ns ws t o (Some st) = (s : State) × ShowsState ns ws st s × (Some s ≡ o)

-- the stand with one more token
abbrev pub IsTaken : Stand → Place → Word → Stand → Type 0
IsTaken st q t r = (r.place ≡ q) × (r.first ≡ st.first) × (r.parts.items ≡ st.parts.items ++ piece.Token t ∷ []) × (r.tallest ≡ st.tallest)

-- the stand with one more tree
abbrev pub IsPut : List Node → Stand → ℕ → Turn → Type 0
IsPut ns st i (turns.At r) = (n : Node) × (slice_get ns i ≡ Some n) × (r.place ≡ st.place) × (r.first ≡ st.first) × (r.parts.items ≡ st.parts.items ++ piece.Tree i ∷ []) × (r.tallest ≡ max st.tallest (capped (weight n.shape + n.tallest)))
IsPut ns st i turns.Failed = slice_get ns i ≡ None
IsPut ns st i (turns.Have j) = ⊥
IsPut ns st i (turns.Moved r) = ⊥

-- the first part, where that is a token
abbrev pub lead_part : List Part → Word
lead_part [] = no_word
lead_part (piece.Token t ∷ ps) = t
lead_part (piece.Tree i ∷ ps) = no_word

-- the node that ends a stand
abbrev pub IsNode : Shape → Word → Stand → Node → Type 0
IsNode s f st n = (n.shape ≡ s) × (n.first ≡ f) × (n.parts ≡ st.parts) × (n.tallest ≡ st.tallest)

-- the nodes with one more, and its number
abbrev pub IsAdded : List Node → List Node → Shape → Word → Stand → ℕ → Type 0
IsAdded ns ms s f st i = (n : Node) × IsNode s f st n × (ms ≡ ns ++ n ∷ []) × (i ≡ length ns)

-- the stand whose parts are one node, and a token
abbrev pub IsWrapped : ℕ → Word → ℕ → Shape → Place → Word → Stand → Type 0
IsWrapped i f h s q t r = (r.place ≡ q) × (r.first ≡ f) × (r.parts.items ≡ piece.Tree i ∷ piece.Token t ∷ []) × (r.tallest ≡ capped (weight s + h))

-- the parts of a node, and a token
abbrev pub IsCopied : Node → Word → List Part → Type 0
IsCopied n t is = is ≡ n.parts.items ++ piece.Token t ∷ []

-- the first parts of the node behind a tree, and their height
abbrev pub IsBegun : Tail → ℕ → Node → Word → List Part → Type 0
IsBegun tails.Becomes i n t is = is ≡ n.parts.items ++ piece.Token t ∷ []
IsBegun tails.BecomesBeforeBlock i n t is = is ≡ n.parts.items ++ piece.Token t ∷ []
IsBegun _ i n t is = is ≡ piece.Tree i ∷ piece.Token t ∷ []

abbrev pub begun_height : Tail → Node → ℕ
begun_height tails.Becomes n = n.tallest
begun_height tails.BecomesBeforeBlock n = n.tallest
begun_height _ n = capped (weight n.shape + n.tallest)

abbrev pub IsBegunStand : Place → Tail → ℕ → Node → Word → Stand → Type 0
IsBegunStand q c i n t r = (r.place ≡ q) × (r.first ≡ n.first) × IsBegun c i n t r.parts.items × (r.tallest ≡ begun_height c n)

-- the turns that a step may still take, under so many frames
abbrev pub turns_left : Turn → ℕ → ℕ
turns_left (turns.At st) n = 2 * n + 2
turns_left (turns.Have i) n = 2 * n + 1
turns_left (turns.Moved st) n = 0
turns_left turns.Failed n = 0

-- where a turn stands at the end of the tokens, the machine ends with o
abbrev pub Ends : List Node → List Waiting → Option Tree → Turn → Type 0
Ends ns ws o (turns.At st) = (s : State) × ShowsState ns ws st s × (finish s ≡ o)
Ends ns ws o (turns.Have i) = (v : Tree) × (frs : List Frame) × Shows ns i v × ShowsFrames ns ws frs × (end_frames frs v ≡ o)
Ends ns ws o (turns.Moved st) = None ≡ o
Ends ns ws o turns.Failed = None ≡ o

abbrev pub Ended : List Node → Option Tree → Option ℕ → Type 0
Ended ns o None = None ≡ o
Ended ns o (Some i) = (v : Tree) × Shows ns i v × (Some v ≡ o)

-- the frames with the node that waits, and those round the node that the token begins; fewer turns are left then
abbrev pub IsOpened : List Waiting → List Waiting → Stand → Line → Place → Word → Turn → Type 0
IsOpened ws vs st l q t (turns.Moved r) = (i : Place) × Opened (begin l t.kind) (Some i) (ws ++ waits.Inside (record { place = q; first = st.first; parts = st.parts; tallest = st.tallest }) ∷ []) vs × (r.place ≡ i) × (r.first ≡ t) × (r.parts.items ≡ []) × (r.tallest ≡ 0)
IsOpened ws vs st l q t turns.Failed = Opened (begin l t.kind) None (ws ++ waits.Inside (record { place = q; first = st.first; parts = st.parts; tallest = st.tallest }) ∷ []) vs
IsOpened ws vs st l q t (turns.At r) = ⊥
IsOpened ws vs st l q t (turns.Have i) = ⊥

-- the shape of the node that ends before a token
abbrev pub shape_before : Ending → TokenKind → Option Shape
shape_before endings.Never k = None
shape_before (endings.Ends s) k = Some s
shape_before (endings.BeforeStop s) k = cond (is_stop k) (Some s) None

-- the shape of the node that ends at the end of the tokens
abbrev pub end_shape : Ending → Option Shape
end_shape endings.Never = None
end_shape (endings.Ends s) = Some s
end_shape (endings.BeforeStop s) = Some s

-- what a frame makes of the height of the tree that it waits for
abbrev pub low_waiting : Waiting → ℕ → ℕ
low_waiting (waits.Inside st) h = capped (low st.place (max st.tallest h))
low_waiting (waits.After c) h = h
