-- What a vat exported and asked for, as the notes that were put tell, and what a note says by that.
use Rattle.std.specs.Prelude.{ℕ, zero, suc, Bool, true, false, List, [], ◌∷◌, ◌++◌, Option, Some, None, ◌==◌}
use Rattle.def_op.specs.declared.op.Plain.TheVariants as plain
use Rattle.def_op.specs.Frames as op
use Rattle.def_op.specs.Frames.{Described, Members, Outcome, Operation, spelling}
use Rattle.def_op.specs.Numbers as number
use Rattle.def_machine.specs.Values.{Value, Null, Flag, Number, Letter, Text, Prim, Broken, Items, Ref, Name, Object, same_name, host_of, answer_of}
use Rattle.def_machine.specs.State.{Passed, Passeds, Plain, AGift, Many, NoMore, More, Note, Deliver, Open, Ask, SettledTo, Elsewhere, Shorten}
use Rattle.def_run.specs.World.{Link, link_at, has_name, opened_world}

-- how many stand before it
unfoldable pub rank : List Name → Name → ℕ
rank [] n = zero
rank (m ∷ ms) n = elim (same_name m n) [ true ↦ zero | false ↦ suc (rank ms n) ]

unfoldable pub log_of : Option Link → List (Note Name)
log_of (Some l) = l.log
log_of None = []

unfoldable pub roots_of : Option Link → List Name
roots_of (Some l) = l.roots
roots_of None = []

-- a name asked for in front of those asked for later
unfoldable pub asked_if : Bool → Name → List Name → List Name
asked_if true n ns = n ∷ ns
asked_if false n ns = ns

-- the answers and gifts for which these notes to vat w ask, in order
unfoldable pub questions_in : ℕ → List (Note Name) → List Name
questions_in w [] = []
questions_in w (Deliver d n verb ys ∷ ns) = asked_if d.asks (answer_of w d.message) (questions_in w ns)
questions_in w (Ask p i n ∷ ns) = n ∷ questions_in w ns
questions_in w (n ∷ ns) = questions_in w ns

-- the names that vat v hosts, which have no number among those asked, behind those that have a position
unfoldable pub with_export : ℕ → List Name → Name → List Name → List Name
with_export v asked n ns = elim (host_of n == v) [
  | true ↦ elim (has_name asked n) [ true ↦ ns | false ↦ elim (has_name ns n) [ true ↦ ns | false ↦ ns ++ n ∷ [] ] ]
  | false ↦ ns
]

unfoldable pub with_value : ℕ → List Name → Value Name → List Name → List Name
with_value v asked (Ref n) ns = with_export v asked n ns
with_value v asked y ns = ns

unfoldable mutual
  pub with_passed : ℕ → List Name → Passed Name → List Name → List Name
  with_passed v asked (Plain y) ns = with_value v asked y ns
  with_passed v asked (AGift h i) ns = ns
  with_passed v asked (Many ys) ns = with_all v asked ys ns

  pub with_all : ℕ → List Name → Passeds Name → List Name → List Name
  with_all v asked NoMore ns = ns
  with_all v asked (More y ys) ns = with_all v asked ys (with_passed v asked y ns)

unfoldable pub with_note : ℕ → List Name → Note Name → List Name → List Name
with_note v asked (Deliver d n verb ys) ns = with_all v asked ys (with_export v asked n ns)
with_note v asked (Open i n) ns = with_export v asked n ns
with_note v asked (Ask p i n) ns = ns
with_note v asked (SettledTo n y) ns = with_passed v asked y (with_export v asked n ns)
with_note v asked (Elsewhere n c) ns = with_export v asked n ns
with_note v asked (Shorten n c i) ns = with_export v asked n ns

unfoldable pub exports_after : ℕ → List Name → List (Note Name) → List Name → List Name
exports_after v asked [] ns = ns
exports_after v asked (n ∷ rest) ns = exports_after v asked rest (with_note v asked n ns)

module _ (word : ℕ → ℕ) (ls : List Link) where
  -- what v asked of w, in order
  unfoldable pub questions : ℕ → ℕ → List Name
  questions v w = questions_in w (log_of (link_at v w ls))

  -- the names that were first exported from v to w, in order
  unfoldable pub exports : ℕ → ℕ → List Name
  exports v w = exports_after v (questions w v) (log_of (link_at v w ls)) (roots_of (link_at v w ls))

  unfoldable pub exported : ℕ → Name → Described
  exported p (Object v n) = op.MyExport p
  exported p n = op.MyPromise p

  unfoldable pub mine : ℕ → ℕ → Name → Bool → Described
  mine v w n true = op.MyAnswer (rank (questions w v) n)
  mine v w n false = exported (rank (exports v w) n) n

  unfoldable pub yours : ℕ → ℕ → Name → Bool → Described
  yours v w n true = op.YourAnswer (rank (questions v w) n)
  yours v w n false = op.YourExport (rank (exports w v) n)

  -- a name in a note from v to w, of which one is its host
  unfoldable pub described : ℕ → ℕ → Name → Described
  described v w n = elim (host_of n == v) [ true ↦ mine v w n (has_name (questions w v) n) | false ↦ yours v w n (has_name (questions v w) n) ]

  unfoldable pub described_value : ℕ → ℕ → Value Name → Described
  described_value v w Null = op.Datum plain.Null
  described_value v w (Flag b) = op.Datum (plain.Bool b)
  described_value v w (Number z) = op.Datum (plain.Int z)
  described_value v w (Letter c) = op.Datum (plain.Char c)
  described_value v w (Text t) = op.Datum (plain.Text t)
  described_value v w (Prim n) = op.Datum (plain.Prim n)
  described_value v w (Broken p) = op.Broken p
  described_value v w (Items k) = op.ListOf op.none
  described_value v w (Ref n) = described v w n

  unfoldable mutual
    pub described_passed : ℕ → ℕ → Passed Name → Described
    described_passed v w (Plain y) = described_value v w y
    described_passed v w (AGift h i) = op.Third h (word i)
    described_passed v w (Many ys) = op.ListOf (described_all v w ys)

    pub described_all : ℕ → ℕ → Passeds Name → Members
    described_all v w NoMore = op.none
    described_all v w (More y ys) = op.more (described_passed v w y) (described_all v w ys)

  -- a message from v to w, by whether it asks for an answer
  unfoldable pub delivered : ℕ → ℕ → Name → Bool → Described → List ℕ → Members → Operation
  delivered v w m true target verb args = op.Deliver (rank (questions v w) (answer_of w m)) target verb args
  delivered v w m false target verb args = op.DeliverOnly target verb args

  -- what a note from v to w says
  unfoldable pub operation : ℕ → ℕ → Note Name → Operation
  operation v w (Deliver d n verb ys) = delivered v w d.message d.asks (described v w n) verb (described_all v w ys)
  operation v w (Open i n) = op.Provide (described v w n) (word i)
  operation v w (Ask p i n) = op.Accept (rank (questions v w) n) p (word i)
  operation v w (SettledTo n y) = op.Resolve (described v w n) (op.To (described_passed v w y))
  operation v w (Elsewhere n c) = op.Resolve (described v w n) (op.Elsewhere c)
  operation v w (Shorten n c i) = op.Shorten (described v w n) (word i)

  -- its bytes
  unfoldable pub frame : ℕ → ℕ → Note Name → List ℕ
  frame v w n = spelling (operation v w n)

-- opens each definition of this file, and of those below
unfoldable pub opened_logs : Unit {0}
unfolding rank log_of roots_of asked_if questions_in with_export with_value with_passed with_all with_note exports_after questions exports exported mine yours described described_value described_passed described_all delivered operation frame op.spelling op.outcome_bytes op.desc_bytes op.members_bytes op.plain_bytes op.count number.digits number.low_first opened_world
opened_logs = tt
