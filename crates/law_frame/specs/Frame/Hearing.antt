-- How a vat reads what a note says, by its tables: each name as a number of its own, or as new.
use Rattle.std.specs.Prelude.{ℕ, suc, Bool, true, false, List, [], ◌∷◌, ◌++◌, Option, Some, None, length, slice_get, ◌==◌}
use Rattle.def_op.specs.declared.op.Plain.{Plain as Fact}
use Rattle.def_op.specs.declared.op.Plain.TheVariants as plain
use Rattle.def_op.specs.Frames as op
use Rattle.def_op.specs.Frames.{Described, Members, Outcome, Operation}
use Rattle.def_machine.specs.Values.{Value, Null, Flag, Number, Letter, Text, Prim as Primitive, Broken, Ref, Local, Prom, Far, key}
use Rattle.def_machine.specs.State.{Passed, Passeds, Plain, AGift, Many, NoMore, More, Note, Deliver, Open, Ask, SettledTo, Elsewhere, Shorten, GiftEntry}
use Rattle.def_machine.specs.Arrive.{Incoming, Old, New, gift_at}
use Rattle.law_machine.specs.Renamed.Renaming.{Wire, Mine, MyAnswer, Carried}
use Rattle.law_frame.specs.Frame.Tables.{Tables}

-- Something read; what the peer has exported by then, and how many names are known by then.
pub record Heard (A : Type 0) : Type 0 where
  pub read : A
  pub imports : List Local
  pub known : ℕ

abbrev pub Hearing : Type 0 → Type 0
Hearing A = List Local → ℕ → Option (Heard A)

unfoldable pub told : {A : Type 0} → A → Hearing A
told x imports known = Some (record { read = x; imports = imports; known = known })

unfoldable pub told_if : {A B : Type 0} → (A → B) → Option A → Hearing B
told_if f (Some x) imports known = told (f x) imports known
told_if f None imports known = None

unfoldable pub next : {A B : Type 0} → (A → Hearing B) → Option (Heard A) → Option (Heard B)
next f (Some x) = f x.read x.imports x.known
next f None = None

-- the next position is that of what is first exported here
unfoldable pub with_position : ℕ → Local → List Local → List Local
with_position p l imports = elim (p == length imports) [ true ↦ imports ++ l ∷ [] | false ↦ imports ]

-- a promise of the peer, by what stands at its position
unfoldable pub promise_heard : ℕ → ℕ → Option Local → Hearing (Incoming Local Wire)
promise_heard peer p (Some l) imports known = told (Old l) imports known
promise_heard peer p None imports known = told (New (Mine false p) peer) (with_position p (Prom known) imports) (suc known)

module _ (me peer : ℕ) (t : Tables) where
  -- a name of this vat or of the peer
  unfoldable pub name_heard : Described → Hearing (Incoming Local Wire)
  name_heard (op.MyExport p) imports known = told (Old (Far peer p)) (with_position p (Far peer p) imports) known
  name_heard (op.MyPromise p) imports known = promise_heard peer p (slice_get imports p) imports known
  name_heard (op.YourExport p) imports known = told_if Old (slice_get t.exports p) imports known
  name_heard (op.MyAnswer q) imports known = told_if Old (slice_get t.questions q) imports known
  name_heard (op.YourAnswer q) imports known = told_if Old (slice_get t.answers q) imports known
  name_heard (op.Datum x) imports known = None
  name_heard (op.ListOf ds) imports known = None
  name_heard (op.Broken p) imports known = None
  name_heard (op.Third h s) imports known = None

  unfoldable pub fact_heard : Fact → Value (Incoming Local Wire)
  fact_heard plain.Null = Null
  fact_heard (plain.Bool b) = Flag b
  fact_heard (plain.Int z) = Number z
  fact_heard (plain.Char c) = Letter c
  fact_heard (plain.Text x) = Text x
  fact_heard (plain.Prim n) = Primitive n

  unfoldable pub reference_heard : Incoming Local Wire → Passed (Incoming Local Wire)
  reference_heard x = Plain (Ref x)

  unfoldable mutual
    pub passed_heard : Described → Hearing (Passed (Incoming Local Wire))
    passed_heard (op.Datum x) imports known = told (Plain (fact_heard x)) imports known
    passed_heard (op.Broken p) imports known = told (Plain (Broken p)) imports known
    passed_heard (op.ListOf ds) imports known = next (λ ys. told (Many ys)) (all_heard ds imports known)
    -- a gift comes to be known
    passed_heard (op.Third h s) imports known = told (AGift h (key peer s)) imports (suc known)
    passed_heard (op.MyExport p) imports known = next (λ x. told (reference_heard x)) (name_heard (op.MyExport p) imports known)
    passed_heard (op.MyPromise p) imports known = next (λ x. told (reference_heard x)) (name_heard (op.MyPromise p) imports known)
    passed_heard (op.YourExport p) imports known = next (λ x. told (reference_heard x)) (name_heard (op.YourExport p) imports known)
    passed_heard (op.MyAnswer q) imports known = next (λ x. told (reference_heard x)) (name_heard (op.MyAnswer q) imports known)
    passed_heard (op.YourAnswer q) imports known = next (λ x. told (reference_heard x)) (name_heard (op.YourAnswer q) imports known)

    pub all_heard : Members → Hearing (Passeds (Incoming Local Wire))
    all_heard op.none imports known = told NoMore imports known
    all_heard (op.more d ds) imports known = next (λ y is ks. next (λ ys. told (More y ys)) (all_heard ds is ks)) (passed_heard d imports known)

  -- a gift of this vat is known where its entry is there
  unfoldable pub gift_heard : ℕ → Option (GiftEntry Local) → Incoming Local Wire
  gift_heard q (Some g) = Old g.name
  gift_heard q None = New (MyAnswer q) me

  unfoldable pub outcome_heard : Incoming Local Wire → Outcome → Hearing (Note (Incoming Local Wire))
  outcome_heard x (op.To d) imports known = next (λ y. told (SettledTo x y)) (passed_heard d imports known)
  outcome_heard x (op.Elsewhere c) imports known = told (Elsewhere x c) imports known

  -- a message, by whether it asks for an answer
  unfoldable pub message_heard : Bool → Described → List ℕ → Members → Hearing (Note (Incoming Local Wire))
  message_heard asks d verb ds imports known = next (λ ys is ks. next (λ x. told (Deliver (record { message = New Carried peer; asks = asks; answer = None }) x verb ys)) (name_heard d is ks)) (all_heard ds imports known)

  -- A note by what its frame says, with the gifts that this vat hosts. The frame of a message does not tell who sent it first, nor that of a request to shorten where the object is: the peer stands in their places, and nothing looks at them.
  unfoldable pub note_heard : List (GiftEntry Local) → Operation → Hearing (Note (Incoming Local Wire))
  note_heard gifts (op.Deliver q d verb ds) imports known = message_heard true d verb ds imports known
  note_heard gifts (op.DeliverOnly d verb ds) imports known = message_heard false d verb ds imports known
  note_heard gifts (op.Provide d s) imports known = next (λ x. told (Open (key peer s) x)) (name_heard d imports known)
  note_heard gifts (op.Accept q p s) imports known = told (Ask p (key p s) (gift_heard q (gift_at p (key p s) gifts))) imports known
  note_heard gifts (op.Resolve d o) imports known = next (λ x. outcome_heard x o) (name_heard d imports known)
  note_heard gifts (op.Shorten d s) imports known = next (λ x. told (Shorten x peer (key me s))) (name_heard d imports known)

-- opens the definitions of this file
unfoldable pub opened_hearing : Unit {0}
unfolding told told_if next with_position promise_heard name_heard fact_heard reference_heard passed_heard all_heard gift_heard outcome_heard message_heard note_heard
opened_hearing = tt
