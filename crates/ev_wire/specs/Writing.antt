-- What a vat writes of a note for a peer, in the code's terms.
use Rattle.std.specs.Prelude.{ℕ, Bool, true, false, is_some, length, List, Option, Some, None}
use Rattle.ev_base.specs.declared.values.Value.{Value}
use Rattle.ev_base.specs.declared.values.Value.TheVariants as held
use Rattle.def_machine.specs.Values.{word_of}
use Rattle.def_op.specs.declared.op.Plain.TheVariants as plain
use Rattle.def_op.specs.Frames as op
use Rattle.def_op.specs.Frames.{Described, Members, Operation}
use Rattle.ev_prims.specs.Reading.{text_in}
use Rattle.ev_refs.specs.Follow.{place_of}
use Rattle.ev_refs.specs.declared.follow.Place.{Place}
use Rattle.ev_refs.specs.declared.follow.Place.TheVariants.{Near, Mine, FarPromise, FarObject, Gone}
use Rattle.ev_refs.specs.References.{References}
use Rattle.ev_pass.specs.Notes.{Parcel, Parcels, Plain, Gift, Many, NoMore, More, Noted, Deliver, Open, Ask, Settled, Elsewhere, Shorten}
use Rattle.ev_pass.specs.declared.interior.Interior.{Interior}
use Rattle.ev_pass.specs.declared.note.Reference.{Reference}
use Rattle.ev_pass.specs.declared.note.Reference.TheVariants as reference
use Rattle.ev_tables.specs.Table.{Table, asked_for}
use Rattle.ev_tables.specs.Standing.{is_own, local_of}
use Rattle.ev_tables.specs.Numbering.{numbered, described_in}

abbrev pub is_here : Place → Bool
is_here (Mine n) = true
is_here Near = false
is_here (FarPromise h n) = false
is_here (FarObject h p) = false
is_here (Gone t) = false

-- the vat tells of that promise
unfoldable pub is_mine : References → ℕ → Bool
is_mine r n = is_here (place_of r (held.Prom n))

abbrev pub is_ours : References → Value → Bool
is_ours r v = is_own (is_mine r) (local_of v)

abbrev pub value_of : Reference → Value
value_of (reference.Object i) = held.Obj i
value_of (reference.Promise n) = held.Prom n
value_of (reference.Far h p) = held.Far h p

-- ---- numbers for what is told

unfoldable pub numbered_value : References → Value → Table → Table
numbered_value r v t = numbered (is_ours r v) v t

unfoldable mutual
  pub numbered_parcel : References → Parcel → Table → Table
  numbered_parcel r (Plain v) t = numbered_value r v t
  numbered_parcel r (Gift h i) t = t
  numbered_parcel r (Many ps) t = numbered_parcels r ps t

  pub numbered_parcels : References → Parcels → Table → Table
  numbered_parcels r NoMore t = t
  numbered_parcels r (More p ps) t = numbered_parcels r ps (numbered_parcel r p t)

unfoldable pub numbered_note : References → Noted → Table → Table
numbered_note r (Deliver m a x verb ps) t = numbered_parcels r ps (numbered_value r (value_of x) t)
numbered_note r (Open i x) t = numbered_value r (value_of x) t
numbered_note r (Ask p i n) t = t
numbered_note r (Settled n p) t = numbered_parcel r p (numbered_value r (held.Prom n) t)
numbered_note r (Elsewhere n c) t = numbered_value r (held.Prom n) t
numbered_note r (Shorten n c i) t = numbered_value r (held.Prom n) t

-- ---- what describes it

unfoldable pub described_reference : Interior → Value → Table → Described
described_reference i v t = described_in (is_ours i.refs v) v t

unfoldable pub described_value : Interior → Value → Table → Described
described_value i held.Null t = op.Datum plain.Null
described_value i (held.Bool b) t = op.Datum (plain.Bool b)
described_value i (held.Int z) t = op.Datum (plain.Int z)
described_value i (held.Char c) t = op.Datum (plain.Char c)
described_value i (held.Text id) t = op.Datum (plain.Text (text_in i.heap id))
described_value i (held.List id) t = op.ListOf op.none
described_value i (held.Prim n) t = op.Datum (plain.Prim n)
described_value i (held.Obj n) t = described_reference i (held.Obj n) t
described_value i (held.Prom n) t = described_reference i (held.Prom n) t
described_value i (held.Far h p) t = described_reference i (held.Far h p) t
described_value i (held.Broken id) t = op.Broken (text_in i.heap id)

unfoldable mutual
  pub described_parcel : Interior → Parcel → Table → Described
  described_parcel i (Plain v) t = described_value i v t
  described_parcel i (Gift h k) t = op.Third h (word_of k)
  described_parcel i (Many ps) t = op.ListOf (described_parcels i ps t)

  pub described_parcels : Interior → Parcels → Table → Members
  described_parcels i NoMore t = op.none
  described_parcels i (More p ps) t = op.more (described_parcel i p t) (described_parcels i ps t)

-- a message, by whether it asks for an answer
unfoldable pub message_op : Bool → ℕ → Described → List ℕ → Members → Operation
message_op true q target verb args = op.Deliver q target verb args
message_op false q target verb args = op.DeliverOnly target verb args

-- what a note says, once all that it tells has a number
unfoldable pub described_note : Interior → Noted → Table → Operation
described_note i (Deliver m a x verb ps) t = message_op (is_some a) (length t.asked) (described_reference i (value_of x) t) verb (described_parcels i ps t)
described_note i (Open k x) t = op.Provide (described_reference i (value_of x) t) (word_of k)
described_note i (Ask p k n) t = op.Accept (length t.asked) p (word_of k)
described_note i (Settled n p) t = op.Resolve (described_reference i (held.Prom n) t) (op.To (described_parcel i p t))
described_note i (Elsewhere n c) t = op.Resolve (described_reference i (held.Prom n) t) (op.Elsewhere c)
described_note i (Shorten n c k) t = op.Shorten (described_reference i (held.Prom n) t) (word_of k)

-- ---- what is asked for

-- the answer of a message, where it asks for one, or a gift
unfoldable pub asked_of : Noted → Option ℕ
asked_of (Deliver m a x verb ps) = a
asked_of (Ask p k n) = Some n
asked_of (Open k x) = None
asked_of (Settled n p) = None
asked_of (Elsewhere n c) = None
asked_of (Shorten n c k) = None

unfoldable pub asking : Option ℕ → Table → Table
asking (Some n) t = asked_for n t
asking None t = t

-- the operation of a note that is put now, and the table after it
unfoldable pub written : Interior → Noted → Table → Operation
written i n t = described_note i n (numbered_note i.refs n t)

unfoldable pub put_on : Interior → Noted → Table → Table
put_on i n t = asking (asked_of n) (numbered_note i.refs n t)
