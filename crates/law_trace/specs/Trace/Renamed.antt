-- Events in which the vats have other numbers.
use Rattle.std.specs.Prelude.{ℕ, List, [], ◌∷◌, map}
use Rattle.ev_base.specs.declared.names.Msg.{Msg}
use Rattle.ev_base.specs.declared.names.Name.{Name}
use Rattle.ev_base.specs.declared.names.Name.TheVariants.{Object, Own, Answer, Gift, Root, Claimed}
use Rattle.def_event.specs.declared.shown.Shown.{Shown, Null, Bool, Int, Char, Text, Broken, Prim, List as ListOf, Slot, Name as Named, Members', Row_of-Shown, end_of-Shown, more_of-Shown}
use Rattle.def_event.specs.declared.note.ShownNote.{ShownNote}
use Rattle.def_event.specs.declared.note.ShownNote.TheVariants.{Deliver, DeliverOnly, Settled, Elsewhere, Open as Opens, Ask, Shorten}
use Rattle.def_event.specs.declared.event.Event.{Event}
use Rattle.def_event.specs.declared.event.Event.TheVariants.{Open, Turn, Idle, Carry, Cut, Notice, Frame, Take, Call, Back, Thrown, Gone, Got, Slot as SlotMade, Read, Wrote, List as ListMade, Arrived, Ejector, Audition, Promise, Made, Send, SendOnly, When, Done, Threw, Settle, Wait, View, LostCut, LostBroken, LeftQueue, LeftHeld, LeftWait, LeftLink, End, Raw}
use Rattle.def_event.specs.declared.raw.RawLine.{RawLine}
use Rattle.def_event.specs.declared.raw.RawLine.TheVariants.{Inject, InjectCut, Malformed, Bytes, LeftBytes}
use Rattle.def_event.specs.Lines.{members}

-- the vat with this number has that one
module _ (to : ℕ → ℕ) where
  abbrev pub thing_to : ℕ × ℕ → ℕ × ℕ
  thing_to s = (to s.0, s.1)

  abbrev pub message_to : Msg → Msg
  message_to m = record { sender = to m.sender; number = m.number }

  abbrev pub name_to : Name → Name
  name_to (Object v n) = Object (to v) n
  name_to (Own v n) = Own (to v) n
  name_to (Answer host m) = Answer (to host) (message_to m)
  name_to (Gift host i) = Gift (to host) i
  name_to (Root v) = Root (to v)
  name_to (Claimed host p word) = Claimed (to host) (to p) word

  abbrev mutual
    pub value_to : Shown → Shown
    value_to (ListOf v n) = ListOf (to v) n
    value_to (Slot v n) = Slot (to v) n
    value_to (Named n) = Named (name_to n)
    value_to (Members' shape row) = members (members_to row)
    value_to Null = Null
    value_to (Bool b) = Bool b
    value_to (Int z) = Int z
    value_to (Char c) = Char c
    value_to (Text text) = Text text
    value_to (Broken problem) = Broken problem
    value_to (Prim n) = Prim n

    pub members_to : {n : _} → Row_of-Shown n → List Shown
    members_to end_of-Shown = []
    members_to (more_of-Shown x rest) = value_to x ∷ members_to rest

  abbrev pub values_to : List Shown → List Shown
  values_to xs = map value_to xs

  abbrev pub note_to : ShownNote → ShownNote
  note_to (Deliver m target verb args) = Deliver (message_to m) (name_to target) verb (values_to args)
  note_to (DeliverOnly m target verb args) = DeliverOnly (message_to m) (name_to target) verb (values_to args)
  note_to (Settled n x) = Settled (name_to n) (value_to x)
  note_to (Elsewhere n v) = Elsewhere (name_to n) (to v)
  note_to (Opens gift n) = Opens (name_to gift) (name_to n)
  note_to (Ask gift provider) = Ask (name_to gift) (to provider)
  note_to (Shorten n gift) = Shorten (name_to n) (name_to gift)

  abbrev pub raw_to : RawLine → RawLine
  raw_to (Inject k v w bytes) = Inject k (to v) (to w) bytes
  raw_to (InjectCut k v w) = InjectCut k (to v) (to w)
  raw_to (Malformed k v w place) = Malformed k (to v) (to w) place
  raw_to (Bytes k v w bytes) = Bytes k (to v) (to w) bytes
  raw_to (LeftBytes v w bytes) = LeftBytes (to v) (to w) bytes

  abbrev pub event_to : Event → Event
  event_to (Open v) = Open (to v)
  event_to (Turn k v) = Turn k (to v)
  event_to (Idle k) = Idle k
  event_to (Carry k v w note) = Carry k (to v) (to w) (note_to note)
  event_to (Cut k v w) = Cut k (to v) (to w)
  event_to (Notice k v w) = Notice k (to v) (to w)
  event_to (Frame bytes) = Frame bytes
  event_to (Take t) = Take (record { activation = t.activation; message = message_to t.message; target = value_to t.target; verb = t.verb; args = values_to t.args })
  event_to (Call c) = Call (record { activation = c.activation; target = value_to c.target; verb = c.verb; args = values_to c.args; begun = c.begun })
  event_to (Back a x) = Back a (value_to x)
  event_to (Thrown a x) = Thrown a (value_to x)
  event_to (Gone a) = Gone a
  event_to (Got a x) = Got a (value_to x)
  event_to (SlotMade a s x) = SlotMade a (thing_to s) (value_to x)
  event_to (Read a s x) = Read a (thing_to s) (value_to x)
  event_to (Wrote a s x) = Wrote a (thing_to s) (value_to x)
  event_to (ListMade a l members) = ListMade a (thing_to l) (values_to members)
  event_to (Arrived l members) = Arrived (thing_to l) (values_to members)
  event_to (Ejector a o) = Ejector a (value_to o)
  event_to (Audition a o) = Audition a (value_to o)
  event_to (Promise a p o) = Promise a (name_to p) (value_to o)
  event_to (Made o) = Made (record { activation = o.activation; object = value_to o.object; name = o.name; caps = values_to o.caps; stamps = values_to o.stamps })
  event_to (Send m) = Send (record { activation = m.activation; message = message_to m.message; target = value_to m.target; verb = m.verb; args = values_to m.args; answer = name_to m.answer })
  event_to (SendOnly m) = SendOnly (record { activation = m.activation; message = message_to m.message; target = value_to m.target; verb = m.verb; args = values_to m.args })
  event_to (When w) = When (record { activation = w.activation; message = message_to w.message; value = value_to w.value; reaction = value_to w.reaction; answer = name_to w.answer })
  event_to (Done a x) = Done a (value_to x)
  event_to (Threw a x) = Threw a (value_to x)
  event_to (Settle p x) = Settle (name_to p) (value_to x)
  event_to (Wait p q) = Wait (name_to p) (name_to q)
  event_to (View p q) = View (name_to p) (name_to q)
  event_to (LostCut m) = LostCut (message_to m)
  event_to (LostBroken m) = LostBroken (message_to m)
  event_to (LeftQueue v m) = LeftQueue (to v) (message_to m)
  event_to (LeftHeld v p m) = LeftHeld (to v) (name_to p) (message_to m)
  event_to (LeftWait v x m) = LeftWait (to v) (value_to x) (message_to m)
  event_to (LeftLink v w note) = LeftLink (to v) (to w) (note_to note)
  event_to End = End
  event_to (Raw line) = Raw (raw_to line)
