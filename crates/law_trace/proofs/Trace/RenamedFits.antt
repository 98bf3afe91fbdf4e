-- What is asked of an event holds where its vats have other numbers.
use Rattle.std.proofs.Common.{ℕ, zero, suc, List, [], ◌∷◌}
use Rattle.ev_base.specs.declared.names.Msg.{Msg}
use Rattle.ev_base.specs.declared.names.Name.{Name}
use Rattle.ev_base.specs.declared.names.Name.TheVariants.{Object, Own, Answer, Gift, Root, Claimed}
use Rattle.def_event.specs.declared.shown.Shown.{Shown, List as ListOf, Slot, Name as Named, Members', Row_of-Shown, end_of-Shown, more_of-Shown}
use Rattle.def_event.specs.declared.shown.Shown.TheViews.{roll-Shown}
use Rattle.def_event.specs.declared.shown.Shown.TheBlock.{hidden-the_row-Shown-0}
use denote.Hole.Carrier.{roll, hidden}
use Rattle.def_event.specs.declared.note.ShownNote.{ShownNote}
use Rattle.def_event.specs.declared.note.ShownNote.TheVariants.{Deliver, DeliverOnly, Settled, Elsewhere, Open as Opens, Ask, Shorten}
use Rattle.def_event.specs.declared.event.Event.{Event}
use Rattle.def_event.specs.declared.event.Event.TheVariants.{Open, Turn, Carry, Cut, Notice, Frame, Take, Call, Back, Thrown, Got, Slot as SlotMade, Read, Wrote, List as ListMade, Arrived, Ejector, Audition, Promise, Made, Send, SendOnly, When, Done, Threw, Settle, Wait, View, LostCut, LostBroken, LeftQueue, LeftHeld, LeftWait, LeftLink, Raw}
use Rattle.def_event.specs.declared.raw.RawLine.{RawLine}
use Rattle.def_event.specs.declared.raw.RawLine.TheVariants.{Inject, InjectCut, Malformed, Bytes, LeftBytes}
use Rattle.def_event.specs.Lines.{members}
use Rattle.law_text.specs.Text.Feeds.{AllOf}
use Rattle.law_trace.specs.Trace.Readable.{AreMembers, AreValues, IsMessage, IsName, IsNote, IsPassed, IsRawRead, IsRead, IsThing, IsValue}
use Rattle.law_trace.specs.Trace.Renamed.{event_to, members_to, message_to, name_to, note_to, raw_to, value_to, values_to}

are_members : (Q : ℕ → Type 0) (height : ℕ) (xs : List Shown) → AllOf (IsPassed Q height) xs → IsPassed Q (suc height) (members xs)
unfolding roll-Shown roll hidden-the_row-Shown-0 hidden
are_members Q height [] h = tt
are_members Q height (x ∷ xs) h = (h.0, are_members Q height xs h.1)

module _ (P Q : ℕ → Type 0) (to : ℕ → ℕ) (each : (v : ℕ) → P v → Q (to v)) where
  thing_fits : (v n : ℕ) → IsThing P v n → IsThing Q (to v) n
  thing_fits v n h = (each v h.0, h.1)

  message_fits : (m : Msg) → IsMessage P m → IsMessage Q (message_to to m)
  message_fits m h = (each m.sender h.0, h.1)

  name_fits : (x : Name) → IsName P x → IsName Q (name_to to x)
  name_fits (Object v n) h = thing_fits v n h
  name_fits (Own v n) h = thing_fits v n h
  name_fits (Answer host m) h = (each host h.0, message_fits m h.1)
  name_fits (Gift host i) h = thing_fits host i h
  name_fits (Root v) h = each v h
  name_fits (Claimed host p word) h = (each host h.0, each p h.1, h.2)

  value_fits : (x : Shown) → IsValue P x → IsValue Q (value_to to x)
  value_fits (ListOf v n) h = thing_fits v n h
  value_fits (Slot v n) h = thing_fits v n h
  value_fits (Named x) h = name_fits x h
  value_fits (Members' shape row) h = absurd h
  value_fits other h = h

  values_fit : (xs : List Shown) → AreValues P xs → AreValues Q (values_to to xs)
  values_fit [] h = tt
  values_fit (x ∷ xs) h = (value_fits x h.0, values_fit xs h.1)

  -- the members of a list that has at most this height
  abbrev RowFits : ℕ → {n : _} → Row_of-Shown n → Type 0
  RowFits zero row = ⊥
  RowFits (suc height) row = AllOf (IsPassed Q height) (members_to to row)

  list_fits : {n : _} (height : ℕ) (row : Row_of-Shown n) → RowFits height row → IsPassed Q height (members (members_to to row))
  list_fits zero row h = absurd h
  list_fits (suc height) row h = are_members Q height (members_to to row) h

  mutual
    passed_fits : (height : ℕ) (x : Shown) → IsPassed P height x → IsPassed Q height (value_to to x)
    passed_fits height (Members' shape row) h = list_fits height row (row_fits height row h)
    passed_fits height (ListOf v n) h = absurd h
    passed_fits height (Slot v n) h = absurd h
    passed_fits height (Named x) h = name_fits x h
    passed_fits height other h = h

    row_fits : {n : _} (height : ℕ) (row : Row_of-Shown n) → AreMembers P height row → RowFits height row
    row_fits zero end_of-Shown h = h
    row_fits zero (more_of-Shown x rest) h = h
    row_fits (suc height) end_of-Shown h = tt
    row_fits (suc height) (more_of-Shown x rest) h = (passed_fits height x h.0, row_fits (suc height) rest h.1)

  args_fit : (xs : List Shown) → AllOf (IsPassed P 100) xs → AllOf (IsPassed Q 100) (values_to to xs)
  args_fit [] h = tt
  args_fit (x ∷ xs) h = (passed_fits 100 x h.0, args_fit xs h.1)

  note_fits : (n : ShownNote) → IsNote P n → IsNote Q (note_to to n)
  note_fits (Deliver m t q xs) h = (message_fits m h.0, name_fits t h.1, h.2, args_fit xs h.3)
  note_fits (DeliverOnly m t q xs) h = (message_fits m h.0, name_fits t h.1, h.2, args_fit xs h.3)
  note_fits (Settled n x) h = (name_fits n h.0, passed_fits 100 x h.1)
  note_fits (Elsewhere n v) h = (name_fits n h.0, each v h.1)
  note_fits (Opens p q) h = (name_fits p h.0, name_fits q h.1)
  note_fits (Ask n v) h = (name_fits n h.0, each v h.1)
  note_fits (Shorten p q) h = (name_fits p h.0, name_fits q h.1)

  raw_fits : (line : RawLine) → IsRawRead P line → IsRawRead Q (raw_to to line)
  raw_fits (Inject k v w bytes) h = absurd h
  raw_fits (InjectCut k v w) h = absurd h
  raw_fits (Malformed k v w place) h = absurd h
  raw_fits (Bytes k v w bytes) h = (h.0, each v h.1, each w h.2, h.3)
  raw_fits (LeftBytes v w bytes) h = (each v h.0, each w h.1, h.2)

  pub event_fits : (e : Event) → IsRead P e → IsRead Q (event_to to e)
  event_fits (Open v) h = each v h
  event_fits (Turn k v) h = (h.0, each v h.1)
  event_fits (Carry k v w note) h = (h.0, each v h.1, each w h.2, note_fits note h.3)
  event_fits (Cut k v w) h = (h.0, each v h.1, each w h.2)
  event_fits (Notice k v w) h = (h.0, each v h.1, each w h.2)
  event_fits (Frame bytes) h = absurd h
  event_fits (Take t) h = (h.0, message_fits t.message h.1, value_fits t.target h.2, h.3, values_fit t.args h.4)
  event_fits (Call c) h = (h.0, value_fits c.target h.1, h.2, values_fit c.args h.3, h.4)
  event_fits (Back a x) h = (h.0, value_fits x h.1)
  event_fits (Thrown a x) h = (h.0, value_fits x h.1)
  event_fits (Got a x) h = (h.0, value_fits x h.1)
  event_fits (SlotMade a s x) h = (h.0, thing_fits s.0 s.1 h.1, value_fits x h.2)
  event_fits (Read a s x) h = (h.0, thing_fits s.0 s.1 h.1, value_fits x h.2)
  event_fits (Wrote a s x) h = (h.0, thing_fits s.0 s.1 h.1, value_fits x h.2)
  event_fits (ListMade a l xs) h = (h.0, thing_fits l.0 l.1 h.1, values_fit xs h.2)
  event_fits (Arrived l xs) h = (thing_fits l.0 l.1 h.0, values_fit xs h.1)
  event_fits (Ejector a o) h = (h.0, value_fits o h.1)
  event_fits (Audition a o) h = (h.0, value_fits o h.1)
  event_fits (Promise a p o) h = (h.0, name_fits p h.1, value_fits o h.2)
  event_fits (Made o) h = (h.0, value_fits o.object h.1, h.2, values_fit o.caps h.3, values_fit o.stamps h.4)
  event_fits (Send m) h = (h.0, message_fits m.message h.1, value_fits m.target h.2, h.3, values_fit m.args h.4, name_fits m.answer h.5)
  event_fits (SendOnly t) h = (h.0, message_fits t.message h.1, value_fits t.target h.2, h.3, values_fit t.args h.4)
  event_fits (When w) h = (h.0, message_fits w.message h.1, value_fits w.value h.2, value_fits w.reaction h.3, name_fits w.answer h.4)
  event_fits (Done a x) h = (h.0, value_fits x h.1)
  event_fits (Threw a x) h = (h.0, value_fits x h.1)
  event_fits (Settle p x) h = (name_fits p h.0, value_fits x h.1)
  event_fits (Wait p q) h = (name_fits p h.0, name_fits q h.1)
  event_fits (View p q) h = (name_fits p h.0, name_fits q h.1)
  event_fits (LostCut m) h = message_fits m h
  event_fits (LostBroken m) h = message_fits m h
  event_fits (LeftQueue v m) h = (each v h.0, message_fits m h.1)
  event_fits (LeftHeld v p m) h = (each v h.0, name_fits p h.1, message_fits m h.2)
  event_fits (LeftWait v x m) h = (each v h.0, value_fits x h.1, message_fits m h.2)
  event_fits (LeftLink v w note) h = (each v h.0, each w h.1, note_fits note h.2)
  event_fits (Raw line) h = raw_fits line h
  event_fits other h = h
