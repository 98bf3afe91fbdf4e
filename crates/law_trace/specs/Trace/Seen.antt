-- What a line shows of an event: of a text with more than 32 characters it shows its beginning and how long it is, and all else as it is.
use Rattle.std.specs.Prelude.{ℕ, nat_le, if◌then◌else◌, List, [], ◌∷◌, map, length, chars}
use Rattle.def_text.specs.Quoting.{shortened, shown_length}
use Rattle.def_event.specs.declared.shown.Shown.{Shown, Null, Bool, Int, Char, Text, Broken, Prim, List as ListOf, Slot, Name as Named, Members', Row_of-Shown, end_of-Shown, more_of-Shown}
use Rattle.def_event.specs.declared.note.ShownNote.{ShownNote}
use Rattle.def_event.specs.declared.note.ShownNote.TheVariants.{Deliver, DeliverOnly, Settled, Elsewhere, Open as Opens, Ask, Shorten}
use Rattle.def_event.specs.declared.event.Event.{Event}
use Rattle.def_event.specs.declared.event.Event.TheVariants.{Open, Turn, Idle, Carry, Cut, Notice, Frame, Take, Call, Back, Thrown, Gone, Got, Slot as SlotMade, Read, Wrote, List as ListMade, Arrived, Ejector, Audition, Promise, Made, Send, SendOnly, When, Done, Threw, Settle, Wait, View, LostCut, LostBroken, LeftQueue, LeftHeld, LeftWait, LeftLink, End, Raw}
use Rattle.def_event.specs.Lines.{members}

-- a longer text is read as it is spelled
abbrev pub seen_text : List ℕ → List ℕ
seen_text text = if nat_le (length (chars text)) shown_length then text else shortened text

abbrev mutual
  pub seen_value : Shown → Shown
  seen_value (Text text) = Text (seen_text text)
  seen_value (Broken problem) = Broken (seen_text problem)
  seen_value (Members' shape row) = members (seen_members row)
  seen_value Null = Null
  seen_value (Bool b) = Bool b
  seen_value (Int z) = Int z
  seen_value (Char c) = Char c
  seen_value (Prim n) = Prim n
  seen_value (ListOf v n) = ListOf v n
  seen_value (Slot v n) = Slot v n
  seen_value (Named n) = Named n

  pub seen_members : {n : _} → Row_of-Shown n → List Shown
  seen_members end_of-Shown = []
  seen_members (more_of-Shown x rest) = seen_value x ∷ seen_members rest

abbrev pub seen_values : List Shown → List Shown
seen_values xs = map seen_value xs

abbrev pub seen_note : ShownNote → ShownNote
seen_note (Deliver m target verb args) = Deliver m target verb (seen_values args)
seen_note (DeliverOnly m target verb args) = DeliverOnly m target verb (seen_values args)
seen_note (Settled n x) = Settled n (seen_value x)
seen_note (Elsewhere n v) = Elsewhere n v
seen_note (Opens gift n) = Opens gift n
seen_note (Ask gift provider) = Ask gift provider
seen_note (Shorten n gift) = Shorten n gift

abbrev pub seen : Event → Event
seen (Carry k v w note) = Carry k v w (seen_note note)
seen (Take t) = Take (record { activation = t.activation; message = t.message; target = seen_value t.target; verb = t.verb; args = seen_values t.args })
seen (Call c) = Call (record { activation = c.activation; target = seen_value c.target; verb = c.verb; args = seen_values c.args; begun = c.begun })
seen (Back a x) = Back a (seen_value x)
seen (Thrown a x) = Thrown a (seen_value x)
seen (Got a x) = Got a (seen_value x)
seen (SlotMade a s x) = SlotMade a s (seen_value x)
seen (Read a s x) = Read a s (seen_value x)
seen (Wrote a s x) = Wrote a s (seen_value x)
seen (ListMade a l members) = ListMade a l (seen_values members)
seen (Arrived l members) = Arrived l (seen_values members)
seen (Ejector a o) = Ejector a (seen_value o)
seen (Audition a o) = Audition a (seen_value o)
seen (Promise a p o) = Promise a p (seen_value o)
seen (Made o) = Made (record { activation = o.activation; object = seen_value o.object; name = o.name; caps = seen_values o.caps; stamps = seen_values o.stamps })
seen (Send m) = Send (record { activation = m.activation; message = m.message; target = seen_value m.target; verb = m.verb; args = seen_values m.args; answer = m.answer })
seen (SendOnly m) = SendOnly (record { activation = m.activation; message = m.message; target = seen_value m.target; verb = m.verb; args = seen_values m.args })
seen (When w) = When (record { activation = w.activation; message = w.message; value = seen_value w.value; reaction = seen_value w.reaction; answer = w.answer })
seen (Done a x) = Done a (seen_value x)
seen (Threw a x) = Threw a (seen_value x)
seen (Settle p x) = Settle p (seen_value x)
seen (LeftWait v x m) = LeftWait v (seen_value x) m
seen (LeftLink v w note) = LeftLink v w (seen_note note)
seen (Open v) = Open v
seen (Turn k v) = Turn k v
seen (Idle k) = Idle k
seen (Cut k v w) = Cut k v w
seen (Notice k v w) = Notice k v w
seen (Frame bytes) = Frame bytes
seen (Gone a) = Gone a
seen (Wait p q) = Wait p q
seen (View p q) = View p q
seen (LostCut m) = LostCut m
seen (LostBroken m) = LostBroken m
seen (LeftQueue v m) = LeftQueue v m
seen (LeftHeld v p m) = LeftHeld v p m
seen End = End
seen (Raw line) = Raw line
