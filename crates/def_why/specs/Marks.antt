-- What each line of a history is about, and the last line before another that is about something.
use Rattle.std.specs.Prelude.{ℕ, ◌+◌, Bool, true, false, if◌then◌else◌, List, [], ◌∷◌, ◌++◌, Option, Some, None}
use Rattle.def_event.specs.declared.shown.Shown.{Shown, List as ListOf, Name as Named}
use Rattle.def_event.specs.declared.note.ShownNote.{ShownNote}
use Rattle.def_event.specs.declared.note.ShownNote.TheVariants.{Deliver, DeliverOnly, Settled as SettledNote}
use Rattle.def_event.specs.declared.event.Event.{Event}
use Rattle.def_event.specs.declared.event.Called.{Called}
use Rattle.def_event.specs.declared.event.Event.TheVariants.{Open, Turn, Idle, Carry, Cut, Notice, Take, Call, Slot as SlotMade, Wrote, List as ListMade, Arrived, Ejector, Audition, Promise, Made as ObjectMade, Send, SendOnly, When, Settle, Wait, View, Raw}
use Rattle.def_event.specs.Uses.{Line}
use Rattle.def_why.specs.declared.mark.Mark.{Mark}
use Rattle.def_why.specs.declared.mark.Mark.TheVariants.{Step, Moved, Taken, Settled, Told, Led, Made, List as AList, Slot, Handed, HandedList}
use Rattle.def_why.specs.contracts.mark.MarkPartialEq.TheImpl.{eq-value}

-- the mark is one of these
abbrev pub has_mark : List Mark → Mark → Bool
has_mark [] m = false
has_mark (n ∷ ns) m = if eq-value.it n m then true else has_mark ns m

-- ---- of parts of lines

-- the name that is made
unfoldable pub made : Shown → List Mark
made (Named n) = Made n ∷ []
made _ = []

-- the name or the list that is handed on
unfoldable pub handed : ℕ → Shown → List Mark
handed at (Named n) = Handed at n ∷ []
handed at (ListOf v n) = HandedList at v n ∷ []
handed at _ = []

abbrev pub all_handed : ℕ → List Shown → List Mark
all_handed at [] = []
all_handed at (x ∷ xs) = handed at x ++ all_handed at xs

-- a call that begins no activation, as one of an ejector
abbrev pub called : ℕ → Called → Option ℕ → List Mark
called at c None = all_handed at c.args
called at c (Some b) = []

-- a note that comes to a place
unfoldable pub noted : ℕ → ShownNote → List Mark
noted at (Deliver m target verb args) = Moved m ∷ []
noted at (DeliverOnly m target verb args) = Moved m ∷ []
noted at (SettledNote n x) = Told at n ∷ []
noted at _ = []

-- ---- of lines

-- a line at a place
unfoldable pub marks : ℕ → Event → List Mark
marks at (Open v) = Step ∷ []
marks at (Turn k v) = Step ∷ []
marks at (Idle k) = Step ∷ []
marks at (Cut k v w) = Step ∷ []
marks at (Notice k v w) = Step ∷ []
marks at (Raw line) = Step ∷ []
marks at (Carry k v w note) = Step ∷ noted at note
marks at (Take t) = Taken t.message ∷ []
marks at (Send s) = Moved s.message ∷ []
marks at (SendOnly s) = Moved s.message ∷ []
marks at (When w) = Moved w.message ∷ []
marks at (Settle p x) = Settled at p ∷ []
marks at (Wait p q) = Led at p ∷ []
marks at (View p q) = Led at p ∷ []
marks at (ObjectMade o) = made o.object
marks at (Ejector a o) = made o
marks at (Audition a o) = made o
marks at (Promise a p o) = Made p ∷ made o
marks at (ListMade a l members) = AList l.0 l.1 ∷ []
marks at (Arrived l members) = AList l.0 l.1 ∷ []
marks at (SlotMade a s x) = Slot s.0 s.1 ∷ []
marks at (Wrote a s x) = Slot s.0 s.1 ∷ []
marks at (Call c) = called at c c.begun
marks at _ = []

-- the last of these lines that is about it
abbrev pub last_about : List Line → Mark → Option Event
last_about [] m = None
last_about (l ∷ past) m = if has_mark (marks l.at l.event) m then Some l.event else last_about past m

-- opens the definitions of this file
unfoldable pub opened_marks : Unit {0}
unfolding made handed noted marks
opened_marks = tt
