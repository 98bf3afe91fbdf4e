-- What fails at a line, by what the lines before it say last about each thing.
use Rattle.std.specs.Prelude.{ℕ, ◌+◌, ◌==◌, Bool, true, false, ◌&&◌, ◌||◌, not, if◌then◌else◌, List, [], ◌∷◌, length, codes, is_some, Option, Some, None}
use Rattle.std.specs.Str.{bytes_eq}
use Rattle.ev_base.specs.declared.names.Msg.{Msg}
use Rattle.ev_base.specs.declared.names.Name.{Name}
use Rattle.ev_base.specs.declared.names.Name.TheVariants.{Object, Own, Answer, Gift, Root, Claimed}
use Rattle.ev_base.specs.contracts.names.MsgPartialEq.TheImpl as msg
use Rattle.def_event.specs.declared.shown.Shown.{Shown, Null, Broken, List as ListOf, Name as Named}
use Rattle.def_event.specs.declared.note.ShownNote.{ShownNote}
use Rattle.def_event.specs.declared.note.ShownNote.TheVariants.{Deliver, DeliverOnly, Settled as SettledNote}
use Rattle.def_event.specs.declared.event.Event.{Event}
use Rattle.def_event.specs.declared.event.Event.TheVariants.{Carry, Take, Got, Slot as SlotMade, Read, Wrote, List as ListMade, Arrived, Ejector, Audition, Promise, Made as ObjectMade, Send, SendOnly, When, Settle, Wait, View}
use Rattle.def_event.specs.Uses.{Line, line_after}
use Rattle.def_why.specs.declared.mark.Mark.{Mark}
use Rattle.def_why.specs.declared.mark.Mark.TheVariants.{Step, Moved, Taken, Settled, Told, Led, Made, List as AList, Slot, Handed, HandedList}
use Rattle.def_why.specs.declared.fault.About.{About}
use Rattle.def_why.specs.declared.fault.About.TheVariants as about
use Rattle.def_why.specs.declared.fault.Fault.{Fault}
use Rattle.def_why.specs.declared.fault.Question.{Question}
use Rattle.def_why.specs.declared.fault.Question.TheVariants as asked
use Rattle.def_why.specs.declared.fault.Reason.{Reason}
use Rattle.def_why.specs.declared.fault.Reason.TheVariants.{TakenAgain, TakenElsewhere, SettledAgain, NotSent, CarriedElsewhere, OtherVerb, OtherData, SentAgain, NotOfItsVat, OtherAnswer, MadeAgain, SlotNotMade, ReadOtherwise, CameInNoNote, NotHanded, NotItsHost, ToldUnsettled, ToldOtherwise, SettledUntold}
use Rattle.def_why.specs.declared.fault.Refusal.{Refusal}
use Rattle.def_why.specs.Marks.{last_about, opened_marks}
use Rattle.def_why.specs.Values.{is_told_as, may_all_be, opened_values, same}

-- the last line about something
abbrev pub Past : Type 0
Past = Mark → Option Event

abbrev pub fault : Reason → About → Option Fault
fault reason of = Some (record { reason = reason; about = of })

-- it fails unless this is so
abbrev pub unless : Bool → Reason → About → Option Fault
unless true reason of = None
unless false reason of = fault reason of

-- the first that fails
abbrev pub or_else : Option Fault → Option Fault → Option Fault
or_else None other = other
or_else (Some f) other = Some f

-- ---- messages

-- the place where a message is, by the last line that moves it: where it was carried to, else at its sender
unfoldable pub whereabouts : Msg → Option Event → ℕ
whereabouts m (Some (Carry k v w note)) = w + 1
whereabouts m _ = m.sender + 1

-- it is taken once, and only where it was carried to
abbrev pub taken_once : Past → ℕ → Msg → Option Fault
taken_once past at m =
    or_else (unless (not (is_some (past (Taken m)))) TakenAgain (about.Message m))
    (unless (whereabouts m (past (Moved m)) == at) TakenElsewhere (about.Message m))

-- of a message with this verb and these arguments, by those with which it was moved before
abbrev pub came_as : Msg → List ℕ → List Shown → List ℕ → List Shown → Option Fault
came_as m verb args was had =
    or_else (unless (bytes_eq was verb) OtherVerb (about.Message m)) (unless (may_all_be had args) OtherData (about.Message m))

unfoldable pub came_in : Msg → List ℕ → List Shown → ShownNote → Option Fault
came_in m verb args (Deliver n target was had) = came_as m verb args was had
came_in m verb args (DeliverOnly n target was had) = came_as m verb args was had
came_in m verb args _ = fault NotSent (about.Message m)

-- and so by the line that moved it last; a reaction comes with what it waited for
unfoldable pub came : Msg → List ℕ → List Shown → Option Event → Option Fault
came m verb args (Some (Send s)) = came_as m verb args s.verb s.args
came m verb args (Some (SendOnly s)) = came_as m verb args s.verb s.args
came m verb args (Some (When w)) = came_as m verb args (codes "run") (w.value ∷ [])
came m verb args (Some (Carry k v w note)) = came_in m verb args note
came m verb args _ = fault NotSent (about.Message m)

-- a message is carried from where it is, as it was moved there
abbrev pub carried : Past → ℕ → Msg → List ℕ → List Shown → Option Fault
carried past v m verb args =
    or_else (came m verb args (past (Moved m))) (unless (whereabouts m (past (Moved m)) == v + 1) CarriedElsewhere (about.Message m))

-- a message is sent once, by its vat
abbrev pub sent : Past → ℕ → Msg → Option Fault
sent past at m =
    or_else (unless (m.sender + 1 == at) NotOfItsVat (about.Message m)) (unless (not (is_some (past (Moved m)))) SentAgain (about.Message m))

unfoldable pub is_answer_of : Msg → Name → Bool
is_answer_of m (Answer host n) = msg.eq-value.it m n
is_answer_of m _ = false

-- with the name of its own answer
abbrev pub answered : Past → ℕ → Msg → Name → Option Fault
answered past at m answer = or_else (sent past at m) (unless (is_answer_of m answer) OtherAnswer (about.Name answer))

-- ---- what is made

-- a name is made once, at its vat
abbrev pub new_name : Past → Bool → Name → Option Fault
new_name past at_home n =
    or_else (unless at_home NotOfItsVat (about.Name n)) (unless (not (is_some (past (Made n)))) MadeAgain (about.Name n))

unfoldable pub is_object_at : ℕ → Name → Bool
is_object_at at (Object v n) = v + 1 == at
is_object_at at _ = false

unfoldable pub is_promise_at : ℕ → Name → Bool
is_promise_at at (Own v n) = v + 1 == at
is_promise_at at _ = false

-- an object, ejector, resolver or audition
unfoldable pub new_object : Past → ℕ → Shown → Option Fault
new_object past at (Named n) = new_name past (is_object_at at n) n
new_object past at _ = None

abbrev pub new_promise : Past → ℕ → Name → Shown → Option Fault
new_promise past at p o = or_else (new_name past (is_promise_at at p) p) (new_object past at o)

abbrev pub new_list : Past → ℕ → ℕ → ℕ → Option Fault
new_list past at v n =
    or_else (unless (v + 1 == at) NotOfItsVat (about.List v n)) (unless (not (is_some (past (AList v n)))) MadeAgain (about.List v n))

abbrev pub new_slot : Past → ℕ → ℕ → ℕ → Option Fault
new_slot past at v n =
    or_else (unless (v + 1 == at) NotOfItsVat (about.Slot v n)) (unless (not (is_some (past (Slot v n)))) MadeAgain (about.Slot v n))

-- ---- slots, lists and ejectors

-- what a slot holds, by the line that wrote it last, is this
unfoldable pub holds : Option Event → Shown → Bool
holds (Some (SlotMade a s y)) x = same y x
holds (Some (Wrote a s y)) x = same y x
holds _ x = false

-- it was made before
abbrev pub wrote : Past → ℕ → ℕ → Option Fault
wrote past v n = unless (is_some (past (Slot v n))) SlotNotMade (about.Slot v n)

-- what is read was written last
abbrev pub read : Past → ℕ → ℕ → Shown → Option Fault
read past v n x = or_else (wrote past v n) (unless (holds (past (Slot v n)) x) ReadOtherwise (about.Slot v n))

unfoldable pub is_carry : Option Event → Bool
is_carry (Some (Carry k v w note)) = true
is_carry _ = false

-- a list comes in a step that carries a note
abbrev pub arrived : Past → ℕ → ℕ → ℕ → Option Fault
arrived past at v n = or_else (new_list past at v n) (unless (is_carry (past Step)) CameInNoNote (about.List v n))

-- what an ejector gives was handed on by a call
unfoldable pub got : Past → ℕ → Shown → Option Fault
got past at (Named n) = unless (is_some (past (Handed at n))) NotHanded (about.Name n)
got past at (ListOf v n) = unless (is_some (past (HandedList at v n))) NotHanded (about.List v n)
got past at _ = None

-- ---- what names settle to

abbrev pub settled_once : Past → ℕ → Name → Option Fault
settled_once past at p = unless (not (is_some (past (Settled at p)))) SettledAgain (about.Name p)

unfoldable pub host : Name → ℕ
host (Object v n) = v
host (Own v n) = v
host (Answer v m) = v
host (Gift v n) = v
host (Root v) = v
host (Claimed v p word) = v

-- a settle line gives this
unfoldable pub settles_to : Option Event → Shown → Bool
settles_to (Some (Settle p y)) x = same y x
settles_to _ x = false

-- a note that came tells this
unfoldable pub told_in : ShownNote → Shown → Bool
told_in (SettledNote n y) x = is_told_as y x
told_in _ x = false

unfoldable pub tells : Option Event → Shown → Bool
tells (Some (Carry k v w note)) x = told_in note x
tells _ x = false

-- the name for which another waits, or its view, settled so at the place
unfoldable pub leads_to : Past → ℕ → Option Event → Shown → Bool
leads_to past at (Some (Wait p q)) x = settles_to (past (Settled at q)) x
leads_to past at (Some (View p q)) x = settles_to (past (Settled at q)) x
leads_to past at _ x = false

unfoldable pub is_broken : Shown → Bool
is_broken (Broken problem) = true
is_broken _ = false

-- A name settles at a place which is not its host to what a note told, or what its host gave, or what it waited for or viewed came to; or it breaks.
abbrev pub is_founded : Past → ℕ → Name → Shown → Bool
is_founded past at p x =
    (host p + 1 == at) || is_broken x || tells (past (Told at p)) x || settles_to (past (Settled (host p + 1) p)) x || leads_to past at (past (Led at p)) x

abbrev pub founded : Past → ℕ → Name → Shown → Option Fault
founded past at p x = unless (is_founded past at p x) SettledUntold (about.Name p)

-- what a settle line gives is what the note tells
unfoldable pub settled_as : Option Event → Shown → Bool
settled_as (Some (Settle p x)) note = is_told_as note x
settled_as _ note = false

-- a vat tells what a name of its own settled to there, or that it is broken, as what is too heavy to be told
abbrev pub told : Past → ℕ → Name → Shown → Option Fault
told past v n x =
    or_else (unless (host n == v) NotItsHost (about.Name n))
    (or_else (unless (is_some (past (Settled (v + 1) n))) ToldUnsettled (about.Name n))
    (unless (is_broken x || settled_as (past (Settled (v + 1) n)) x) ToldOtherwise (about.Name n)))

-- ---- lines

unfoldable pub carried_note : Past → ℕ → ShownNote → Option Fault
carried_note past v (Deliver m target verb args) = carried past v m verb args
carried_note past v (DeliverOnly m target verb args) = carried past v m verb args
carried_note past v (SettledNote n x) = told past v n x
carried_note past v _ = None

unfoldable pub strict_fault : Past → ℕ → Event → Option Fault
strict_fault past at (Take t) = came t.message t.verb t.args (past (Moved t.message))
strict_fault past at (Carry k v w note) = carried_note past v note
strict_fault past at (Send s) = answered past at s.message s.answer
strict_fault past at (SendOnly s) = sent past at s.message
strict_fault past at (When w) = answered past at w.message w.answer
strict_fault past at (ObjectMade o) = new_object past at o.object
strict_fault past at (Ejector a o) = new_object past at o
strict_fault past at (Audition a o) = new_object past at o
strict_fault past at (Promise a p o) = new_promise past at p o
strict_fault past at (ListMade a l members) = new_list past at l.0 l.1
strict_fault past at (Arrived l members) = arrived past at l.0 l.1
strict_fault past at (SlotMade a s x) = new_slot past at s.0 s.1
strict_fault past at (Wrote a s x) = wrote past s.0 s.1
strict_fault past at (Read a s x) = read past s.0 s.1 x
strict_fault past at (Got a x) = got past at x
strict_fault past at (Settle p x) = founded past at p x
strict_fault past at _ = None

unfoldable pub taken_fault : Past → ℕ → Event → Option Fault
taken_fault past at (Take t) = taken_once past at t.message
taken_fault past at _ = None

unfoldable pub settled_fault : Past → ℕ → Event → Option Fault
settled_fault past at (Settle p x) = settled_once past at p
settled_fault past at _ = None

-- what is asked of a line at a place
abbrev pub fault_at : Question → Past → ℕ → Event → Option Fault
fault_at asked.Taken past at e = taken_fault past at e
fault_at asked.Settled past at e = settled_fault past at e
fault_at asked.Strict past at e = strict_fault past at e

-- ---- the first line that fails

abbrev pub found : ℕ → Option Fault → Option Refusal → Option Refusal
found line None others = others
found line (Some f) others = Some (record { line = line; fault = f })

-- behind these lines
abbrev pub refusal_from : Question → List Line → List Event → Option Refusal
refusal_from q past [] = None
refusal_from q past (e ∷ es) =
    let l = line_after past e in found (length past + 1) (fault_at q (last_about past) l.at e) (refusal_from q (l ∷ past) es)

-- of a whole history
abbrev pub refusal : Question → List Event → Option Refusal
refusal q events = refusal_from q [] events

-- opens the definitions of these files
unfoldable pub opened_faults : Unit {0}
unfolding opened_marks opened_values whereabouts came_in came is_answer_of is_object_at is_promise_at new_object holds is_carry got host settles_to told_in tells leads_to is_broken settled_as carried_note strict_fault taken_fault settled_fault
opened_faults = tt
