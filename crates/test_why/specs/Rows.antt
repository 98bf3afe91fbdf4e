-- Worked histories, and the first line of each that fails. Vat 0 is a, vat 1 is b, vat 2 is c.
use Rattle.std.specs.Prelude.{◌≡◌, ℕ, pos, List, [], ◌∷◌, ◌++◌, codes, Option, Some, None}
use Rattle.ev_base.specs.declared.names.Name.{Name}
use Rattle.ev_base.specs.declared.names.Name.TheVariants.{Object, Own, Answer, Root}
use Rattle.ev_base.specs.declared.names.Msg.{Msg}
use Rattle.def_event.specs.declared.shown.Shown.{Shown, Null, Int, List as ListOf, Name as Named}
use Rattle.def_event.specs.declared.note.ShownNote.{ShownNote}
use Rattle.def_event.specs.declared.note.ShownNote.TheVariants.{Deliver, Settled as SettledNote}
use Rattle.def_event.specs.declared.event.Event.{Event}
use Rattle.def_event.specs.declared.event.Event.TheVariants.{Open, Turn, Carry, Take, Got, Slot as SlotMade, Read, Wrote, Arrived, Promise, Made as ObjectMade, Send, Done, Settle, End}
use Rattle.def_event.specs.Uses.{place_after, raw_place}
use Rattle.def_why.specs.declared.fault.About.TheVariants as about
use Rattle.def_why.specs.declared.fault.Question.TheVariants.{Taken, Settled, Strict}
use Rattle.def_why.specs.declared.fault.Reason.{Reason}
use Rattle.def_why.specs.declared.fault.Reason.TheVariants.{TakenAgain, TakenElsewhere, SettledAgain, NotSent, CarriedElsewhere, OtherVerb, OtherData, SentAgain, NotOfItsVat, OtherAnswer, MadeAgain, SlotNotMade, ReadOtherwise, CameInNoNote, NotHanded, NotItsHost, ToldUnsettled, ToldOtherwise, SettledUntold}
use Rattle.def_why.specs.declared.fault.About.{About}
use Rattle.def_why.specs.declared.fault.Refusal.{Refusal}
use Rattle.def_why.specs.Faults.{opened_faults, refusal}

-- ---- lines

abbrev msg : ℕ → ℕ → Msg
msg v n = record { sender = v; number = n }

abbrev object : ℕ → ℕ → Shown
object v n = Named (Object v n)

abbrev made : ℕ → ℕ → Event
made v n = ObjectMade (record { activation = 0; object = object v n; name = codes "o"; caps = []; stamps = [] })

-- message m of vat v goes to host h
abbrev sends : ℕ → ℕ → Shown → List Shown → ℕ → Event
sends v m target args h = Send (record { activation = 0; message = msg v m; target = target; verb = codes "f"; args = args; answer = Answer h (msg v m) })

abbrev takes : ℕ → Msg → Shown → List Shown → Event
takes a m target args = Take (record { activation = a; message = m; target = target; verb = codes "f"; args = args })

abbrev asked_other : Msg → Shown → Event
asked_other m target = Take (record { activation = 1; message = m; target = target; verb = codes "g"; args = [] })

abbrev carries : Msg → List ℕ → List Shown → Event
carries m verb args = Carry 1 0 1 (Deliver m (Root 1) verb args)

abbrev fails : ℕ → Reason → About → Option Refusal
fails line reason of = Some (record { line = line; fault = record { reason = reason; about = of } })

abbrev m0 : Msg
m0 = msg 0 0

abbrev one : Shown
one = Int (pos 1)

abbrev two : Shown
two = Int (pos 2)

-- b publishes an object; a sends it a message, which is carried, taken and answered, and the answer comes to a
abbrev honest : List Event
honest =
    Open 0 ∷ sends 0 0 (Named (Root 1)) (one ∷ []) 1 ∷ Done 0 Null
    ∷ Open 1 ∷ made 1 0 ∷ Done 0 (object 1 0) ∷ Settle (Root 1) (object 1 0)
    ∷ carries m0 (codes "f") (one ∷ []) ∷ Turn 2 1 ∷ takes 1 m0 (object 1 0) (one ∷ []) ∷ Done 1 two ∷ Settle (Answer 1 m0) two
    ∷ Carry 3 1 0 (SettledNote (Answer 1 m0) two) ∷ Settle (Answer 1 m0) two ∷ []

abbrev pub HonestIsLetThrough : Type 0
HonestIsLetThrough = (refusal Taken honest ≡ None) × (refusal Settled honest ≡ None) × (refusal Strict honest ≡ None)

-- ---- messages are taken once, where they are

abbrev pub MessagesAreTakenOnce : Type 0
MessagesAreTakenOnce =
    (refusal Taken (honest ++ Turn 4 1 ∷ takes 2 m0 (object 1 0) (one ∷ []) ∷ []) ≡ fails 16 TakenAgain (about.Message m0))
    × (refusal Taken (Open 0 ∷ sends 0 0 (Named (Root 1)) [] 1 ∷ Turn 1 1 ∷ takes 0 m0 (object 1 0) [] ∷ []) ≡ fails 4 TakenElsewhere (about.Message m0))
    × (refusal Taken (Open 0 ∷ sends 0 0 (object 0 0) [] 0 ∷ Turn 1 0 ∷ takes 1 m0 (object 0 0) [] ∷ []) ≡ None)

abbrev pub NamesSettleOnce : Type 0
NamesSettleOnce =
    (refusal Settled (honest ++ Settle (Answer 1 m0) one ∷ []) ≡ fails 15 SettledAgain (about.Name (Answer 1 m0)))
    × (refusal Settled (Open 0 ∷ Settle (Root 0) one ∷ Settle (Root 1) one ∷ Open 1 ∷ Settle (Root 0) one ∷ []) ≡ None)

-- ---- what a check of uses believes

abbrev pub BeliefsAreJudged : Type 0
BeliefsAreJudged =
    (refusal Strict (Open 0 ∷ SlotMade 0 (0, 0) Null ∷ Read 0 (0, 0) (object 2 7) ∷ []) ≡ fails 3 ReadOtherwise (about.Slot 0 0))
    × (refusal Strict (Open 0 ∷ SlotMade 0 (0, 0) Null ∷ Wrote 0 (0, 0) one ∷ Read 0 (0, 0) one ∷ Read 0 (0, 0) Null ∷ []) ≡ fails 5 ReadOtherwise (about.Slot 0 0))
    × (refusal Strict (Open 0 ∷ Read 0 (0, 0) one ∷ []) ≡ fails 2 SlotNotMade (about.Slot 0 0))
    × (refusal Strict (Open 0 ∷ Got 0 (object 2 7) ∷ []) ≡ fails 2 NotHanded (about.Name (Object 2 7)))
    × (refusal Strict (Open 0 ∷ Arrived (0, 0) (object 2 7 ∷ []) ∷ []) ≡ fails 2 CameInNoNote (about.List 0 0))
    × (refusal Strict (Open 0 ∷ sends 0 0 (Named (Root 1)) [] 1 ∷ Settle (Answer 1 m0) (object 2 7) ∷ []) ≡ fails 3 SettledUntold (about.Name (Answer 1 m0)))
    × (refusal Strict (Open 0 ∷ made 0 0 ∷ Turn 1 0 ∷ takes 1 (msg 1 0) (object 0 0) (one ∷ []) ∷ []) ≡ fails 4 NotSent (about.Message (msg 1 0)))

-- ---- notes

abbrev pub NotesAreJudged : Type 0
NotesAreJudged =
    (refusal Strict (Open 0 ∷ sends 0 0 (Named (Root 1)) [] 1 ∷ carries m0 (codes "g") [] ∷ []) ≡ fails 3 OtherVerb (about.Message m0))
    × (refusal Strict (Open 0 ∷ sends 0 0 (Named (Root 1)) (one ∷ []) 1 ∷ carries m0 (codes "f") (two ∷ []) ∷ []) ≡ fails 3 OtherData (about.Message m0))
    × (refusal Strict (Open 0 ∷ sends 0 0 (Named (Root 1)) (Named (Root 2) ∷ []) 1 ∷ carries m0 (codes "f") (two ∷ []) ∷ []) ≡ None)
    × (refusal Strict (Open 0 ∷ carries m0 (codes "f") [] ∷ []) ≡ fails 2 NotSent (about.Message m0))
    × (refusal Strict (Open 0 ∷ sends 0 0 (object 0 0) [] 0 ∷ Turn 1 0 ∷ asked_other m0 (object 0 0) ∷ []) ≡ fails 4 OtherVerb (about.Message m0))
    × (refusal Strict (Open 1 ∷ Settle (Root 1) two ∷ Carry 1 1 0 (SettledNote (Root 1) one) ∷ []) ≡ fails 3 ToldOtherwise (about.Name (Root 1)))
    × (refusal Strict (Open 1 ∷ Carry 1 1 0 (SettledNote (Root 1) one) ∷ []) ≡ fails 2 ToldUnsettled (about.Name (Root 1)))
    × (refusal Strict (Open 1 ∷ Carry 1 1 0 (SettledNote (Root 2) one) ∷ []) ≡ fails 2 NotItsHost (about.Name (Root 2)))

-- ---- what is made

abbrev pub ThingsAreMadeOnce : Type 0
ThingsAreMadeOnce =
    (refusal Strict (Open 0 ∷ made 0 0 ∷ made 0 0 ∷ []) ≡ fails 3 MadeAgain (about.Name (Object 0 0)))
    × (refusal Strict (Open 0 ∷ made 1 0 ∷ []) ≡ fails 2 NotOfItsVat (about.Name (Object 1 0)))
    × (refusal Strict (Open 0 ∷ Promise 0 (Object 2 7) (object 0 1) ∷ []) ≡ fails 2 NotOfItsVat (about.Name (Object 2 7)))
    × (refusal Strict (Open 0 ∷ sends 0 0 (Named (Root 1)) [] 1 ∷ sends 0 0 (Named (Root 1)) [] 1 ∷ []) ≡ fails 3 SentAgain (about.Message m0))
    × (refusal Strict (Open 1 ∷ sends 0 0 (Named (Root 1)) [] 1 ∷ []) ≡ fails 2 NotOfItsVat (about.Message m0))

-- opens the definitions that do not open by themselves
unfoldable pub opened_rows : Unit {0}
unfolding opened_faults place_after raw_place
opened_rows = tt
