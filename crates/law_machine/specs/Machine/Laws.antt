-- What no step of a vat undoes.
use Rattle.std.specs.Prelude.{◌≡◌, ℕ, ◌≤◌, true, false, List, ◌++◌, Some, slice_get}
use Rattle.def_machine.specs.Values.{Words, Value, Broken, Ref, Name, Local, Naming, key, word_of, provider_of}
use Rattle.def_machine.specs.State.{Binding, Cell, View, Made, Ejector, Audition, Resolver, Known, Settled, Happened, Put, Vat, is_in}
use Rattle.def_machine.specs.Refs.{entry_of, standing_of, follow}
use Rattle.law_machine.specs.Machine.Steps.{KeptBySteps, StepsEnd, IsQuiet}

-- the fuel that is left
abbrev pub NoMoreFuel : {N : Type 0} → Vat N → Vat N → Type 0
NoMoreFuel s t = t.fuel ≤ s.fuel

-- what has a number keeps it: each member of a list stays at its place
abbrev pub Stays : {A : Type 0} → List A → List A → Type 0
Stays {A} xs ys = (i : ℕ) (x : A) → slice_get xs i ≡ Some x → slice_get ys i ≡ Some x

-- an object's node, captures and stamps
abbrev pub SameObjects : {N : Type 0} → Vat N → Vat N → Type 0
SameObjects {N} s t = (i node : ℕ) (caught : List (Binding N)) (stamps : List (Value N))
    → slice_get s.things i ≡ Some (Made node caught stamps) → slice_get t.things i ≡ Some (Made node caught stamps)

-- a resolver's promise
abbrev pub SameResolvers : {N : Type 0} → Vat N → Vat N → Type 0
SameResolvers {N} s t = (i : ℕ) (p : N) → slice_get s.things i ≡ Some (Resolver p) → slice_get t.things i ≡ Some (Resolver p)

-- an ejector that is dead stays dead
abbrev pub DeadEjectors : {N : Type 0} → Vat N → Vat N → Type 0
DeadEjectors s t = (i : ℕ) → slice_get s.things i ≡ Some (Ejector false) → slice_get t.things i ≡ Some (Ejector false)

-- and so does an audition
abbrev pub DeadAuditions : {N : Type 0} → Vat N → Vat N → Type 0
DeadAuditions {N} s t = (i : ℕ) (view : View N) → slice_get s.things i ≡ Some (Audition false view) → slice_get t.things i ≡ Some (Audition false view)

-- a list's members
abbrev pub SameLists : {N : Type 0} → Vat N → Vat N → Type 0
SameLists s t = Stays s.lists t.lists

-- a var slot's guard
abbrev pub SameGuards : {N : Type 0} → Vat N → Vat N → Type 0
SameGuards {N} s t = (i : ℕ) (c : Cell N) → slice_get s.slots i ≡ Some c → (d : Cell N) × (slice_get t.slots i ≡ Some d) × (d.guard ≡ c.guard)

-- the place of a name among those known, and its host
abbrev pub SameNames : {N : Type 0} → Vat N → Vat N → Type 0
SameNames {N} s t = (i : ℕ) (k : Known N) → slice_get s.known i ≡ Some k → (j : Known N) × (slice_get t.known i ≡ Some j) × (j.name ≡ k.name) × (j.host ≡ k.host)

-- the messages that a vat has had, and the words that were drawn
abbrev pub SameMails : {N : Type 0} → Vat N → Vat N → Type 0
SameMails s t = Stays s.mails t.mails

abbrev pub SameDraws : {N : Type 0} → Vat N → Vat N → Type 0
SameDraws s t = Stays s.drawn t.drawn

-- what is known of a name that settled, above all to what it settled
abbrev pub SettledStays : {N W : Type 0} → Naming N W → Vat N → Vat N → Type 0
SettledStays {N} K s t = (n : N) (k : Known N) (y : Value N) → entry_of K s.known n ≡ Some k → k.standing ≡ Settled y → entry_of K t.known n ≡ Some k

-- a name that settled to a broken reference is followed to that broken reference
abbrev pub BrokenStays : {N W : Type 0} → Naming N W → Vat N → Vat N → Type 0
BrokenStays {N} K s t = (n : N) (p : Words) → standing_of K s.known n ≡ Settled (Broken p) → follow K t (Ref n) ≡ Broken p

-- a cut that was noticed
abbrev pub NoticedStays : {N : Type 0} → Vat N → Vat N → Type 0
NoticedStays s t = (w : ℕ) → is_in w s.noticed ≡ true → is_in w t.noticed ≡ true

-- what has happened, and the notes put, are added to at the end
abbrev pub AddsAtEnd : {N : Type 0} → Vat N → Vat N → Type 0
AddsAtEnd {N} s t = ((es : List (Happened N)) × (t.happened ≡ s.happened ++ es)) × ((ps : List (Put N)) × (t.outbox ≡ s.outbox ++ ps))

-- each between states under global names and between states under local numbers
abbrev pub ForAllSteps : (Vat Name → Vat Name → Type 0) → (Vat Local → Vat Local → Type 0) → Type 0
ForAllSteps R Q = KeptBySteps {N = Name} {W = Name} (λ K. R) × KeptBySteps {N = Local} {W = Name} (λ K. Q)

abbrev pub FuelNeverRises : Type 0
FuelNeverRises = ForAllSteps NoMoreFuel NoMoreFuel

abbrev pub ObjectsStay : Type 0
ObjectsStay = ForAllSteps SameObjects SameObjects

abbrev pub ResolversStay : Type 0
ResolversStay = ForAllSteps SameResolvers SameResolvers

abbrev pub EjectorsStayDead : Type 0
EjectorsStayDead = ForAllSteps DeadEjectors DeadEjectors

abbrev pub AuditionsStayDead : Type 0
AuditionsStayDead = ForAllSteps DeadAuditions DeadAuditions

abbrev pub ListsStay : Type 0
ListsStay = ForAllSteps SameLists SameLists

abbrev pub GuardsStay : Type 0
GuardsStay = ForAllSteps SameGuards SameGuards

abbrev pub NamesStay : Type 0
NamesStay = ForAllSteps SameNames SameNames

abbrev pub MailsStay : Type 0
MailsStay = ForAllSteps SameMails SameMails

abbrev pub DrawsStay : Type 0
DrawsStay = ForAllSteps SameDraws SameDraws

abbrev pub NoticesStay : Type 0
NoticesStay = ForAllSteps NoticedStays NoticedStays

abbrev pub HistoryGrows : Type 0
HistoryGrows = ForAllSteps AddsAtEnd AddsAtEnd

abbrev pub SettlingsStay : Type 0
SettlingsStay = KeptBySteps {N = Name} {W = Name} SettledStays × KeptBySteps {N = Local} {W = Name} SettledStays

abbrev pub BreakingsStay : Type 0
BreakingsStay = KeptBySteps {N = Name} {W = Name} BrokenStays × KeptBySteps {N = Local} {W = Name} BrokenStays

-- no problem is thrown out of a step and nothing leaves it by an ejector
abbrev pub StepsAreQuiet : Type 0
StepsAreQuiet = StepsEnd Name Name IsQuiet × StepsEnd Local Name IsQuiet

-- ---- keys of gifts

-- The key of a gift tells its provider and its word, and each number is the key of the two that it tells.
abbrev pub KeysTell : Type 0
KeysTell = ((p w : ℕ) → provider_of (key p w) ≡ p) × ((p w : ℕ) → word_of (key p w) ≡ w) × ((i : ℕ) → key (provider_of i) (word_of i) ≡ i)
