-- What a vat does with a note, whoever sent it.
use Rattle.std.specs.Prelude.{◌≡◌, ℕ, true, false}
use Rattle.def_machine.specs.Values.{Name, Local, Naming}
use Rattle.def_machine.specs.State.{Note, Vat, Gives}
use Rattle.def_machine.specs.Arrive.{Incoming, arrive}
use Rattle.def_machine.specs.Receive.{Sight, tells_nothing, leads_back, break_back, receive}
use Rattle.law_machine.specs.Machine.Steps.{After}
use Rattle.law_machine.specs.Machine.Laws.{NoMoreFuel, SameObjects, SameResolvers, DeadEjectors, DeadAuditions, SameLists, SameGuards, SameNames, SameMails, SameDraws, SettledStays, BrokenStays, NoticedStays, AddsAtEnd}

-- all that no step undoes
abbrev pub UndoesNothing : {N W : Type 0} → Naming N W → Vat N → Vat N → Type 0
UndoesNothing K s t = NoMoreFuel s t × SameObjects s t × SameResolvers s t × DeadEjectors s t × DeadAuditions s t × SameLists s t × SameGuards s t × SameNames s t × SameMails s t × SameDraws s t
    × SettledStays K s t × BrokenStays K s t × NoticedStays s t × AddsAtEnd s t

abbrev KeptByReceiving : {N W : Type 0} → (Naming N W → Vat N → Vat N → Type 0) → Type 0
KeptByReceiving {N} {W} R = (K : Naming N W) (sight : Sight N) (from : ℕ) (n : Note (Incoming N W)) (s : Vat N) → After (R K) s (receive K sight from n s)

-- Whatever the note and whoever sent it, receiving it undoes nothing.
abbrev pub ReceivingUndoesNothing : Type 0
ReceivingUndoesNothing = KeptByReceiving {N = Name} {W = Name} UndoesNothing × KeptByReceiving {N = Local} {W = Name} UndoesNothing

abbrev DoesNothing : (N W : Type 0) → Type 0
DoesNothing N W = (K : Naming N W) (sight : Sight N) (from : ℕ) (n : Note (Incoming N W)) (s : Vat N) → tells_nothing K sight from n s ≡ true → receive K sight from n s ≡ Gives tt s

-- A note that tells a vat nothing new does nothing.
abbrev pub NothingNewDoesNothing : Type 0
NothingNewDoesNothing = DoesNothing Name Name × DoesNothing Local Name

abbrev Arrives : (N W : Type 0) → Type 0
Arrives N W = (K : Naming N W) (sight : Sight N) (from : ℕ) (n : Note (Incoming N W)) (s : Vat N) → tells_nothing K sight from n s ≡ false → leads_back K sight n s ≡ false → receive K sight from n s ≡ arrive K from n s

-- One that tells something new, and leads to no gift that the vat has, arrives as each note of an honest vat does.
abbrev pub NewNotesArrive : Type 0
NewNotesArrive = Arrives Name Name × Arrives Local Name

-- What receiving a note is at a vat: it does nothing, or breaks a name that leads back, or arrives.
pub data Receiving {N W : Type 0} (K : Naming N W) (sight : Sight N) (from : ℕ) (n : Note (Incoming N W)) (s : Vat N) : Type 0 where
  Ignored : tells_nothing K sight from n s ≡ true → receive K sight from n s ≡ Gives tt s → Receiving K sight from n s
  BrokenBack : tells_nothing K sight from n s ≡ false → leads_back K sight n s ≡ true → receive K sight from n s ≡ break_back K n s → Receiving K sight from n s
  Arrived : tells_nothing K sight from n s ≡ false → leads_back K sight n s ≡ false → receive K sight from n s ≡ arrive K from n s → Receiving K sight from n s

abbrev IsOneOfThree : (N W : Type 0) → Type 0
IsOneOfThree N W = (K : Naming N W) (sight : Sight N) (from : ℕ) (n : Note (Incoming N W)) (s : Vat N) → Receiving K sight from n s

-- Each receiving is one of these.
abbrev pub EachReceivingIsTold : Type 0
EachReceivingIsTold = IsOneOfThree Name Name × IsOneOfThree Local Name
