-- That in every world of a run each object that is named, be it of whatever vat, is there.
use Rattle.std.specs.Prelude.{◌≡◌, ℕ, zero, ◌<◌, List, ◌++◌, Some, None, length, slice_get}
use Rattle.def_machine.specs.Values.{Name, Root, Object, Promise, Answer, Gift, Sent}
use Rattle.def_machine.specs.State.{Vat}
use Rattle.def_run.specs.World.{Script, Program, Entry, World, Goes, begins, open_from, steps_from, names}
use Rattle.law_fate.specs.Name.Names.{Bit, Named, Mail, Drew, At, Off, Entered, Owns, Gave, AllOf, NoteOk, Everywhere, IsMessageName}
use Rattle.law_never_astray.specs.Things.{ThingsAreThere}

-- an object has a number below the count of its vat
abbrev pub IsBelow : (ℕ → ℕ) → Name → Type 0
IsBelow count (Object w i) = i < count w
IsBelow count (Root w) = Unit {0}
IsBelow count (Promise w i) = Unit {0}
IsBelow count (Answer h m) = Unit {0}
IsBelow count (Gift h i) = Unit {0}
IsBelow count (Sent m) = Unit {0}

-- and a message is named as one
abbrev pub AreBelow : (ℕ → ℕ) → Bit Name → Type 0
AreBelow count (Named n) = IsBelow count n
AreBelow count (Mail n) = IsMessageName n
AreBelow count (Drew i) = Unit {0}
AreBelow count (At h) = Unit {0}
AreBelow count (Off h) = Unit {0}
AreBelow count (Entered n) = IsBelow count n
AreBelow count (Owns n i) = IsBelow count n
AreBelow count (Gave i) = Unit {0}

-- how many things vat v has
unfoldable pub things_of : List (Vat Name) → ℕ → ℕ
things_of vats v = elim (slice_get vats v) [ Some s ↦ length s.things | None ↦ zero ]

-- each object that a vat names in what it has, and each that a note under way names, is one of the things of its vat
pub record ObjectsThere (w : World) : Type 0 where
  pub vats : (v : ℕ) (s : Vat Name) → slice_get w.vats v ≡ Some s → Everywhere (AreBelow (things_of w.vats)) s
  pub links : AllOf (λ l. AllOf (NoteOk (AreBelow (things_of w.vats))) l.notes) w.links

-- it holds of the world after any of the opening turns, and after all of them and any entries, of every script
abbrev pub InRuns : (Script → World → Type 0) → Type 0
InRuns P = (script : Script)
    → ((ps rest : List Program) (w : World) → script.vats ≡ ps ++ rest → open_from script zero ps (begins script) ≡ Goes w → P script w)
    × ((w x : World) (es : List Entry) (k : ℕ) → open_from script zero script.vats (begins script) ≡ Goes w → steps_from script es k w ≡ Goes x → P script x)

-- Law: so it is in runs.
abbrev pub ObjectsAreThere : Type 0
ObjectsAreThere = InRuns (λ script w. ObjectsThere w)

-- Law: so in every world of a run each vat is in a state from which its evaluation names no object of its own that is not there.
abbrev pub ThingsAreThereInRuns : Type 0
ThingsAreThereInRuns = InRuns (λ script w. (v : ℕ) (s : Vat Name) → slice_get w.vats v ≡ Some s → ThingsAreThere (names script v) s)

-- opens each definition of this file
unfoldable pub opened_objects : Unit {0}
unfolding things_of
opened_objects = tt
