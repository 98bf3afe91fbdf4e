-- That in each run each message is taken and carried with what it was sent with, as the lines tell; where the lines of a vat stand; and that lists are told.
use Rattle.std.specs.Prelude.{◌≡◌, ℕ, ◌+◌, List, [], ◌∷◌, ◌++◌, Some, slice_get, ◌⊎◌}
use Rattle.def_event.specs.declared.event.Event.{Event as ShownEvent}
use Rattle.def_machine.specs.Values.{Value, Name}
use Rattle.def_machine.specs.State.{Happened, ListMade, ListCame, Vat}
use Rattle.def_run.specs.World.{Script, Event, Here, World, run}
use Rattle.def_run.specs.Text.{shown_events, history_of}
use Rattle.law_uses.specs.Connectivity.Known.{IsAmong}
use Rattle.law_uses.specs.Connectivity.Begotten.{InEachRun}
use Rattle.def_event.specs.Uses.{Line, and_lines, place_of, TakesSent, CarriesSent, HoldsAt}

-- of a line of a whole history, after those before it: a message is taken with the arguments that it was sent with, and what is carried was there in the line before of the message, or is what that leads to, or a gift
abbrev pub MessageHolds : List ShownEvent → List Line → Line → Type 0
MessageHolds whole past l = TakesSent whole past l.event × CarriesSent past l.event

-- so it is of each line of each run, also of one that stopped, whatever words were drawn
abbrev pub MessagesAreAsSent : Type 0
MessagesAreAsSent = (script : Script) (draws : List ℕ) (k : ℕ) → HoldsAt (MessageHolds (shown_events draws (history_of (run script)))) (shown_events draws (history_of (run script))) k

-- Behind the lines before it each line of vat v stands at the place of that vat.
abbrev pub LinesStandAtTheirVats : Type 0
LinesStandAtTheirVats = (script : Script) (draws : List ℕ) (h k : List Event) (v : ℕ) (e : Happened Name) → history_of (run script) ≡ h ++ Here v e ∷ k → place_of (and_lines [] (shown_events draws h)) ≡ v + 1

-- a line of vat v says that its list of that number has these members: one that it made, or that came
abbrev pub SaysList : World → ℕ → ℕ → List (Value Name) → Type 0
SaysList w v k vs = ((a : ℕ) × IsAmong (Here v (ListMade a k vs)) w.history) ⊎ IsAmong (Here v (ListCame k vs)) w.history

-- each list of a vat, and no other
abbrev pub ListsAreTold : Script → World → Type 0
ListsAreTold script w = (v : ℕ) (s : Vat Name) → slice_get w.vats v ≡ Some s
    → ((k : ℕ) (vs : List (Value Name)) → slice_get s.lists k ≡ Some vs → SaysList w v k vs) × ((k : ℕ) (vs : List (Value Name)) → SaysList w v k vs → slice_get s.lists k ≡ Some vs)

-- in the world after any of the opening turns, and after all of them and any entries
abbrev pub ListsAreToldInRuns : Type 0
ListsAreToldInRuns = InEachRun ListsAreTold
