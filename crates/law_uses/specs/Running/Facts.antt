-- What the lines of a run tell of activations: that each begins once, and what each was given.
use Rattle.std.specs.Prelude.{◌≡◌, ℕ, ◌+◌, List, [], ◌∷◌, ◌++◌, Some}
use Rattle.def_machine.specs.Values.{Value, Name}
use Rattle.def_machine.specs.State.{Happened, AuditionMade}
use Rattle.def_run.specs.World.{Script, Event, Opens, Here, run}
use Rattle.def_run.specs.Shown.{shown_name, shown_value}
use Rattle.def_run.specs.Text.{shown_events, history_of}
use Rattle.law_uses.specs.Connectivity.Activations.{begun_by}
use Rattle.law_uses.specs.Connectivity.Known as machine
use Rattle.law_uses.specs.Connectivity.Known.{AValue, tells}
use Rattle.def_event.specs.Uses.{Line, and_lines, Activation, Thing, Begun, Opened, Given, Audition, IsTold, IsAmong, things_of}

-- the lines that show these events
abbrev pub lines_of : List ℕ → List Event → List Line
lines_of draws es = and_lines [] (shown_events draws es)

-- activation b of vat v, by the place of its lines
abbrev pub activation : ℕ → ℕ → Activation
activation v b = record { at = v + 1; number = b }

-- The line that opens vat v begins its activation 0, and each other activation begins by a line of the vat: the lines before do not tell that it has begun, and with that line they do.
abbrev pub BeginsHere : List ℕ → List Event → Event → ℕ → ℕ → Type 0
BeginsHere draws h e v b = (IsTold (lines_of draws h) (Begun (activation v b)) → ⊥) × IsTold (lines_of draws (h ++ e ∷ [])) (Begun (activation v b))

abbrev pub ActivationsBeginOnce : Type 0
ActivationsBeginOnce = (script : Script) (draws : List ℕ) (h k : List Event) (v : ℕ)
    → ((e : Happened Name) (b : ℕ) → history_of (run script) ≡ h ++ Here v e ∷ k → begun_by e ≡ Some b → BeginsHere draws h (Here v e) v b)
    × (history_of (run script) ≡ h ++ Opens v ∷ k → BeginsHere draws h (Opens v) v 0)

-- What a line of vat v makes known to an activation, the lines up to it tell: of each value, the name or the list that it is.
abbrev pub LinesTellWhatIsGiven : Type 0
LinesTellWhatIsGiven = (script : Script) (draws : List ℕ) (h k : List Event) (v : ℕ) (e : Happened Name) → history_of (run script) ≡ h ++ Here v e ∷ k
    → (a : ℕ) (x : Value Name) → machine.IsAmong (a, AValue x) (tells e) → (t : Thing) → IsAmong t (things_of (shown_value draws v x)) → IsTold (lines_of draws (h ++ Here v e ∷ [])) (Given (activation v a) t)

-- They tell which activation opens a vat, and which names are auditions.
abbrev pub OpeningsAreTold : Type 0
OpeningsAreTold = (script : Script) (draws : List ℕ) (h k : List Event) (v : ℕ)
    → (history_of (run script) ≡ h ++ Opens v ∷ k → IsTold (lines_of draws (h ++ Opens v ∷ [])) (Opened (activation v 0)))
    × ((a : ℕ) (n : Name) → history_of (run script) ≡ h ++ Here v (AuditionMade a n) ∷ k → IsTold (lines_of draws (h ++ Here v (AuditionMade a n) ∷ [])) (Audition (shown_name draws n)))
