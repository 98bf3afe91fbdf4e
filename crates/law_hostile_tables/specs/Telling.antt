-- What each step of an honest vat tells, in runs with hostile vats: each name that comes to be known in it is told, and the promises of its own come in order.
use Rattle.std.specs.Prelude.{◌≡◌, ℕ, zero, false, List, [], ◌∷◌, Some, slice_get}
use Rattle.def_machine.specs.Values.{Name}
use Rattle.def_machine.specs.State.{Note, Vat, Gives}
use Rattle.def_machine.specs.Receive.{receive}
use Rattle.def_run.specs.World.{Link, World, link_at, names, names_of, read_note, readied}
use Rattle.def_hostile.specs.Hostile.{Play}
use Rattle.law_adversary.specs.Moves.{entered_at, sight_at}
use Rattle.law_fate.specs.Name.Names.{IsAmong, names_in}
use Rattle.law_frame.specs.Frame.Lines.{carried_in}
use Rattle.law_frame.specs.Local.Told.{own_promises, promises_from, IsBroughtBy}
use Rattle.law_frame.specs.Local.Naming.{Tells}
use Rattle.law_injected.specs.HostileRuns.{IsHostile, IsReached}
use Rattle.law_lawful.specs.Lawful.{InScenes}
use Rattle.law_hostile_tables.specs.Steps.{InOwnSteps}

-- The promises of its own that an honest vat knows are those that it made, in order and each once.
abbrev pub OwnPromisesAreInOrder : Type 0
OwnPromisesAreInOrder = InScenes (λ play w. (u : ℕ) (s : Vat Name) → slice_get w.vats u ≡ Some s → (IsHostile play u → ⊥) → own_promises u (names_in s.known) ≡ promises_from u zero s.promises)

-- of a step that no note brings
abbrev pub OwnStepsTellNames : Type 0
OwnStepsTellNames = InOwnSteps (λ play w u s r. Tells u s r [] [])

-- Of a note that is received by its entries from any vat, honest or hostile: what it brought besides are the names among those that came.
abbrev pub NotesTellNames : Type 0
NotesTellNames = (play : Play) (w : World) → IsReached play w → (a u : ℕ) (l : Link) (n : Note Name) (ns : List (Note Name)) (s r : Vat Name)
    → (IsHostile play u → ⊥) → link_at a u w.links ≡ Some l → l.cut ≡ false → l.notes ≡ n ∷ ns → slice_get w.vats u ≡ Some s
    → receive (names play.script u) (sight_at w a u s) a (read_note (names_of s) (entered_at w a u s n)) (readied w s) ≡ Gives tt r
    → (came : List Name) → ((x : Name) → IsBroughtBy u (names_in s.known) (Some (entered_at w a u s n)) x → IsAmong x came)
    → Tells u s r (carried_in (entered_at w a u s n)) came
