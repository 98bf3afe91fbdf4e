-- What each step of an honest vat leaves, in runs with hostile vats: what it put can be written by numbers, and it tells each name that came to be known.
use Rattle.std.specs.Prelude.{◌≡◌, ℕ, Some, slice_get}
use Rattle.def_machine.specs.Values.{Name, Gift}
use Rattle.def_machine.specs.State.{Vat}
use Rattle.def_run.specs.World.{World, has_name}
use Rattle.def_hostile.specs.Hostile.{Play}
use Rattle.law_machine.specs.Machine.Steps.{Step}
use Rattle.law_machine.specs.Run.Moves.{IsAlone, Does}
use Rattle.law_fate.specs.Name.Names.{names_in}
use Rattle.law_frame.specs.Local.Writing.{PutsSo}
use Rattle.law_injected.specs.HostileRuns.{IsHostile, IsReached}
use Rattle.law_lawful.specs.Lawful.{InScenes}

-- In each scene, of what each honest vat put in its last step.
abbrev pub EachPutsSoInPlays : Type 0
EachPutsSoInPlays = InScenes (λ play w. (u : ℕ) (s : Vat Name) → slice_get w.vats u ≡ Some s → (IsHostile play u → ⊥) → PutsSo u s)

-- It holds of any step of an honest vat that no note brings, an opening turn, a turn or a notice, in any world that is reached: of the vat, of its state before it and of that after it.
abbrev pub InOwnSteps : (Play → World → ℕ → Vat Name → Vat Name → Type 0) → Type 0
InOwnSteps P = (play : Play) (w : World) → IsReached play w → (u : ℕ) (s q r : Vat Name) (what : Step Name Name) → (IsHostile play u → ⊥) → IsAlone what → Does play.script w u s q r what → P play w u s r

abbrev pub OwnStepsPutSo : Type 0
OwnStepsPutSo = InOwnSteps (λ play w u s r. PutsSo u r)

-- No gift comes to be known in one, of the vat's own or of another's.
abbrev pub OwnStepsLearnNoGifts : Type 0
OwnStepsLearnNoGifts = InOwnSteps (λ play w u s r. (h i : ℕ) → has_name (names_in r.known) (Gift h i) ≡ has_name (names_in s.known) (Gift h i))
