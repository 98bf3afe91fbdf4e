-- In every run each message is carried at most twice, and goes to the host of its target.
use Rattle.std.specs.Prelude.{◌≡◌, ℕ, ◌+◌, ◌≤◌, [], Some, slice_get}
use Rattle.def_machine.specs.Values.{Name}
use Rattle.def_machine.specs.State.{Vat}
use Rattle.def_run.specs.World.{Link, World}
use Rattle.law_fate.specs.Fates.Fate.{sent}
use Rattle.law_fate.specs.Fates.Lasting.{Each}
use Rattle.law_fate.specs.Fates.FateRuns.{InRuns, AtEnds}
use Rattle.law_fate.specs.Fates.Carry.{carries, world_weight}
use Rattle.law_fate.specs.Fates.Sound.{NoteSound, Parts}

-- Carries, and what the message weighs in that world, are no more than twice its sends, and of these there is one at most.
abbrev pub CarriesAndWeight : Type 0
CarriesAndWeight = (x : Name) → InRuns (λ w. (carries x w.history + world_weight x w ≤ sent x w.history + sent x w.history) × (sent x w.history ≤ 1))

-- in every world of a run, also in one at which it stopped, and in the whole history with its closing list
abbrev pub TwoCarriesAtMost : Type 0
TwoCarriesAtMost = (x : Name) → InRuns (λ w. carries x w.history ≤ 2) × AtEnds (λ w. carries x w.history ≤ 2)

-- In a world: what each vat is (the notes that it put are on links), and each note under way.
pub record WorldSound (w : World) : Type 0 where
  pub vats : (v : ℕ) (s : Vat Name) → slice_get w.vats v ≡ Some s → Parts v s.number s.known s.gifts []
  pub links : Each (λ (l : Link). Each (NoteSound l.from l.to) l.notes) w.links

-- in every world of a run
abbrev pub MessagesGoToHosts : Type 0
MessagesGoToHosts = InRuns WorldSound
