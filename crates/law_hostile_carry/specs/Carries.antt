-- How often a message is carried in a run with hostile vats.
use Rattle.std.specs.Prelude.{ℕ, ◌+◌, ◌≤◌, List}
use Rattle.def_machine.specs.Values.{Name}
use Rattle.def_run.specs.World.{Event}
use Rattle.def_hostile.specs.Hostile.{Play, Scene, acts}
use Rattle.def_hostile.specs.Plays.{Opens, Goes}
use Rattle.law_fate.specs.Fates.Fate.{sent}
use Rattle.law_fate.specs.Fates.Carry.{carries}
use Rattle.law_injected.specs.HostileRuns.{IsHostile}
use Rattle.law_hostile_fate.specs.Brought.{told, brought}
use Rattle.law_hostile_fate.specs.Fates.{Ended}

-- The carries of a message are no more than twice its sends and the times that frames brought it; and there are two at most.
abbrev pub TwoCarries : List ℕ → Name → List Event → Type 0
TwoCarries hs x es = (carries x es ≤ (sent x es + brought hs x es) + (sent x es + brought hs x es)) × (carries x es ≤ 2)

-- In each scene of each run in which a vat is hostile: after some opening turns, and after all of them and any entries and frames; and in the lines of a whole run, or of one that stopped.
abbrev pub TwoCarriesAtMostWithFrames : Type 0
TwoCarriesAtMostWithFrames = (play : Play) (h : ℕ) → IsHostile play h → (x : Name)
    → ((s : Scene) → Opens play s → TwoCarries play.hostile x (told s.lines))
    × ((s : Scene) → Goes play s → TwoCarries play.hostile x (told s.lines))
    × Ended (λ s. TwoCarries play.hostile x (told s.lines)) (acts play)
