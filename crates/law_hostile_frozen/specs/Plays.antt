-- What is reached from frozen objects in each configuration to which a run with hostile vats comes.
use Rattle.std.specs.Prelude.{ℕ}
use Rattle.def_hostile.specs.Hostile.{Play, Scene}
use Rattle.def_hostile.specs.Plays.{ComesTo}
use Rattle.law_frozen.specs.Runs.{ReachIsFrozenIn}
use Rattle.law_injected.specs.HostileRuns.{IsHostile}

abbrev pub ReachIsFrozenInPlays : Type 0
ReachIsFrozenInPlays = (play : Play) (h : ℕ) → IsHostile play h → (s : Scene) → ComesTo play s → ReachIsFrozenIn play.script s.world
