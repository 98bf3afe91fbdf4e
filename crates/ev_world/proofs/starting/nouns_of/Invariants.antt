use Rattle.std.proofs.Common.{◌≡◌, map, take}
use Rattle.def_run.specs.World.{name_at}
use Rattle.ev_world.specs.Starting.{bare}
use Rattle.ev_world.proofs.starting.nouns_of.Given as goal

abbrev pub invariant-loop-known : goal.invariant-loop-known
invariant-loop-known l = l.nouns ≡ map (name_at (bare l.vats)) (take l.known-index l.knows)
