use Rattle.std.proofs.Common.{◌≡◌, map, take}
use Rattle.ev_room.specs.Sound.{caught_of}
use Rattle.ev_room.proofs.object.kept.Given as goal

abbrev pub invariant-loop-binding : goal.invariant-loop-binding
invariant-loop-binding l = l.all ≡ map caught_of (take l.binding-index l.nouns)
