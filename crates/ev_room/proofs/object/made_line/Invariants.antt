use Rattle.std.proofs.Common.{◌≡◌, map, take}
use Rattle.ev_room.specs.Sound.{capture_of}
use Rattle.ev_room.proofs.object.made_line.Given as goal

abbrev pub invariant-loop-binding : goal.invariant-loop-binding
invariant-loop-binding l = l.caps ≡ map (λ b. capture_of b.bound) (take l.binding-index l.nouns)
