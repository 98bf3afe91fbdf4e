-- of the lines up to the end the same are kept as of all
use Rattle.std.proofs.Common.{◌≡◌, ◌≤◌, take, length}
use Rattle.def_vats.specs.Reading.{trimmed}
use Rattle.ev_make_text.proofs.bodies.trimmed.Given as goal

abbrev pub invariant-loop-end : goal.invariant-loop-end
invariant-loop-end l = record { within : l.end ≤ length l.lines; same : trimmed (take l.end l.lines) ≡ trimmed l.lines }

abbrev pub decreases-loop-end : goal.decreases-loop-end
decreases-loop-end l = l.end
