use Rattle.std.proofs.Common.{◌≡◌, ◌++◌, ◌-◌, ◌≤◌, drop, length}
use Rattle.ev_parser.specs.Surface.{catches}
use Rattle.ev_parser.proofs.fields.catches.Given as goal

abbrev pub invariant-loop-pair : goal.invariant-loop-pair
invariant-loop-pair l = (catches l.parts ≡ l.found ++ catches (drop l.index l.parts)) × (l.index ≤ length l.parts)

abbrev pub decreases-loop-pair : goal.decreases-loop-pair
decreases-loop-pair l = length l.parts - l.index
