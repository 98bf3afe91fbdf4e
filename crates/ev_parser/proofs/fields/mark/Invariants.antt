use Rattle.std.proofs.Common.{◌≡◌, ◌+◌, drop}
use Rattle.ev_parser.specs.Surface.{mark}
use Rattle.ev_parser.proofs.fields.mark.Given as goal

abbrev pub invariant-loop-i : goal.invariant-loop-i
invariant-loop-i l = mark l.kind l.parts ≡ l.i + mark l.kind (drop l.i l.parts)
