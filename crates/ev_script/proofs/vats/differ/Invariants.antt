-- those left differ exactly where all do
use Rattle.std.proofs.Common.{◌≡◌, length}
use Rattle.ev_script.specs.Vats.{differ}
use Rattle.ev_script.proofs.vats.differ.Given as goal

abbrev pub invariant-loop-rest : goal.invariant-loop-rest
invariant-loop-rest l = differ l.rest ≡ differ l.names

abbrev pub decreases-loop-rest : goal.decreases-loop-rest
decreases-loop-rest l = length l.rest
