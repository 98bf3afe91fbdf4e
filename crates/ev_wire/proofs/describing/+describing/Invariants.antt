use Rattle.std.proofs.Common.{◌≡◌, ◌++◌, drop, map}
use Rattle.def_op.specs.Views.{described}
use Rattle.ev_wire.proofs.Loops.{each_described}
use Rattle.ev_wire.proofs.describing.+describing.Given as goal

-- what was described, and then the rest, is all of it
abbrev pub invariant-describe_all-loop-part : goal.invariant-describe_all-loop-part
invariant-describe_all-loop-part l = map described l.descs.items ++ each_described l.inside l.connection (drop l.part-index l.passed) ≡ each_described l.inside l.connection l.passed
