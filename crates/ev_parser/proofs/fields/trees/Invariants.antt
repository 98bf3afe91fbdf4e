use Rattle.std.proofs.Common.{◌≡◌, take}
use Rattle.ev_parser.specs.Surface.{trees}
use Rattle.ev_parser.proofs.fields.trees.Given as goal

abbrev pub invariant-loop-part : goal.invariant-loop-part
invariant-loop-part l = l.found ≡ trees (take l.part-index l.parts)
