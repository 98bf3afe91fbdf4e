use Rattle.std.proofs.Common.{length}
use Rattle.ev_ways.specs.Streams.{AreCut}
use Rattle.ev_ways.proofs.cutting.cut_frames.Given as goal

abbrev pub invariant-loop-frame : goal.invariant-loop-frame
invariant-loop-frame l = AreCut l.initial.frames.items l.bytes l.frames.items l.rest

abbrev pub decreases-loop-frame : goal.decreases-loop-frame
decreases-loop-frame l = length l.rest
