use Rattle.std.proofs.Common.{length}
use Rattle.ev_ways.proofs.Streams.{IsComing}
use Rattle.ev_ways.proofs.link.Link.push_pieces.Given as goal

abbrev pub invariant-loop-rest : goal.invariant-loop-rest
invariant-loop-rest l = IsComing l.fn.self.frames l.frame l.rest l.self

abbrev pub decreases-loop-rest : goal.decreases-loop-rest
decreases-loop-rest l = length l.rest
