-- What is there is reached, and what is reached from those before the index is there.
use Rattle.std.proofs.Common.{◌-◌, ◌^◌}
use Rattle.ev_links.proofs.Spreading.{Searching}
use Rattle.ev_links.proofs.links.add_reached.Given as goal

abbrev pub invariant-loop-index : goal.invariant-loop-index
invariant-loop-index l = Searching l.rows.entries l.scope l.fn.set.keys l.set.keys l.index

abbrev pub decreases-loop-index : goal.decreases-loop-index
decreases-loop-index l = 2 ^ 64 - l.index
