-- The search so far.
use Rattle.std.proofs.Common.{◌-◌, ◌^◌}
use Rattle.ev_links.specs.declared.links.Scope.TheVariants.{All}
use Rattle.ev_links.proofs.Spreading.{Searching}
use Rattle.ev_uses.proofs.unsent.reach_sought.Given as goal

abbrev pub invariant-loop-index : goal.invariant-loop-index
invariant-loop-index l = Searching l.links All l.fn.labels l.labels l.index

abbrev pub decreases-loop-index : goal.decreases-loop-index
decreases-loop-index l = 2 ^ 64 - l.index
