-- Expanding the other nodes behind those so far is expanding all.
use Rattle.std.proofs.Common.{◌≡◌, [], drop}
use Rattle.ev_expand.specs.Table.{expanded_behind}
use Rattle.ev_expand.proofs.table.expanded.Given as goal

abbrev pub invariant-loop-node : goal.invariant-loop-node
invariant-loop-node l = expanded_behind l.marks l.done (drop l.node-index l.nodes) ≡ expanded_behind l.marks [] l.nodes
