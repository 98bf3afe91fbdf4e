-- Looking at the other nodes behind those so far is looking at all.
use Rattle.std.proofs.Common.{◌≡◌, drop}
use Rattle.ev_expand.specs.Marked.{marked, marked_behind}
use Rattle.ev_expand.proofs.marks.marked.Given as goal

abbrev pub invariant-loop-node : goal.invariant-loop-node
invariant-loop-node l = marked_behind l.done (drop l.node-index l.nodes) ≡ marked l.nodes
