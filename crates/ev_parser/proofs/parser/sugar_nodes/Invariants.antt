use Rattle.std.proofs.Common.{◌≡◌, map, take}
use Rattle.ev_parser.specs.Sweet.{node_of}
use Rattle.ev_parser.proofs.parser.sugar_nodes.Given as goal

abbrev pub invariant-loop-node : goal.invariant-loop-node
invariant-loop-node l = l.made ≡ map (λ n. node_of l.text l.tokens n) (take l.node-index l.nodes)
