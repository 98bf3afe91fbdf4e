use Rattle.std.proofs.Common.{◌≡◌, ◌++◌, length, map}
use Rattle.ev_reader.specs.declared.accepted.Scoped.{Scoped as Tree}
use Rattle.ev_world.proofs.starting.programs_of.Given as goal

-- the programs made so far, and behind them those of the trees that are left
abbrev pub invariant-loop-alloc : goal.invariant-loop-alloc
invariant-loop-alloc l = l.programs.items ++ map (λ (tree : Tree). tree.tree) l.trees.items ≡ map (λ (tree : Tree). tree.tree) l.fn.trees.items

abbrev pub decreases-loop-alloc : goal.decreases-loop-alloc
decreases-loop-alloc l = length l.trees.items
