-- The `try` nodes so far, the last one outermost, and what stands behind them.
use Rattle.std.proofs.Common.{◌≡◌, ◌++◌, reverse}
use Rattle.ev_desugar.specs.Rows.{caught}
use Rattle.ev_desugar.proofs.loops.caught.Given as goal

abbrev pub invariant-loop-pattern : goal.invariant-loop-pattern
invariant-loop-pattern l = reverse l.heads.items ++ l.nodes.items ≡ caught l.initial.nodes.items l.yielded
