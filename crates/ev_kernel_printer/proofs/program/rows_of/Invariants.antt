use Rattle.ev_kernel_printer.specs.Captured.{AreRows}
use Rattle.ev_kernel_printer.proofs.program.rows_of.Given as goal

abbrev pub invariant-loop-place : goal.invariant-loop-place
invariant-loop-place l = AreRows l.fn.tree l.place l.rows.items
