-- what was written and the text of what is left are the form
use Rattle.std.proofs.Common.{◌≡◌, ◌++◌, length}
use Rattle.std.specs.Prelude.{string_bytes}
use Rattle.def_kernel.specs.Forms.{form}
use Rattle.ev_kernel_printer.proofs.FormLemmas.{texts}
use Rattle.ev_kernel_printer.proofs.printer.print.Given as goal

abbrev pub invariant-loop-piece : goal.invariant-loop-piece
invariant-loop-piece l = string_bytes l.out ++ texts l.nodes l.pieces ≡ form l.nodes 0

abbrev pub decreases-loop-piece : goal.decreases-loop-piece
decreases-loop-piece l = length (texts l.nodes l.pieces)
