-- what was told and the items of what is left are the form
use Rattle.std.proofs.Common.{◌≡◌, ◌++◌, [], length}
use Rattle.def_machine.specs.Form.{items_of}
use Rattle.ev_kernel_printer.specs.Items.{items_in}
use Rattle.ev_kernel_printer.proofs.FormLemmas.{texts}
use Rattle.ev_kernel_printer.proofs.ItemLemmas.{onto}
use Rattle.ev_kernel_printer.proofs.items.as_items.Given as goal

abbrev pub invariant-loop-piece : goal.invariant-loop-piece
invariant-loop-piece l = items_in l.out ++ onto l.nodes l.pieces [] ≡ items_of l.nodes l.fn.node

abbrev pub decreases-loop-piece : goal.decreases-loop-piece
decreases-loop-piece l = length (texts l.nodes l.pieces)
