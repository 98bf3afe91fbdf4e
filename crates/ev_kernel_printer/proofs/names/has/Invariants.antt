-- the name is not among those before
use Rattle.std.proofs.Common.{◌≡◌, drop}
use Rattle.def_machine.specs.Free.{has_words}
use Rattle.ev_kernel_printer.proofs.names.has.Given as goal

abbrev pub invariant-loop-other : goal.invariant-loop-other
invariant-loop-other l = has_words l.name (drop l.other-index l.names) ≡ has_words l.name l.names
