-- the name is not among those behind
use Rattle.std.proofs.Common.{◌≡◌, ◌≤◌, length, take}
use Rattle.std.specs.Prelude.{reverse}
use Rattle.def_machine.specs.Free.{has_words}
use Rattle.ev_kernel_printer.proofs.names.has_last.Given as goal

abbrev pub invariant-loop-count : goal.invariant-loop-count
invariant-loop-count l = (l.count ≤ length l.names) × (has_words l.name (reverse (take l.count l.names)) ≡ has_words l.name (reverse l.names))

abbrev pub decreases-loop-count : goal.decreases-loop-count
decreases-loop-count l = l.count
