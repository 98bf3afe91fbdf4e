-- what is kept cuts what was cut so far, and those left are in order behind those so far exactly where all are
use Rattle.std.proofs.Common.{◌≡◌, [], drop, take}
use Rattle.ev_script.specs.Schedule.{are_in_order}
use Rattle.ev_script.proofs.CutLemmas.{CutAlike}
use Rattle.ev_script.proofs.schedule.are_in_order.Given as goal

abbrev pub invariant-loop-entry : goal.invariant-loop-entry
invariant-loop-entry l =
    CutAlike l.kept.items (take l.entry-index l.entries) × (are_in_order (take l.entry-index l.entries) (drop l.entry-index l.entries) ≡ are_in_order [] l.entries)
