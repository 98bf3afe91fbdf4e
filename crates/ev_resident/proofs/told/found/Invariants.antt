-- what is told of the number by the entries that are left is what is told by all
use Rattle.std.proofs.Common.{◌≡◌, drop}
use Rattle.ev_resident.specs.Names.{told_at}
use Rattle.ev_resident.proofs.Entries.{entries_of}
use Rattle.ev_resident.proofs.told.found.Given as goal

abbrev pub invariant-loop-entry : goal.invariant-loop-entry
invariant-loop-entry l = told_at l.number (entries_of (drop l.entry-index l.row)) ≡ told_at l.number (entries_of l.row)
