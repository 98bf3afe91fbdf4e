-- the entries so far, and then those among the other lines, are all
use Rattle.std.proofs.Common.{◌≡◌, ◌++◌, drop}
use Rattle.std.specs.List.{filter}
use Rattle.def_vats.specs.Reading.{is_entry}
use Rattle.ev_make_text.proofs.bodies.push_entries.Given as goal

abbrev pub invariant-loop-line : goal.invariant-loop-line
invariant-loop-line l = l.schedule ++ filter is_entry (drop l.line-index l.lines) ≡ l.fn.schedule ++ filter is_entry l.lines
