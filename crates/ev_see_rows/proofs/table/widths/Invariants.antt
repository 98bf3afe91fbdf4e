-- the widths of the rows that were gone over
use Rattle.std.proofs.Common.{◌≡◌, ◌-◌, drop, length}
use Rattle.def_see.specs.Table.{widths}
use Rattle.ev_see_rows.proofs.table.widths.Given as goal

abbrev pub invariant-loop-behind : goal.invariant-loop-behind
invariant-loop-behind l = l.found ≡ widths (drop (length l.rows - l.behind) l.rows)
