-- the rows so far
use Rattle.std.proofs.Common.{◌≡◌, ◌++◌, take, string_bytes}
use Rattle.std.specs.List.{flat_map}
use Rattle.def_see.specs.Table.{row_line}
use Rattle.ev_see_rows.proofs.table.push_table.Given as goal

abbrev pub invariant-loop-row : goal.invariant-loop-row
invariant-loop-row l = string_bytes l.out ≡ string_bytes l.fn.out ++ flat_map (row_line l.widths) (take l.row-index l.rows)
