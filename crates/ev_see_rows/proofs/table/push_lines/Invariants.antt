-- the lines so far
use Rattle.std.proofs.Common.{◌≡◌, ◌++◌, take, string_bytes}
use Rattle.def_see.specs.Table.{root_lines}
use Rattle.ev_see_rows.proofs.table.push_lines.Given as goal

abbrev pub invariant-loop-text : goal.invariant-loop-text
invariant-loop-text l = string_bytes l.out ≡ string_bytes l.fn.out ++ root_lines (take l.text-index l.texts)
