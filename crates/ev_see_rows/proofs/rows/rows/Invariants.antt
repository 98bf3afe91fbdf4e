-- the rows so far
use Rattle.std.proofs.Common.{◌≡◌, take, map, filter}
use Rattle.def_see.specs.Words.{sends}
use Rattle.def_see.specs.Rows.{row}
use Rattle.ev_see_rows.proofs.rows.rows.Given as goal

abbrev pub invariant-loop-line : goal.invariant-loop-line
invariant-loop-line l = l.found ≡ map (row l.lines) (filter (λ k. sends k.words) (take l.line-index l.lines))
