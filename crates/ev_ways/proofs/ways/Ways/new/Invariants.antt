use Rattle.std.proofs.Common.{◌≡◌, replicate}
use Rattle.ev_ways.specs.Rows.{fresh_row}
use Rattle.ev_ways.proofs.ways.Ways.new.Given as goal

abbrev pub invariant-loop : goal.invariant-loop
invariant-loop l = l.rows.items ≡ replicate l.counter (fresh_row l.fn.vats)
