use Rattle.std.proofs.Common.{◌≡◌, replicate}
use Rattle.ev_ways.specs.Rows.{fresh}
use Rattle.ev_ways.proofs.row.Row.new.Given as goal

abbrev pub invariant-loop : goal.invariant-loop
invariant-loop l = l.ways.items ≡ replicate l.counter fresh
