use Rattle.std.proofs.Common.{◌≡◌, map, take}
use Rattle.ev_ways.proofs.row.Row.cuts.Given as goal

abbrev pub invariant-loop-way : goal.invariant-loop-way
invariant-loop-way l = l.found.items ≡ map (λ w. w.is_cut) (take l.way-index l.way-items)
