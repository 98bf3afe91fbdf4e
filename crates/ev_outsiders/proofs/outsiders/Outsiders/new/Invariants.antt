use Rattle.std.proofs.Common.{◌≡◌, map, replicate}
use Rattle.def_hostile.specs.Outsiders.{nobody}
use Rattle.ev_outsiders.specs.Counting.{outsider_of}
use Rattle.ev_outsiders.proofs.outsiders.Outsiders.new.Given as goal

abbrev pub invariant-loop : goal.invariant-loop
invariant-loop l = map outsider_of l.counts.items ≡ replicate l.counter nobody
