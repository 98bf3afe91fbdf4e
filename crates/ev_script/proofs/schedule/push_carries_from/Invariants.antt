-- the entries so far, and then the other carries, are the entries of all
use Rattle.std.proofs.Common.{◌≡◌, ◌++◌, ◌-◌}
use Rattle.std.specs.List.{range_with_len}
use Rattle.ev_script.specs.Schedule.{carries_from}
use Rattle.ev_script.proofs.schedule.push_carries_from.Given as goal

abbrev pub invariant-loop-to : goal.invariant-loop-to
invariant-loop-to l = l.out.items ++ carries_from (range_with_len l.to (l.vats - l.to)) l.from ≡ l.fn.out.items ++ carries_from (range_with_len 0 l.vats) l.from
