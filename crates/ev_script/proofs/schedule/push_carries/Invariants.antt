-- the entries so far, and then the other carries, are the entries of all
use Rattle.std.proofs.Common.{◌≡◌, ◌++◌, ◌-◌}
use Rattle.std.specs.List.{flat_map, range_with_len}
use Rattle.ev_script.specs.Schedule.{carries_from}
use Rattle.ev_script.proofs.schedule.push_carries.Given as goal

abbrev pub invariant-loop-from : goal.invariant-loop-from
invariant-loop-from l =
    l.out.items ++ flat_map (carries_from (range_with_len 0 l.vats)) (range_with_len l.from (l.vats - l.from))
    ≡ l.fn.out.items ++ flat_map (carries_from (range_with_len 0 l.vats)) (range_with_len 0 l.vats)
