use Rattle.std.proofs.Common.{refl}
use Rattle.std.specs.List.{flat_map, range_with_len}
use Rattle.ev_script.specs.Schedule.{carries_from}
use Rattle.ev_script.proofs.RoundLemmas.{goes}
use Rattle.ev_script.proofs.schedule.push_carries.Goals as goal

pub loop-from-preserved : goal.loop-from-preserved
loop-from-preserved c =
    goes (flat_map (carries_from (range_with_len 0 c.args.vats))) (carries_from (range_with_len 0 c.args.vats) c.loop-from.from) c.loop-from.out.items _ _
    c.loop-from.from c.args.vats c.loop-from-test.true refl c.loop-from.invariant c.in_ok-push_carries_from.ensures
