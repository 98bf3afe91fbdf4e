use Rattle.ev_injected.specs.Lanes.{fresh_from}
use Rattle.ev_injected.proofs.Starts.{row_open}
use Rattle.ev_injected.proofs.injected.Injected.new.Goals as goal

pub loop-from-init : goal.loop-from-init
unfolding fresh_from
loop-from-init c = c.new-lanes.ensures.items

pub loop-from-preserved : goal.loop-from-preserved
loop-from-preserved c = row_open c.args.vats c.loop-from.from c.loop-from.lanes.items c.add_lanes.new.lanes.items c.loop-from.invariant c.in_ok-add_lanes.ensures
