use Rattle.std.proofs.Common.{sym}
use Rattle.std.proofs.lemmas.List.{append-nil}
use Rattle.ev_injected.specs.Lanes.{fresh_to}
use Rattle.ev_injected.proofs.Starts.{one_open}
use Rattle.ev_injected.proofs.injected.add_lanes.Goals as goal

pub loop-to-init : goal.loop-to-init
unfolding fresh_to
loop-to-init c = sym (append-nil c.args.lanes.now.items)

pub loop-to-preserved : goal.loop-to-preserved
loop-to-preserved c = one_open c.args.from c.loop-to.to c.args.lanes.now.items c.loop-to.lanes.items c.add_lane.new.lanes.items c.loop-to.invariant c.in_ok-add_lane.ensures
