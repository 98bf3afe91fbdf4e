use Rattle.std.proofs.Common.{arith, length, ◌≤◌}
use Rattle.ev_links.proofs.Spreading.{searching_init, searching_step, searching_done}
use Rattle.ev_links.proofs.links.add_reached.Goals as goal

pub loop-index-init : goal.loop-index-init
loop-index-init c = searching_init c.args.rows.now.entries c.args.scope.now c.args.set.now.keys

pub loop-index-preserved : goal.loop-index-preserved
loop-index-preserved c =
    searching_step c.args.rows.now.entries c.args.scope.now c.args.set.now.keys c.loop-index.set.keys c.add_row.new.set.keys c.loop-index.index c.label_at-label.result
    c.loop-index.invariant c.label_at-label.ensures c.in_ok-add_row.ensures

pub returns : goal.returns
returns c =
    let all : length c.loop-index.set.keys ≤ c.loop-index.index = omega (arith, c.len.ensures.len) in
    searching_done c.args.rows.now.entries c.args.scope.now c.args.set.now.keys c.loop-index.set.keys c.loop-index.index c.loop-index.invariant all
