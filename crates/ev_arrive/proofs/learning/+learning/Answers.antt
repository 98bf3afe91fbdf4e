use Rattle.ev_arrive.specs.Bringing.{all_parts}
use Rattle.ev_arrive.specs.Learning.{learn, learn_each}
use Rattle.ev_arrive.proofs.Learns.{starts, goes_on, stops, is_done, none_deep, all_learnt, some_stopped}
use Rattle.ev_arrive.proofs.learning.+learning.Goals as goal

pub learn_each-loop-member-init : goal.learn_each-loop-member-init
learn_each-loop-member-init t c = starts c.new-values.result (learn_each (learn c.args.depth c.args.from) (all_parts c.args.members.now) c.args.host.now) c.new-values.ensures

pub learn_each-returns-in-Err : goal.learn_each-returns-in-Err
learn_each-returns-in-Err t c =
    stops (learn c.args.depth c.args.from) c.loop-member.values c.args.members.now c.loop-member.member-index c.member-item.result c.loop-member.host c.learn_in.new.host c.in-Err.stop
    (learn_each (learn c.args.depth c.args.from) (all_parts c.args.members.now) c.args.host.now) c.loop-member-test.true c.member-item.is c.in-Err.ensures c.loop-member.invariant

pub learn_each-loop-member-preserved : goal.learn_each-loop-member-preserved
learn_each-loop-member-preserved t c =
    goes_on (learn c.args.depth c.args.from) c.loop-member.values c.push.new.self c.args.members.now c.loop-member.member-index c.member-item.result c.loop-member.host c.learn_in.new.host c.in-Ok.value
    (learn_each (learn c.args.depth c.args.from) (all_parts c.args.members.now) c.args.host.now) c.loop-member-test.true c.member-item.is c.in-Ok.ensures c.in_ok-push-in-Ok.ensures.ok c.loop-member.invariant

pub learn_each-returns : goal.learn_each-returns
learn_each-returns t c =
    is_done (learn c.args.depth c.args.from) c.loop-member.values c.args.members.now c.loop-member.member-index c.loop-member.host (learn_each (learn c.args.depth c.args.from) (all_parts c.args.members.now) c.args.host.now) c.loop-member-test.false c.loop-member.invariant

pub learn_list-returns-then-depth-eq0 : goal.learn_list-returns-then-depth-eq0
learn_list-returns-then-depth-eq0 t c = none_deep c.args.depth c.args.from c.args.host.now c.args.host.now (all_parts c.args.members.now) c.if-depth-eq0.true

pub learn_list-returns-in-Ok : goal.learn_list-returns-in-Ok
learn_list-returns-in-Ok t c =
    all_learnt c.args.depth c.args.from c.args.host.now c.make_list.new.host (all_parts c.args.members.now) c.make_list.result c.learn_each.new.host c.in-Ok.values c.if-depth-eq0.false c.in-Ok.ensures c.make_list.ensures

pub learn_list-returns-in-Err : goal.learn_list-returns-in-Err
learn_list-returns-in-Err t c = some_stopped c.args.depth c.args.from c.args.host.now c.learn_each.new.host (all_parts c.args.members.now) c.in-Err.stop c.if-depth-eq0.false c.in-Err.ensures
