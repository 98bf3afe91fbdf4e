use Rattle.def_op.specs.Views.{all_described}
use Rattle.ev_wire.specs.Hearing.{parts_heard}
use Rattle.ev_wire.proofs.Listing.{starts, goes_on, stops, is_done}
use Rattle.ev_wire.proofs.values.+hearing.Goals as goal

pub hear_values-loop-desc-init : goal.hear_values-loop-desc-init
hear_values-loop-desc-init t c = starts c.new-parts.result.items (parts_heard c.args.inside.now c.args.connection.now c.args.learnt.now (all_described c.args.descs.now) c.args.news.now) c.new-parts.ensures.items

pub hear_values-returns-in-Err : goal.hear_values-returns-in-Err
hear_values-returns-in-Err t c =
    stops c.args.inside.now c.args.connection.now c.args.learnt.now c.loop-desc.parts.items c.args.descs.now c.loop-desc.desc-index c.desc-item.result c.loop-desc.news c.hear_value.new.news c.in-Err.fault
    (parts_heard c.args.inside.now c.args.connection.now c.args.learnt.now (all_described c.args.descs.now) c.args.news.now) c.loop-desc-test.true c.desc-item.is c.in-Err.ensures c.loop-desc.invariant

pub hear_values-loop-desc-preserved : goal.hear_values-loop-desc-preserved
hear_values-loop-desc-preserved t c =
    goes_on c.args.inside.now c.args.connection.now c.args.learnt.now c.loop-desc.parts.items c.add.new.parts.items c.args.descs.now c.loop-desc.desc-index c.desc-item.result c.loop-desc.news c.hear_value.new.news c.in-Ok.part
    (parts_heard c.args.inside.now c.args.connection.now c.args.learnt.now (all_described c.args.descs.now) c.args.news.now) c.loop-desc-test.true c.desc-item.is c.in-Ok.ensures c.in_ok-add-in-Ok.ensures c.loop-desc.invariant

pub hear_values-returns : goal.hear_values-returns
hear_values-returns t c =
    is_done c.args.inside.now c.args.connection.now c.args.learnt.now c.loop-desc.parts.items c.args.descs.now c.loop-desc.desc-index c.loop-desc.news
    (parts_heard c.args.inside.now c.args.connection.now c.args.learnt.now (all_described c.args.descs.now) c.args.news.now) c.loop-desc-test.false c.loop-desc.invariant
