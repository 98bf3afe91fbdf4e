use Rattle.std.proofs.Common.{◌++◌}
use Rattle.def_op.specs.Views.{all_described}
use Rattle.ev_judge.specs.Named.{named_all}
use Rattle.ev_judge.proofs.Listed.{goes_on, is_done}
use Rattle.ev_judge.proofs.naming.+listing.Goals as goal

pub note_all-loop-desc-preserved : goal.note_all-loop-desc-preserved
note_all-loop-desc-preserved t c =
    goes_on c.args.connection.now c.args.descs.now c.loop-desc.desc-index c.desc-item.result c.loop-desc.values.items c.note_in.new.values.items (c.args.values.now.items ++ named_all c.args.connection.now (all_described c.args.descs.now))
    c.loop-desc-test.true c.desc-item.is c.in_ok-note_in.ensures c.loop-desc.invariant

pub note_all-returns : goal.note_all-returns
note_all-returns t c =
    is_done c.args.connection.now c.args.descs.now c.loop-desc.desc-index c.loop-desc.values.items (c.args.values.now.items ++ named_all c.args.connection.now (all_described c.args.descs.now)) c.loop-desc-test.false c.loop-desc.invariant
