use Rattle.std.proofs.Common.{length, refl}
use Rattle.std.proofs.lemmas.Option.{slice_get_read}
use Rattle.ev_known.proofs.Leading.{next_added}
use Rattle.ev_known.proofs.leads.lead_to_all.Goals as goal

pub loop-value-preserved : goal.loop-value-preserved
loop-value-preserved c =
    let i = c.loop-value.value-index in
    let x = slice_get_read c.args.values.now (length c.args.values.now) i c.value-item.result refl c.loop-value-test.true c.value-item.is in
    next_added c.args.link.now c.args.values.now i c.value-item.result c.args.links.now c.loop-value.links c.lead_to_value.new.links x c.loop-value.invariant c.in_ok-lead_to_value.ensures
