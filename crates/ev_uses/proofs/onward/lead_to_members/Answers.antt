use Rattle.std.proofs.Common.{length, refl}
use Rattle.std.proofs.lemmas.Option.{slice_get_read}
use Rattle.ev_links.specs.declared.links.Way.TheVariants.{Listed}
use Rattle.ev_uses.proofs.Leading.{next_led}
use Rattle.ev_uses.proofs.onward.lead_to_members.Goals as goal

pub loop-member-preserved : goal.loop-member-preserved
loop-member-preserved c =
    let i = c.loop-member.member-index in
    let x = slice_get_read c.args.members.now (length c.args.members.now) i c.member-item.result refl c.loop-member-test.true c.member-item.is in
    next_led c.args.from Listed c.args.members.now i c.member-item.result c.args.links.now c.loop-member.links c.lead_to_value.new.links x c.loop-member.invariant c.in_ok-lead_to_value.ensures
