use Rattle.ev_play.proofs.DoneLemmas.{byte_more}
use Rattle.ev_play.proofs.doings.frame_bytes.Goals as goal

pub loop-place-preserved : goal.loop-place-preserved
loop-place-preserved c =
    byte_more c.args.digits.now c.loop-place.bytes.items _ c.loop-place.place c.key_byte.result c.loop-place.invariant c.key_byte.ensures c.in_ok-push.ensures.items
