use Rattle.std.proofs.Common.{arith}
use Rattle.ev_world.proofs.Telling.{told_next}
use Rattle.ev_world.proofs.exporting.tell_exports.Goals as goal

pub loop-place-preserved : goal.loop-place-preserved
loop-place-preserved c = λ q there.
    told_next c.args.vat q c.args.before.now c.loop-place.place c.args.residents.now.items c.loop-place.residents.items c.tell_peer.new.residents.items (c.loop-place.invariant q there) there
    (omega (arith, c.loop-place-test.true, c.len-place-end.ensures)) (λ x r i j. c.in_ok-tell_peer.ensures x r i j)
