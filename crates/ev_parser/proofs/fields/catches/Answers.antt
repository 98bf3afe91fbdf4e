use Rattle.ev_parser.proofs.Marks.{catches_next}
use Rattle.ev_parser.proofs.fields.catches.Goals as goal

pub loop-pair-preserved : goal.loop-pair-preserved
loop-pair-preserved c =
    let h = catches_next c.args.parts.now c.loop-pair.index c.loop-pair.found c.in-Some.pair c.in-Some.ensures c.loop-pair.invariant.0 c.loop-pair.invariant.1 in
    (rw c.in_ok-push.ensures.ok h.0, h.1)
