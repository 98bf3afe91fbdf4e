use Rattle.std.proofs.Common.{◌+◌, ℕ, Option, List, sym, subst}
use Rattle.ev_order.specs.Judge.{AreWaiting}
use Rattle.ev_order.proofs.Early.{waits_more}
use Rattle.ev_order.proofs.judge.waiting.Goals as goal

pub loop-number-preserved : goal.loop-number-preserved
loop-number-preserved c =
    subst (λ (os : List (Option ℕ)). AreWaiting c.args.places.now c.args.sent.now c.args.taken.now c.args.line os (c.loop-number.number + 1)) (sym c.in_ok-push.ensures.items)
    (waits_more c.args.places.now c.args.sent.now c.args.taken.now c.args.line c.loop-number.seeds.items c.loop-number.number c.waiting_seed.result c.loop-number.invariant c.waiting_seed.ensures)
