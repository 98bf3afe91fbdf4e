-- Each step adds one seed.
use Rattle.std.proofs.Common.{◌+◌, ◌-◌, ℕ, Option, List, length, sym, ap, ◌∙◌, subst}
use Rattle.std.specs.Prelude.{slice_get}
use Rattle.ev_order.specs.Judge.{IsRanked}
use Rattle.ev_order.proofs.Ranking.{ranks_first, ranks_second}
use Rattle.ev_order.proofs.judge.ranked.Goals as goal

pub loop-number-preserved : goal.loop-number-preserved
loop-number-preserved c =
    subst (λ (os : List (Option ℕ)). IsRanked c.args.places.now c.args.sent.now c.args.taken.now os (c.loop-number.number + 1) 0) (sym c.in_ok-push.ensures.items)
    (ranks_first c.args.places.now c.args.sent.now c.args.taken.now c.loop-number.seeds.items c.loop-number.number c.untaken_seed.result c.loop-number.invariant c.untaken_seed.ensures)

pub loop-back-preserved : goal.loop-back-preserved
loop-back-preserved c =
    subst (λ (os : List (Option ℕ)). IsRanked c.args.places.now c.args.sent.now c.args.taken.now os (length c.args.sent.now) (c.loop-back.back + 1)) (sym c.in_ok-push-2.ensures.items)
    (ranks_second c.args.places.now c.args.sent.now c.args.taken.now c.loop-back.seeds.items (length c.args.sent.now) c.loop-back.back c.taken_seed.result c.loop-back.invariant
    (λ m t h. c.taken_seed.ensures m t (ap (λ (k : ℕ). slice_get c.args.taken.now (k - 1 - c.loop-back.back)) c.len.ensures ∙ h)))
