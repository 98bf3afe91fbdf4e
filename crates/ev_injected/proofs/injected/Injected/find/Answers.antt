use Rattle.std.proofs.Common.{◌+◌, refl, sym, ap, ◌∙◌}
use Rattle.ev_injected.proofs.Places.{found_here, found_next, place_start}
use Rattle.ev_injected.proofs.injected.Injected.find.Goals as goal

pub loop-lane-init : goal.loop-lane-init
loop-lane-init c = (refl, place_start c.args.from c.args.to c.deref-lane-items.result.now)

pub returns-then-is_between : goal.returns-then-is_between
returns-then-is_between c =
    found_here c.args.from c.args.to c.args.self.now c.deref-lane-items.result.now _ c.loop-lane.lane-index c.loop-lane.index c.lane-item.result (c.deref-lane-items.ensures.value ∙ c.self.view_is) c.loop-lane.invariant.0 refl
    c.loop-lane-test.true c.lane-item.is c.loop-lane.invariant.1 (sym c.is_between.ensures ∙ c.if-is_between.true)

pub loop-lane-preserved : goal.loop-lane-preserved
loop-lane-preserved c = (
  ap (λ n. n + 1) c.loop-lane.invariant.0,
  found_next c.args.from c.args.to c.deref-lane-items.result.now _ c.loop-lane.lane-index c.lane-item.result refl c.loop-lane-test.true c.lane-item.is c.loop-lane.invariant.1 (sym c.is_between.ensures ∙ c.if-is_between.false),
)
