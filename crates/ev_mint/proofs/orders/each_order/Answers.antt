use Rattle.std.proofs.Common.{◌∙◌, sym}
use Rattle.ev_script.proofs.EachLemmas.{goes_at, stops_at, ends, each_map}
use Rattle.ev_mint.specs.Orders.{order_of}
use Rattle.ev_mint.proofs.orders.each_order.Goals as goal

pub returns-in_default : goal.returns-in_default
returns-in_default c =
    stops_at (λ t. order_of t.now) _ c.loop-text.found _ c.args.texts.now c.loop-text.text-index c.loop-text-test.true
    c.loop-text.invariant (sym c.order_of.ensures ∙ c.in_default.is) ∙ sym (each_map order_of (λ t. t.now) c.args.texts.now)

pub loop-text-preserved : goal.loop-text-preserved
loop-text-preserved c =
    goes_at (λ t. order_of t.now) _ c.in-Some.order c.loop-text.found _ _ c.args.texts.now c.loop-text.text-index
    c.loop-text-test.true c.loop-text.invariant (sym c.order_of.ensures ∙ c.in-Some.is) c.in_ok-push.ensures.ok

pub returns : goal.returns
returns c =
    ends (λ t. order_of t.now) c.loop-text.found _ c.args.texts.now c.loop-text.text-index c.loop-text-test.false c.loop-text.invariant
    ∙ sym (each_map order_of (λ t. t.now) c.args.texts.now)
