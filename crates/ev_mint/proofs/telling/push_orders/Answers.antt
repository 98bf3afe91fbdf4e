use Rattle.std.proofs.Common.{◌++◌, ◌∙◌, List, ℕ, ap}
use Rattle.ev_mint.specs.Money.{Money}
use Rattle.ev_mint.specs.Seals.{Made, none_made}
use Rattle.ev_mint.specs.Telling.{telling}
use Rattle.ev_mint.proofs.Turns.{says, ends}
use Rattle.ev_mint.proofs.telling.push_orders.Goals as goal

pub loop-order-init : goal.loop-order-init
loop-order-init c =
    let orders = c.args.orders.now in
    let made = c.args.seals.now in
    let money = c.args.mints.now in
    ap (λ (t : List ℕ). t ++ telling (record { made = made; money = money }) orders) c.requires.empty
    ∙ ap (λ (m : Made). telling (record { made = m; money = money }) orders) c.requires.made
    ∙ ap (λ (m : Money). telling (record { made = none_made; money = m }) orders) c.requires.money

pub loop-order-preserved : goal.loop-order-preserved
loop-order-preserved c =
    says c.args.orders.now c.loop-order.order-index _ (record { made = c.loop-order.seals; money = c.loop-order.mints })
    (record { made = c.answered.new.seals; money = c.answered.new.mints }) _ _ _ c.in_ok-said.said c.loop-order-test.true c.loop-order.invariant
    c.in_ok-said.ensures c.in_ok-push_line.ensures

pub returns : goal.returns
returns c =
    ends c.args.orders.now c.loop-order.order-index (record { made = c.loop-order.seals; money = c.loop-order.mints }) _ _ _ c.loop-order-test.false
    c.loop-order.invariant c.in_ok-push_end.ensures
