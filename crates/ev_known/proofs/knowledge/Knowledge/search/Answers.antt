use Rattle.std.proofs.Common.{◌≡◌, ◌≤◌, length, sym, ap, ◌∙◌, arith}
use Rattle.ev_links.specs.declared.links.Scope.TheVariants.{Place}
use Rattle.ev_links.specs.Links.{row, with_others}
use Rattle.ev_known.specs.Knowing.{Known}
use Rattle.ev_known.proofs.Going.{going_done, going_found, going_init, going_step}
use Rattle.ev_known.proofs.knowledge.Knowledge.search.Goals as goal

pub loop-index-init : goal.loop-index-init
loop-index-init c = going_init c.args.self.now c.args.activation c.args.labels.now

pub returns-then-is_led : goal.returns-then-is_led
returns-then-is_led c =
    going_found c.args.self.now c.args.activation c.args.labels.now c.loop-index.labels c.loop-index.index c.at-label.result c.loop-index.invariant c.at-label.ensures
    (omega arith) (sym c.is_led.ensures ∙ c.if-is_led.true)

pub loop-index-preserved : goal.loop-index-preserved
loop-index-preserved c =
    let is : c.go_on.new.labels ≡ with_others (Place c.args.activation.at) c.loop-index.labels (row c.args.self.now.links c.at-label.result)
    = c.in_ok-go_on.ensures ∙ ap (λ (k : Known). with_others (Place c.args.activation.at) c.loop-index.labels (row k.links c.at-label.result)) c.self.view_is in
    going_step c.args.self.now c.args.activation c.args.labels.now c.loop-index.labels c.go_on.new.labels c.loop-index.index c.at-label.result c.loop-index.invariant c.at-label.ensures
    (sym c.is_led.ensures ∙ c.if-is_led.false) is

pub returns : goal.returns
returns c =
    let all : length c.loop-index.labels ≤ c.loop-index.index = omega (arith, c.len.ensures) in
    going_done c.args.self.now c.args.activation c.args.labels.now c.loop-index.labels c.loop-index.index c.loop-index.invariant all
