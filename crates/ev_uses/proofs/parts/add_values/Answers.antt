use Rattle.std.proofs.Common.{refl, sym, ◌∙◌}
use Rattle.ev_uses.proofs.Adding.{leaves_done, leaves_init, leaves_step, popped_less}
use Rattle.ev_uses.proofs.parts.add_values.Goals as goal

pub loop-rest-init : goal.loop-rest-init
loop-rest-init c =
    leaves_init c.args.values.now c.args.values c.args.labels.now c.push.new.self.items c.new-lists.result.items refl c.new-lists.ensures.items c.in_ok-push.ensures.items

pub loop-rest-smaller : goal.loop-rest-smaller
loop-rest-smaller c =
    popped_less c.in-Some.rest c.loop-rest.lists.items c.pop.new.self.items c.add_first.new.lists.items c.in-Some.ensures.items c.in_ok-add_first.ensures.less

pub loop-rest-preserved : goal.loop-rest-preserved
loop-rest-preserved c =
    leaves_step c.args.values.now c.in-Some.rest c.args.labels.now c.loop-rest.labels c.add_first.new.labels c.loop-rest.lists.items c.pop.new.self.items c.add_first.new.lists.items
    c.loop-rest.invariant c.in-Some.ensures.items c.in_ok-add_first.ensures.left

pub returns : goal.returns
returns c = leaves_done c.args.values.now c.args.labels.now c.loop-rest.labels c.loop-rest.lists.items (sym c.loop-rest.lists.ok.0 ∙ c.in_default.ensures.cases.0) c.loop-rest.invariant
