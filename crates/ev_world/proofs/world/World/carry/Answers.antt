use Rattle.std.proofs.Common.{◌∙◌, sym}
use Rattle.ev_world.proofs.CarryingSteps.{carry_idles}
use Rattle.ev_world.proofs.world.World.carry.Goals as goal

pub returns-in_default-clause-step : goal.returns-in_default-clause-step
returns-in_default-clause-step c = λ S w at steady.
    carry_idles S w c.args.from c.args.to c.args.number c.args.self.now c.carry.new.self c.push.new.self at (sym c.carry.ensures.value ∙ c.in_default.is) c.carry.ensures.after c.in_ok-push.ensures

pub returns-clause-step : goal.returns-clause-step
returns-clause-step c = λ S w at steady. c.deliver.ensures.step S w c.args.self.now.ways at (sym c.in-Some.ensures.value) c.carry.ensures.after steady
