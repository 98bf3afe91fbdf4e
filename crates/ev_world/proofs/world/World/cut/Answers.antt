use Rattle.ev_world.proofs.Cuts.{cut_done}
use Rattle.ev_world.proofs.world.World.cut.Goals as goal

pub returns-clause-step : goal.returns-clause-step
returns-clause-step c = λ S w is_at steady.
    cut_done S w c.args.self.now c.args.number c.args.from c.args.to c.cut-there.new.self c.cut-back.new.self c.cut-there.result.items c.cut-back.result.items
    c.push.new.self c.tell_lost_to.new.account c.tell_lost_to-2.new.account is_at c.cut-there.ensures.after c.cut-back.ensures.after c.cut-there.ensures.lost c.cut-back.ensures.lost
    c.in_ok-push.ensures c.in_ok-tell_lost_to.ensures c.in_ok-tell_lost_to-2.ensures
