use Rattle.ev_uses.proofs.unknown.first_unknown.Goals as goal

pub returns : goal.returns
returns c = c.first_by_plan.ensures c.in_ok-plan.ensures.planned
