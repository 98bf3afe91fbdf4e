use Rattle.ev_see_why.proofs.slots.first_unknown_slot.Goals as goal

pub returns : goal.returns
returns c = c.first_by_plan.ensures c.in_ok-plan.ensures.planned
