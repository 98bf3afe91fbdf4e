use Rattle.ev_see_why.proofs.slots.first_by_plan.Goals as goal

pub returns : goal.returns
returns c planned = c.first_by_known.ensures (c.new-knowledge.ensures.stands planned)
