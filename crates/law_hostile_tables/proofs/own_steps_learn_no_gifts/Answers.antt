use Rattle.law_hostile_tables.proofs.Own.{own_learn_none}
use Rattle.law_hostile_tables.proofs.own_steps_learn_no_gifts.Goals as goal

pub returns : goal.returns
returns c = own_learn_none
