use Rattle.law_hostile_tables.proofs.Steps.{own_tell}
use Rattle.law_hostile_tables.proofs.own_steps_tell_names.Goals as goal

pub returns : goal.returns
returns c = own_tell
