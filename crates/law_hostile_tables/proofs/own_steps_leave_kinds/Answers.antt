use Rattle.law_hostile_tables.proofs.Tables.{own_kinds}
use Rattle.law_hostile_tables.proofs.own_steps_leave_kinds.Goals as goal

pub returns : goal.returns
returns c = own_kinds
