use Rattle.law_hostile_tables.proofs.Own.{own_puts_so}
use Rattle.law_hostile_tables.proofs.own_steps_put_so.Goals as goal

pub returns : goal.returns
returns c = own_puts_so
