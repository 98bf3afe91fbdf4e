use Rattle.law_hostile_tables.proofs.Tables.{own_exported}
use Rattle.law_hostile_tables.proofs.own_steps_export_their_own.Goals as goal

pub returns : goal.returns
returns c = own_exported
