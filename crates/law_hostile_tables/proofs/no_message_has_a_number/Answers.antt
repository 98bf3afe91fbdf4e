use Rattle.law_hostile_tables.proofs.Positions.{no_message}
use Rattle.law_hostile_tables.proofs.no_message_has_a_number.Goals as goal

pub returns : goal.returns
returns c = no_message
