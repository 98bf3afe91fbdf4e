use Rattle.law_hostile_tables.proofs.Positions.{positions_kept}
use Rattle.law_hostile_tables.proofs.positions_are_kept.Goals as goal

pub returns : goal.returns
returns c = positions_kept
