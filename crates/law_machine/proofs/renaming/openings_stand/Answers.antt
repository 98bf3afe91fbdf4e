use Rattle.law_machine.proofs.Renamed.Steps.{openings_stand}
use Rattle.law_machine.proofs.renaming.openings_stand.Goals as goal

pub returns : goal.returns
returns c = openings_stand
