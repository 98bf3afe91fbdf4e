use Rattle.law_machine.proofs.Renamed.Steps.{notices_stand}
use Rattle.law_machine.proofs.renaming.notices_stand.Goals as goal

pub returns : goal.returns
returns c = notices_stand
