use Rattle.law_machine.proofs.Renamed.Steps.{turns_stand}
use Rattle.law_machine.proofs.renaming.turns_stand.Goals as goal

pub returns : goal.returns
returns c = turns_stand
