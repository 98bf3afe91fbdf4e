use Rattle.law_machine.proofs.Renamed.Numbered.{runs_alone}
use Rattle.law_machine.proofs.opening.runs_alone.Goals as goal

pub returns : goal.returns
returns c = runs_alone
