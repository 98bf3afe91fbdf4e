use Rattle.law_machine.proofs.Costs.Whole.{pays}
use Rattle.law_machine.proofs.fuel_pays.Goals as goal

pub returns : goal.returns
returns c = pays
