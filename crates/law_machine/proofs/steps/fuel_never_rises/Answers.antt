use Rattle.law_machine.proofs.Machine.StepLaws.{fuel_stays}
use Rattle.law_machine.proofs.steps.fuel_never_rises.Goals as goal

pub returns : goal.returns
returns c = (λ K step s. fuel_stays K step s, λ K step s. fuel_stays K step s)
