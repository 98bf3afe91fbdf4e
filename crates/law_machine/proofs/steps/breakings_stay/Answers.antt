use Rattle.law_machine.proofs.Machine.StepLaws.{broken_stays}
use Rattle.law_machine.proofs.steps.breakings_stay.Goals as goal

pub returns : goal.returns
returns c = (λ K step s. broken_stays K step s, λ K step s. broken_stays K step s)
