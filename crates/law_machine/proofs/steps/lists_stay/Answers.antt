use Rattle.law_machine.proofs.Machine.StepLaws.{lists_stays}
use Rattle.law_machine.proofs.steps.lists_stay.Goals as goal

pub returns : goal.returns
returns c = (λ K step s. lists_stays K step s, λ K step s. lists_stays K step s)
