use Rattle.law_machine.proofs.Machine.StepLaws.{draws_stays}
use Rattle.law_machine.proofs.steps.draws_stay.Goals as goal

pub returns : goal.returns
returns c = (λ K step s. draws_stays K step s, λ K step s. draws_stays K step s)
