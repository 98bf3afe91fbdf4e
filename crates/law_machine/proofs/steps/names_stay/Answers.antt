use Rattle.law_machine.proofs.Machine.StepLaws.{names_stays}
use Rattle.law_machine.proofs.steps.names_stay.Goals as goal

pub returns : goal.returns
returns c = (λ K step s. names_stays K step s, λ K step s. names_stays K step s)
