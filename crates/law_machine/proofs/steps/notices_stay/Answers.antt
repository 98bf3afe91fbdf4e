use Rattle.law_machine.proofs.Machine.StepLaws.{noticed_stays}
use Rattle.law_machine.proofs.steps.notices_stay.Goals as goal

pub returns : goal.returns
returns c = (λ K step s. noticed_stays K step s, λ K step s. noticed_stays K step s)
