use Rattle.law_machine.proofs.Machine.StepLaws.{settled_stays}
use Rattle.law_machine.proofs.steps.settlings_stay.Goals as goal

pub returns : goal.returns
returns c = (λ K step s. settled_stays K step s, λ K step s. settled_stays K step s)
