use Rattle.law_machine.proofs.Machine.StepLaws.{history_stays}
use Rattle.law_machine.proofs.steps.history_grows.Goals as goal

pub returns : goal.returns
returns c = (λ K step s. history_stays K step s, λ K step s. history_stays K step s)
