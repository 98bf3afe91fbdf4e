use Rattle.law_machine.proofs.Machine.StepLaws.{mails_stays}
use Rattle.law_machine.proofs.steps.mails_stay.Goals as goal

pub returns : goal.returns
returns c = (λ K step s. mails_stays K step s, λ K step s. mails_stays K step s)
