use Rattle.law_machine.proofs.Machine.StepLaws.{guards_stays}
use Rattle.law_machine.proofs.steps.guards_stay.Goals as goal

pub returns : goal.returns
returns c = (λ K step s. guards_stays K step s, λ K step s. guards_stays K step s)
