use Rattle.law_machine.proofs.Machine.StepLaws.{auditions_stays}
use Rattle.law_machine.proofs.steps.auditions_stay_dead.Goals as goal

pub returns : goal.returns
returns c = (λ K step s. auditions_stays K step s, λ K step s. auditions_stays K step s)
