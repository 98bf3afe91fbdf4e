use Rattle.law_machine.proofs.Machine.StepLaws.{objects_stays}
use Rattle.law_machine.proofs.steps.objects_stay.Goals as goal

pub returns : goal.returns
returns c = (λ K step s. objects_stays K step s, λ K step s. objects_stays K step s)
