use Rattle.law_machine.proofs.Machine.StepLaws.{ejectors_stays}
use Rattle.law_machine.proofs.steps.ejectors_stay_dead.Goals as goal

pub returns : goal.returns
returns c = (λ K step s. ejectors_stays K step s, λ K step s. ejectors_stays K step s)
