use Rattle.law_machine.proofs.Machine.StepEnds.{step_ends}
use Rattle.law_machine.proofs.steps.steps_are_quiet.Goals as goal

pub returns : goal.returns
returns c = (λ K step s. step_ends K step s, λ K step s. step_ends K step s)
