use Rattle.law_machine.proofs.Machine.StepLaws.{resolvers_stays}
use Rattle.law_machine.proofs.steps.resolvers_stay.Goals as goal

pub returns : goal.returns
returns c = (λ K step s. resolvers_stays K step s, λ K step s. resolvers_stays K step s)
