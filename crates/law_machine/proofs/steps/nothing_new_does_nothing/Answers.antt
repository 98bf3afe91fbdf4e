use Rattle.law_machine.proofs.Machine.ReceivingLaws.{does_nothing}
use Rattle.law_machine.proofs.steps.nothing_new_does_nothing.Goals as goal

pub returns : goal.returns
returns c = (λ K sight from n s e. does_nothing K sight from n s e, λ K sight from n s e. does_nothing K sight from n s e)
