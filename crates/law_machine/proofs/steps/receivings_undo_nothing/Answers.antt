use Rattle.law_machine.proofs.Machine.ReceivingLaws.{undoes_nothing}
use Rattle.law_machine.proofs.steps.receivings_undo_nothing.Goals as goal

pub returns : goal.returns
returns c = (λ K sight from n s. undoes_nothing K sight from n s, λ K sight from n s. undoes_nothing K sight from n s)
