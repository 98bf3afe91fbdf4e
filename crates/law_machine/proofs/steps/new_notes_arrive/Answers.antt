use Rattle.law_machine.proofs.Machine.ReceivingLaws.{it_arrives}
use Rattle.law_machine.proofs.steps.new_notes_arrive.Goals as goal

pub returns : goal.returns
returns c = (λ K sight from n s e f. it_arrives K sight from n s e f, λ K sight from n s e f. it_arrives K sight from n s e f)
