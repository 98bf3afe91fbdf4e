use Rattle.law_machine.proofs.Machine.ReceivingLaws.{each_receiving}
use Rattle.law_machine.proofs.steps.each_receiving_is_told.Goals as goal

pub returns : goal.returns
returns c = (λ K sight from n s. each_receiving K sight from n s, λ K sight from n s. each_receiving K sight from n s)
