use Rattle.law_order.proofs.Asked.Asked.{asked_for_are_opened}
use Rattle.law_order.proofs.asked_for_are_opened.Goals as goal

pub returns : goal.returns
returns c = asked_for_are_opened
