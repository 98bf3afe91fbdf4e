use Rattle.law_order.proofs.Asked.AskRuns.{asked_for_are_new}
use Rattle.law_order.proofs.asked_for_are_new.Goals as goal

pub returns : goal.returns
returns c = asked_for_are_new
