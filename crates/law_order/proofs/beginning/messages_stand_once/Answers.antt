use Rattle.law_order.proofs.Runs.Once.{messages_stand_once}
use Rattle.law_order.proofs.beginning.messages_stand_once.Goals as goal

pub returns : goal.returns
returns c = messages_stand_once
