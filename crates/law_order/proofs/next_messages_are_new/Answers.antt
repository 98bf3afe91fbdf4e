use Rattle.law_order.proofs.Sending.New.{next_messages_are_new}
use Rattle.law_order.proofs.next_messages_are_new.Goals as goal

pub returns : goal.returns
returns c = next_messages_are_new
