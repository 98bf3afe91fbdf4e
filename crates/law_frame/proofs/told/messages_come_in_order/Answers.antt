use Rattle.law_frame.proofs.Local.ToldLaws.{messages_in_order}
use Rattle.law_frame.proofs.told.messages_come_in_order.Goals as goal

pub returns : goal.returns
returns c = messages_in_order
