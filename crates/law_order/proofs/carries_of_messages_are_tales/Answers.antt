use Rattle.law_order.proofs.MessageTales.Runs.{carries_of_messages_are_tales}
use Rattle.law_order.proofs.carries_of_messages_are_tales.Goals as goal

pub returns : goal.returns
returns c = carries_of_messages_are_tales
