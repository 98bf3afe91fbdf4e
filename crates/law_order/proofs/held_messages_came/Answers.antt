use Rattle.law_order.proofs.Came.Runs.{held_messages_came}
use Rattle.law_order.proofs.held_messages_came.Goals as goal

pub returns : goal.returns
returns c = held_messages_came
