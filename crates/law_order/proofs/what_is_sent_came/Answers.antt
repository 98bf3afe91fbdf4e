use Rattle.law_order.proofs.Sending.Came.{what_is_sent_came}
use Rattle.law_order.proofs.what_is_sent_came.Goals as goal

pub returns : goal.returns
returns c = what_is_sent_came
