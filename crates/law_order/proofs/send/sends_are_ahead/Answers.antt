use Rattle.law_order.proofs.Ordering.Sent.{sends_are_ahead}
use Rattle.law_order.proofs.send.sends_are_ahead.Goals as goal

pub returns : goal.returns
returns c = sends_are_ahead
