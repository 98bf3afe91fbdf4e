use Rattle.law_order.proofs.Ordering.Sendings.{turns_go_so}
use Rattle.law_order.proofs.send.turns_go_so.Goals as goal

pub returns : goal.returns
returns c = turns_go_so
