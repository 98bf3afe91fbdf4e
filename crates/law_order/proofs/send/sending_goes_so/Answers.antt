use Rattle.law_order.proofs.Ordering.Sendings.{sending_goes_so}
use Rattle.law_order.proofs.send.sending_goes_so.Goals as goal

pub returns : goal.returns
returns c = sending_goes_so
