use Rattle.law_order.proofs.Sending.Begins.{vats_can_pass}
use Rattle.law_order.proofs.vats_can_pass.Goals as goal

pub returns : goal.returns
returns c = vats_can_pass
