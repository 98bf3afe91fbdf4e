use Rattle.law_order.proofs.Runs.Beginnings.{vats_are_ready}
use Rattle.law_order.proofs.beginning.vats_are_ready.Goals as goal

pub returns : goal.returns
returns c = vats_are_ready
