use Rattle.law_uses.proofs.Connectivity.Rows.{leak_is_not}
use Rattle.law_uses.proofs.connected.leak_is_not_connected.Goals as goal

pub returns : goal.returns
returns c = λ word connected. leak_is_not word connected
