use Rattle.law_uses.proofs.Connectivity.Rows.{kept_is_not}
use Rattle.law_uses.proofs.connected.kept_is_not_connected.Goals as goal

pub returns : goal.returns
returns c = λ word connected. kept_is_not word connected
