use Rattle.law_uses.proofs.Connectivity.Rows.{ringless_is_not}
use Rattle.law_uses.proofs.connected.ringless_is_not_connected.Goals as goal

pub returns : goal.returns
returns c = λ word c. ringless_is_not word c
