use Rattle.law_uses.proofs.Connectivity.Rows.{stray_is_not}
use Rattle.law_uses.proofs.connected.stray_is_not_connected.Goals as goal

pub returns : goal.returns
returns c = λ word c. stray_is_not word c
