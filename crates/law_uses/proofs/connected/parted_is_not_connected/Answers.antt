use Rattle.law_uses.proofs.Connectivity.Rows.{parted_is_not}
use Rattle.law_uses.proofs.connected.parted_is_not_connected.Goals as goal

pub returns : goal.returns
returns c = λ word c. parted_is_not word c
