use Rattle.law_uses.proofs.Connectivity.Rows.{handed_is}
use Rattle.law_uses.proofs.connected.handed_is_connected.Goals as goal

pub returns : goal.returns
returns c = λ word. handed_is word
