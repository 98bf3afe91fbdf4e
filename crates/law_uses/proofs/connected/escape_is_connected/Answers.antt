use Rattle.law_uses.proofs.Connectivity.Rows.{escape_is}
use Rattle.law_uses.proofs.connected.escape_is_connected.Goals as goal

pub returns : goal.returns
returns c = λ word. escape_is word
