use Rattle.law_uses.proofs.Connectivity.Rows.{audit_is}
use Rattle.law_uses.proofs.connected.audit_is_connected.Goals as goal

pub returns : goal.returns
returns c = λ word. audit_is word
