use Rattle.law_uses.proofs.Connectivity.Rows.{coercing_is}
use Rattle.law_uses.proofs.connected.coercing_is_connected.Goals as goal

pub returns : goal.returns
returns c = λ word. coercing_is word
