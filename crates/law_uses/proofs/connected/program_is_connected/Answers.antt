use Rattle.law_uses.proofs.Connectivity.Rows.{program_is}
use Rattle.law_uses.proofs.connected.program_is_connected.Goals as goal

pub returns : goal.returns
returns c = λ word. program_is word
