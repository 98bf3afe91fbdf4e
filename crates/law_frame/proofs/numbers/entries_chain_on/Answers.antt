use Rattle.law_frame.proofs.Frame.Chain.{entries_chain}
use Rattle.law_frame.proofs.numbers.entries_chain_on.Goals as goal

pub returns : goal.returns
returns c = entries_chain
