use Rattle.law_frame.proofs.Frame.Chain.{openings_chain}
use Rattle.law_frame.proofs.numbers.opening_turns_chain_on.Goals as goal

pub returns : goal.returns
returns c = openings_chain
