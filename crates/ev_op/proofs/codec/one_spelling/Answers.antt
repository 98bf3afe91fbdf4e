use Rattle.ev_op.proofs.OpLemmas.{one_spelling_law}
use Rattle.ev_op.proofs.codec.one_spelling.Goals as goal

pub returns : goal.returns
returns c = one_spelling_law
