use Rattle.law_evaluation.proofs.Acts.Inside.{reads}
use Rattle.law_evaluation.proofs.act_laws.reads_as_references.Goals as goal

pub returns : goal.returns
returns c = λ w i more k e. reads w i more k e
