use Rattle.law_evaluation.proofs.Acts.Inside.{follows}
use Rattle.law_evaluation.proofs.act_laws.follows_as_references.Goals as goal

pub returns : goal.returns
returns c = λ w i v k. follows w i v k
