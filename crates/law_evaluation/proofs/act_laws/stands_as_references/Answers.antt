use Rattle.law_evaluation.proofs.Acts.Inside.{stands}
use Rattle.law_evaluation.proofs.act_laws.stands_as_references.Goals as goal

pub returns : goal.returns
returns c = λ w i j e. stands w i j e
