use Rattle.law_evaluation.proofs.Acts.Inside.{places}
use Rattle.law_evaluation.proofs.act_laws.places_as_references.Goals as goal

pub returns : goal.returns
returns c = λ w i v. places w i v
