use Rattle.law_evaluation.proofs.Acts.Follows.{follows}
use Rattle.law_evaluation.proofs.values.follows_inside.Goals as goal

pub returns : goal.returns
returns c = λ kind base i ground good v a. follows kind base i ground good v a
