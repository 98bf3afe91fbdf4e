use Rattle.law_instance.proofs.Corollaries.{one_fate}
use Rattle.law_instance.proofs.honest_plays_give_one_fate.Goals as goal

pub returns : goal.returns
returns c = one_fate
