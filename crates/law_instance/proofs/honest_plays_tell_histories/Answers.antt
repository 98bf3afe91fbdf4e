use Rattle.law_instance.proofs.Corollaries.{histories_told}
use Rattle.law_instance.proofs.honest_plays_tell_histories.Goals as goal

pub returns : goal.returns
returns c = histories_told
