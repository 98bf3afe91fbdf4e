use Rattle.law_fate.proofs.Name.Laws.{followed_broken}
use Rattle.law_fate.proofs.names.followed_breaks_stay_broken.Goals as goal

pub returns : goal.returns
returns c = followed_broken
