use Rattle.law_hostile.proofs.Stays.{views_wait}
use Rattle.law_hostile.proofs.hostile.views_wait.Goals as goal

pub returns : goal.returns
returns c = views_wait
