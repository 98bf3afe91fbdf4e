use Rattle.law_lawful.proofs.Reached.{spoken_between}
use Rattle.law_lawful.proofs.what_is_spoken_is_between.Goals as goal

pub returns : goal.returns
returns c = spoken_between
