use Rattle.law_lawful.proofs.Learnt.{spoken_known}
use Rattle.law_lawful.proofs.what_is_spoken_is_known.Goals as goal

pub returns : goal.returns
returns c = spoken_known
