use Rattle.law_hostile.proofs.Known.{names_are_known}
use Rattle.law_hostile.proofs.hostile.names_are_known.Goals as goal

pub returns : goal.returns
returns c = names_are_known
