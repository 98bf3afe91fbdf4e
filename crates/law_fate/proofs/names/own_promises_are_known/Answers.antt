use Rattle.law_fate.proofs.Name.Laws.{own_known}
use Rattle.law_fate.proofs.names.own_promises_are_known.Goals as goal

pub returns : goal.returns
returns c = own_known
