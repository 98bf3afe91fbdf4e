use Rattle.law_fate.proofs.Name.Laws.{hosts_true}
use Rattle.law_fate.proofs.names.hosts_are_true.Goals as goal

pub returns : goal.returns
returns c = hosts_true
