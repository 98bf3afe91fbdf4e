use Rattle.law_fate.proofs.Name.Laws.{plain_once}
use Rattle.law_fate.proofs.names.roots_and_promises_are_known_once.Goals as goal

pub returns : goal.returns
returns c = plain_once
