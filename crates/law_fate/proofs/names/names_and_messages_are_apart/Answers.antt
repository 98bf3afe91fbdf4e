use Rattle.law_fate.proofs.Name.Laws.{names_apart}
use Rattle.law_fate.proofs.names.names_and_messages_are_apart.Goals as goal

pub returns : goal.returns
returns c = names_apart
