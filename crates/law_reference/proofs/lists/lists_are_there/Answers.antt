use Rattle.law_reference.proofs.Reference.Stacked.{lists_are_there}
use Rattle.law_reference.proofs.lists.lists_are_there.Goals as goal

pub returns : goal.returns
returns c = lists_are_there
