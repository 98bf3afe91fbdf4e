use Rattle.law_reference.proofs.Reference.Stacked.{members_end}
use Rattle.law_reference.proofs.lists.members_end.Goals as goal

pub returns : goal.returns
returns c = members_end
