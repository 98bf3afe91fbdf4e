use Rattle.law_reference.proofs.Reference.ListLaws.{ringless_lists_end}
use Rattle.law_reference.proofs.lists.ringless_lists_end.Goals as goal

pub returns : goal.returns
returns c = ringless_lists_end
