use Rattle.law_reference.proofs.Reference.Needed.{conditions_needed}
use Rattle.law_reference.proofs.lists.conditions_are_needed.Goals as goal

pub returns : goal.returns
returns c = conditions_needed
