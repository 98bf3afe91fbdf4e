use Rattle.law_reference.proofs.Reference.HideRuns.{gifts_hidden}
use Rattle.law_reference.proofs.apart.gifts_under_way_are_hidden.Goals as goal

pub returns : goal.returns
returns c = gifts_hidden
