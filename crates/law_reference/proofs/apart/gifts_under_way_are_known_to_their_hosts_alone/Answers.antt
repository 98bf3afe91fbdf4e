use Rattle.law_reference.proofs.Reference.HideRuns.{known_alone}
use Rattle.law_reference.proofs.apart.gifts_under_way_are_known_to_their_hosts_alone.Goals as goal

pub returns : goal.returns
returns c = known_alone
