use Rattle.law_hostile_order.proofs.Honest.{honest_plays_are_ordered}
use Rattle.law_hostile_order.proofs.honest_plays_are_ordered.Goals as goal

pub returns : goal.returns
returns c = honest_plays_are_ordered
