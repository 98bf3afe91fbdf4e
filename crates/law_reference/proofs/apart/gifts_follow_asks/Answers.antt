use Rattle.law_reference.proofs.Reference.ApartWhole.{follow_asks}
use Rattle.law_reference.proofs.apart.gifts_follow_asks.Goals as goal

pub returns : goal.returns
returns c = follow_asks
