use Rattle.law_reference.proofs.Reference.Standing.{gifts_stay}
use Rattle.law_reference.proofs.gifts.gifts_stay.Goals as goal

pub returns : goal.returns
returns c = gifts_stay
