use Rattle.law_reference.proofs.Gift.Stays.{gifts_stay}
use Rattle.law_reference.proofs.hosted_gifts.gifts_stay.Goals as goal

pub returns : goal.returns
returns c = (λ K step s. gifts_stay K step s, λ K step s. gifts_stay K step s)
