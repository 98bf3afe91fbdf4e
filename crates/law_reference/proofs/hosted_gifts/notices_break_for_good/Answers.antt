use Rattle.law_reference.proofs.Gift.BrokenForGood.{broken_for_good}
use Rattle.law_reference.proofs.hosted_gifts.notices_break_for_good.Goals as goal

pub returns : goal.returns
returns c = broken_for_good
