use Rattle.law_reference.proofs.Gift.Broken.{breaks_for_good}
use Rattle.law_reference.proofs.unopened.notices_break_unopened_gifts.Goals as goal

pub returns : goal.returns
returns c = breaks_for_good
