use Rattle.law_reference.proofs.Reference.GiftAsking.{who_learns_asks}
use Rattle.law_reference.proofs.gifts.who_learns_a_gift_asks_for_it.Goals as goal

pub returns : goal.returns
returns c = who_learns_asks
