use Rattle.law_order.proofs.ToldOnce.Opens.{opened_gifts_are_new}
use Rattle.law_order.proofs.opened_gifts_are_new.Goals as goal

pub returns : goal.returns
returns c = opened_gifts_are_new
