use Rattle.law_order.proofs.Cuts.Reached.{each_gift_is_opened_once}
use Rattle.law_order.proofs.letting.each_gift_is_opened_once.Goals as goal

pub returns : goal.returns
returns c = each_gift_is_opened_once
