use Rattle.law_reference.proofs.Reference.GiftLaws.{draws_once}
use Rattle.law_reference.proofs.gifts.each_draw_stands_once.Goals as goal

pub returns : goal.returns
returns c = draws_once
