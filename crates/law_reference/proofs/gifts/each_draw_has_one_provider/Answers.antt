use Rattle.law_reference.proofs.Reference.GiftLaws.{one_provider}
use Rattle.law_reference.proofs.gifts.each_draw_has_one_provider.Goals as goal

pub returns : goal.returns
returns c = one_provider
