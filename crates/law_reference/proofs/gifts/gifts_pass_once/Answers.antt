use Rattle.law_reference.proofs.Reference.GiftLaws.{gifts_pass_once}
use Rattle.law_reference.proofs.gifts.gifts_pass_once.Goals as goal

pub returns : goal.returns
returns c = gifts_pass_once
