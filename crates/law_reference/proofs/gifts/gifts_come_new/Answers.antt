use Rattle.law_reference.proofs.Reference.NewsLaws.{gifts_come_new}
use Rattle.law_reference.proofs.gifts.gifts_come_new.Goals as goal

pub returns : goal.returns
returns c = gifts_come_new
