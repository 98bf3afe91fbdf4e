use Rattle.law_frame.proofs.Local.ToldLaws.{gifts_at_end}
use Rattle.law_frame.proofs.told.gifts_come_at_the_end.Goals as goal

pub returns : goal.returns
returns c = gifts_at_end
