use Rattle.law_frame.proofs.Local.ToldLaws.{gifts_named}
use Rattle.law_frame.proofs.told.gifts_are_named.Goals as goal

pub returns : goal.returns
returns c = gifts_named
