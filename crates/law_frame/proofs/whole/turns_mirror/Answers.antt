use Rattle.law_frame.proofs.Local.Joined.{turns_so}
use Rattle.law_frame.proofs.whole.turns_mirror.Goals as goal

pub returns : goal.returns
returns c = turns_so
