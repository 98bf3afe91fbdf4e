use Rattle.law_read.proofs.ReadUses.Judged.{judged_as_read}
use Rattle.law_read.proofs.uses_are_judged_as_read.Goals as goal

pub returns : goal.returns
returns c = judged_as_read
