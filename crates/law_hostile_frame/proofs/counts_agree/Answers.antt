use Rattle.law_hostile_frame.proofs.Counts.{counts_agree}
use Rattle.law_hostile_frame.proofs.counts_agree.Goals as goal

pub returns : goal.returns
returns c = counts_agree
