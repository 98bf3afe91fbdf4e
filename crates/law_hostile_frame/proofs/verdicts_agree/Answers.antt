use Rattle.law_hostile_frame.proofs.Counts.{verdicts_agree}
use Rattle.law_hostile_frame.proofs.verdicts_agree.Goals as goal

pub returns : goal.returns
returns c = verdicts_agree
