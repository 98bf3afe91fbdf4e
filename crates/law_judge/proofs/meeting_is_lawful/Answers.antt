use Rattle.law_judge.proofs.AllowedOps.{is_lawful}
use Rattle.law_judge.proofs.meeting_is_lawful.Goals as goal

pub returns : goal.returns
returns c = is_lawful
