use Rattle.law_accepted.proofs.Meets.{meets}
use Rattle.law_accepted.proofs.admitted_scripts_meet_the_laws.Goals as goal

pub returns : goal.returns
returns c = meets
