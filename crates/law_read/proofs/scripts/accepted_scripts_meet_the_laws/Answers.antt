use Rattle.law_read.proofs.ReadScripts.Meets.{accepted}
use Rattle.law_read.proofs.scripts.accepted_scripts_meet_the_laws.Goals as goal

pub returns : goal.returns
returns c = accepted
