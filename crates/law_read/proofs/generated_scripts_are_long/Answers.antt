use Rattle.law_read.proofs.Generated.Acceptance.{are_long}
use Rattle.law_read.proofs.generated_scripts_are_long.Goals as goal

pub returns : goal.returns
returns c = are_long
