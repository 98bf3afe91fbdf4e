use Rattle.law_read.proofs.Generated.Acceptance.{are_read}
use Rattle.law_read.proofs.generated_scripts_are_read.Goals as goal

pub returns : goal.returns
returns c = are_read
