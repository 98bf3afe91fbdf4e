use Rattle.law_machine.proofs.Machine.Restless.{rest_needed}
use Rattle.law_machine.proofs.steps.rest_is_needed.Goals as goal

pub returns : goal.returns
returns c = rest_needed
