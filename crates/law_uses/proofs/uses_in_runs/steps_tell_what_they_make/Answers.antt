use Rattle.law_uses.proofs.Connectivity.FineSteps.{named_tell, numbered_tell}
use Rattle.law_uses.proofs.uses_in_runs.steps_tell_what_they_make.Goals as goal

pub returns : goal.returns
returns c = (λ word v step s e still. named_tell word v step s e still, λ word step s e still. numbered_tell word step s e still)
