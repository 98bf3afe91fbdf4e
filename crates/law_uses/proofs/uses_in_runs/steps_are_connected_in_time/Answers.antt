use Rattle.law_uses.proofs.Connectivity.FineSteps.{named_in_time, numbered_in_time}
use Rattle.law_uses.proofs.uses_in_runs.steps_are_connected_in_time.Goals as goal

pub returns : goal.returns
returns c = (λ word v step s e still. named_in_time word v step s e still, λ word step s e still. numbered_in_time word step s e still)
