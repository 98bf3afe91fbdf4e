use Rattle.law_uses.proofs.Connectivity.FineSteps.{named_connect, numbered_connect}
use Rattle.law_uses.proofs.uses_in_runs.steps_are_connected.Goals as goal

pub returns : goal.returns
returns c = (λ word v step s e still. named_connect word v step s e still, λ word step s e still. numbered_connect word step s e still)
