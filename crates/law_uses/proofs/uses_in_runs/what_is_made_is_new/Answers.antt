use Rattle.law_uses.proofs.Connectivity.FineSteps.{named_new, numbered_new}
use Rattle.law_uses.proofs.uses_in_runs.what_is_made_is_new.Goals as goal

pub returns : goal.returns
returns c = (λ word v step s e still. named_new word v step s e still, λ word step s e still. numbered_new word step s e still)
