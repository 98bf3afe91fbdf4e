use Rattle.def_machine.specs.Values.{naming, numbering}
use Rattle.law_uses.proofs.Connectivity.Shortening.{steps_shorten}
use Rattle.law_uses.proofs.uses_in_runs.shortenings_open_what_is_asked.Goals as goal

pub returns : goal.returns
returns h = (λ word v from c i x s e o. steps_shorten (naming word v) from c i x s e o, λ word from c i x s e o. steps_shorten (numbering word) from c i x s e o)
