use Rattle.law_uses.proofs.Connectivity.RunsTell.{opened_tell, run_tell}
use Rattle.law_uses.proofs.uses_in_runs.runs_tell_what_is_held.Goals as goal

pub returns : goal.returns
returns c = λ script. (λ ps rest w e i. opened_tell script ps w i, λ w x es k e i. run_tell script w x es k e i)
