use Rattle.law_uses.proofs.Connectivity.RunDies.{opened_still, run_still}
use Rattle.law_uses.proofs.connected.nothing_is_live_in_runs.Goals as goal

pub returns : goal.returns
returns c = λ script. (λ ps rest w e i. opened_still script ps w i, λ w x es k e i. run_still script w x es k e i)
