use Rattle.law_uses.proofs.Connectivity.FineRuns.{opened_connect, run_connect}
use Rattle.law_uses.proofs.uses_in_runs.runs_are_connected.Goals as goal

pub returns : goal.returns
returns c = λ script. (λ ps rest w e i. opened_connect script ps w i, λ w x es k e i. run_connect script w x es k e i)
