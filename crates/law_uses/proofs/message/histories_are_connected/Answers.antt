use Rattle.law_uses.proofs.Connectivity.RunKnows.{opened_connected, run_connected, ended_connected}
use Rattle.law_uses.proofs.message.histories_are_connected.Goals as goal

pub returns : goal.returns
returns c = (λ script. (λ ps rest w e i. opened_connected script ps rest w e i, λ w x es k e i. run_connected script w x es k e i), λ script w e. ended_connected script w e)
