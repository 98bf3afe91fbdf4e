use Rattle.law_uses.proofs.Connectivity.RunKnows.{opened_begotten, run_begotten, ended_begotten}
use Rattle.law_uses.proofs.message.only_connectivity_begets_connectivity.Goals as goal

pub returns : goal.returns
returns c = (λ script. (λ ps rest w e i. opened_begotten script ps rest w e i, λ w x es k e i. run_begotten script w x es k e i), λ script w e. ended_begotten script w e)
