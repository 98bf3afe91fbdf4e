use Rattle.ev_refs.proofs.Reaches.{reaches_is}
use Rattle.ev_refs.proofs.laws.leads_back_as_the_machine.Goals as goal

pub returns : goal.returns
returns c = λ word ts r ls s p d v part is. reaches_is word ts r ls p s part is d v
