use Rattle.law_order.proofs.Sending.Agree.{earlier_states_agree}
use Rattle.law_order.proofs.earlier_states_agree.Goals as goal

pub returns : goal.returns
returns c = earlier_states_agree
