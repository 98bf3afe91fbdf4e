use Rattle.law_order.proofs.Sending.Agree.{worlds_agree}
use Rattle.law_order.proofs.worlds_agree.Goals as goal

pub returns : goal.returns
returns c = worlds_agree
