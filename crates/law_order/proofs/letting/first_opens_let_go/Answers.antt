use Rattle.law_order.proofs.Cuts.Reached.{first_opens_let_go}
use Rattle.law_order.proofs.letting.first_opens_let_go.Goals as goal

pub returns : goal.returns
returns c = first_opens_let_go
