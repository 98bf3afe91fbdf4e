use Rattle.law_order.proofs.Arrivals.Beside.{told_passings_keep}
use Rattle.law_order.proofs.tell.told_passings_keep.Goals as goal

pub returns : goal.returns
returns c = told_passings_keep
