use Rattle.law_order.proofs.Arrivals.TrueNotes.{settled_names_keep}
use Rattle.law_order.proofs.tell.settled_names_keep.Goals as goal

pub returns : goal.returns
returns c = settled_names_keep
