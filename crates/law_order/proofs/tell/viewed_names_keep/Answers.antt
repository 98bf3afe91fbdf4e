use Rattle.law_order.proofs.Arrivals.TrueNotes.{viewed_names_keep}
use Rattle.law_order.proofs.tell.viewed_names_keep.Goals as goal

pub returns : goal.returns
returns c = viewed_names_keep
