use Rattle.law_order.proofs.Arrivals.TrueNotes.{ended_names_keep}
use Rattle.law_order.proofs.tell.ended_names_keep.Goals as goal

pub returns : goal.returns
returns c = ended_names_keep
