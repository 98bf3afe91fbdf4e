use Rattle.law_order.proofs.Cuts.Reached.{notes_are_logged}
use Rattle.law_order.proofs.letting.notes_are_logged.Goals as goal

pub returns : goal.returns
returns c = notes_are_logged
