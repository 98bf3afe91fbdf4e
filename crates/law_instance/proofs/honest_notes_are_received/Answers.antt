use Rattle.law_instance.proofs.Whole.{notes_received}
use Rattle.law_instance.proofs.honest_notes_are_received.Goals as goal

pub returns : goal.returns
returns c = notes_received
