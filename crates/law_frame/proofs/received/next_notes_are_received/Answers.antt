use Rattle.law_frame.proofs.Heard.Anew.{received_arrive}
use Rattle.law_frame.proofs.received.next_notes_are_received.Goals as goal

pub returns : goal.returns
returns c = received_arrive
