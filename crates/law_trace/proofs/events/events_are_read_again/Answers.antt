use Rattle.law_trace.proofs.Trace.EventsAgain.{events_again}
use Rattle.law_trace.proofs.events.events_are_read_again.Goals as goal

pub returns : goal.returns
returns c = events_again
