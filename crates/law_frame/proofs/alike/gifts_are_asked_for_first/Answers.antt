use Rattle.law_frame.proofs.Frame.OrderRuns.{gifts_asked_first}
use Rattle.law_frame.proofs.alike.gifts_are_asked_for_first.Goals as goal

pub returns : goal.returns
returns c = gifts_asked_first
