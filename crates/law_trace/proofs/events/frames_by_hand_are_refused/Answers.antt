use Rattle.law_trace.proofs.Trace.ByHand.{all_refused}
use Rattle.law_trace.proofs.events.frames_by_hand_are_refused.Goals as goal

pub returns : goal.returns
returns c = all_refused
