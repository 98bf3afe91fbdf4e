use Rattle.law_trace.proofs.UsesSeen.SeenAlike.{uses_of_seen}
use Rattle.law_trace.proofs.uses_of_what_is_seen.Goals as goal

pub returns : goal.returns
returns c = uses_of_seen
