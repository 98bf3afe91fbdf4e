use Rattle.law_trace.proofs.UsesSeen.SeenAlike.{uses_without_frames}
use Rattle.law_trace.proofs.uses_without_frames.Goals as goal

pub returns : goal.returns
returns c = uses_without_frames
