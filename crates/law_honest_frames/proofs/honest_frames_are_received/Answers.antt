use Rattle.law_honest_frames.proofs.Runs.{frames_received}
use Rattle.law_honest_frames.proofs.honest_frames_are_received.Goals as goal

pub returns : goal.returns
returns c = frames_received
