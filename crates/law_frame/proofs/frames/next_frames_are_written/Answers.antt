use Rattle.law_frame.proofs.Frame.Written.{next_written}
use Rattle.law_frame.proofs.frames.next_frames_are_written.Goals as goal

pub returns : goal.returns
returns c = next_written
