use Rattle.law_frame.proofs.Frame.OwnFrames.{frames_are_written_by_numbers}
use Rattle.law_frame.proofs.frames.frames_are_written_by_numbers.Goals as goal

pub returns : goal.returns
returns c = frames_are_written_by_numbers
