use Rattle.law_frame.proofs.Frame.Written.{have_frames}
use Rattle.law_frame.proofs.frames.notes_have_their_frames.Goals as goal

pub returns : goal.returns
returns c = have_frames
