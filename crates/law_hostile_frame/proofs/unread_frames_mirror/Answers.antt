use Rattle.law_hostile_frame.proofs.Steps.{unread_frames_mirror}
use Rattle.law_hostile_frame.proofs.unread_frames_mirror.Goals as goal

pub returns : goal.returns
returns c = unread_frames_mirror
