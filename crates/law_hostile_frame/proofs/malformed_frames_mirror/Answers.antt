use Rattle.law_hostile_frame.proofs.Malformed.{malformed_frames_mirror}
use Rattle.law_hostile_frame.proofs.malformed_frames_mirror.Goals as goal

pub returns : goal.returns
returns c = malformed_frames_mirror
