use Rattle.law_hostile_severed.proofs.Severed.{malformed_frames_break}
use Rattle.law_hostile_severed.proofs.malformed_frames_break.Goals as goal

pub returns : goal.returns
returns c = malformed_frames_break
