use Rattle.law_frame.proofs.Local.HeardRuns.{frames_heard}
use Rattle.law_frame.proofs.local_hearing.frames_are_heard_by_numbers.Goals as goal

pub returns : goal.returns
returns c = frames_heard
