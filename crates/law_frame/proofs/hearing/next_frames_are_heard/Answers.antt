use Rattle.law_frame.proofs.Heard.Laws.{next_heard}
use Rattle.law_frame.proofs.hearing.next_frames_are_heard.Goals as goal

pub returns : goal.returns
returns c = next_heard
