use Rattle.law_frame.proofs.Heard.Laws.{heard_by_gifts}
use Rattle.law_frame.proofs.hearing.frames_are_heard_by_gifts.Goals as goal

pub returns : goal.returns
returns c = heard_by_gifts
