use Rattle.law_frame.proofs.Local.JoinedNotices.{notices_so}
use Rattle.law_frame.proofs.whole.notices_mirror.Goals as goal

pub returns : goal.returns
returns c = notices_so
