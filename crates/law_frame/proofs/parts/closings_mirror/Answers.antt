use Rattle.law_frame.proofs.Local.Closing.{closings_mirror}
use Rattle.law_frame.proofs.parts.closings_mirror.Goals as goal

pub returns : goal.returns
returns c = closings_mirror
