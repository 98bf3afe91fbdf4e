use Rattle.law_hostile_frame.proofs.Steps.{lines_mirror}
use Rattle.law_hostile_frame.proofs.lines_mirror.Goals as goal

pub returns : goal.returns
returns c = lines_mirror
