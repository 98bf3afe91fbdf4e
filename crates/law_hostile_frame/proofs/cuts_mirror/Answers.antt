use Rattle.law_hostile_frame.proofs.Cuts.{cuts_mirror}
use Rattle.law_hostile_frame.proofs.cuts_mirror.Goals as goal

pub returns : goal.returns
returns c = cuts_mirror
