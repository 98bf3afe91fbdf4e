use Rattle.law_frame.proofs.Local.Cuts.{cuts_mirror}
use Rattle.law_frame.proofs.parts.cuts_mirror.Goals as goal

pub returns : goal.returns
returns c = cuts_mirror
