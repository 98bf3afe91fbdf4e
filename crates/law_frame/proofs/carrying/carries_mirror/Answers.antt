use Rattle.law_frame.proofs.Local.Carries.{carries_mirror}
use Rattle.law_frame.proofs.carrying.carries_mirror.Goals as goal

pub returns : goal.returns
returns c = carries_mirror
