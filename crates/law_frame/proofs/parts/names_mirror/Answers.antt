use Rattle.law_frame.proofs.Local.Naming.{names_mirror}
use Rattle.law_frame.proofs.parts.names_mirror.Goals as goal

pub returns : goal.returns
returns c = names_mirror
