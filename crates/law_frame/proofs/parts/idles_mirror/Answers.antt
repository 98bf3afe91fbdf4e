use Rattle.law_frame.proofs.Local.Closing.{idles_mirror}
use Rattle.law_frame.proofs.parts.idles_mirror.Goals as goal

pub returns : goal.returns
returns c = idles_mirror
