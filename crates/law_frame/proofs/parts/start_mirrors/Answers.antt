use Rattle.law_frame.proofs.Local.Starts.{start_mirrors}
use Rattle.law_frame.proofs.parts.start_mirrors.Goals as goal

pub returns : goal.returns
returns c = start_mirrors
