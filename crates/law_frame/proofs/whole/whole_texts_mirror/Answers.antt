use Rattle.law_frame.proofs.Local.WholeRuns.{whole_texts_mirror}
use Rattle.law_frame.proofs.whole.whole_texts_mirror.Goals as goal

pub returns : goal.returns
returns c = whole_texts_mirror
