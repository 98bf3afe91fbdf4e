use Rattle.law_frame.proofs.Local.Texts.{texts_mirror}
use Rattle.law_frame.proofs.parts.texts_mirror.Goals as goal

pub returns : goal.returns
returns c = texts_mirror
