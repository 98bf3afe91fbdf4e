use Rattle.law_frame.proofs.Local.Writing.{writings_mirror}
use Rattle.law_frame.proofs.parts.writings_mirror.Goals as goal

pub returns : goal.returns
returns c = writings_mirror
