use Rattle.law_frame.proofs.Frame.Writes.{writings_go_together}
use Rattle.law_frame.proofs.frames.writings_go_together.Goals as goal

pub returns : goal.returns
returns c = writings_go_together
