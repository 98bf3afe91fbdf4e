use Rattle.law_frame.proofs.Frame.Maps.{readings_go_together}
use Rattle.law_frame.proofs.frames.readings_go_together.Goals as goal

pub returns : goal.returns
returns c = readings_go_together
