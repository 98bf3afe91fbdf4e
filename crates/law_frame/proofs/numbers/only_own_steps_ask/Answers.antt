use Rattle.law_frame.proofs.Frame.OwnAsks.{own_steps_ask}
use Rattle.law_frame.proofs.numbers.only_own_steps_ask.Goals as goal

pub returns : goal.returns
returns c = own_steps_ask
