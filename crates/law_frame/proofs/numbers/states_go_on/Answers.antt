use Rattle.law_frame.proofs.Frame.Exports.{states_go_on}
use Rattle.law_frame.proofs.numbers.states_go_on.Goals as goal

pub returns : goal.returns
returns c = states_go_on
