use Rattle.law_frame.proofs.Frame.States.{states_have_numbers}
use Rattle.law_frame.proofs.numbers.each_state_has_numbers.Goals as goal

pub returns : goal.returns
returns c = states_have_numbers
