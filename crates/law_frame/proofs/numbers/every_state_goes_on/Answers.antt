use Rattle.law_frame.proofs.Frame.Untouched.{every_state}
use Rattle.law_frame.proofs.numbers.every_state_goes_on.Goals as goal

pub returns : goal.returns
returns c = every_state
