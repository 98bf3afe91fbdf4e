use Rattle.law_frame.proofs.Frame.Untouched.{every_position}
use Rattle.law_frame.proofs.numbers.every_position_stays.Goals as goal

pub returns : goal.returns
returns c = every_position
