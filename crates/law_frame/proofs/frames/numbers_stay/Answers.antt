use Rattle.law_frame.proofs.Frame.Grows.{numbers_stay}
use Rattle.law_frame.proofs.frames.numbers_stay.Goals as goal

pub returns : goal.returns
returns c = numbers_stay
