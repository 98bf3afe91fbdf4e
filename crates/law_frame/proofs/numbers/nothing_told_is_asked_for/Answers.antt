use Rattle.law_frame.proofs.Frame.Untouched.{nothing_told}
use Rattle.law_frame.proofs.numbers.nothing_told_is_asked_for.Goals as goal

pub returns : goal.returns
returns c = nothing_told
