use Rattle.law_frame.proofs.Frame.Exports.{positions_stay}
use Rattle.law_frame.proofs.numbers.positions_stay.Goals as goal

pub returns : goal.returns
returns c = positions_stay
