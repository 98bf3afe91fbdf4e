use Rattle.law_frame.proofs.Frame.AlikeArrivals.{arrivals_by_numbers}
use Rattle.law_frame.proofs.alike.arrivals_by_numbers_stand.Goals as goal

pub returns : goal.returns
returns c = arrivals_by_numbers
