use Rattle.law_frame.proofs.Frame.Notes.{arrivals_stand}
use Rattle.law_frame.proofs.numbers.every_arrival_stands.Goals as goal

pub returns : goal.returns
returns c = arrivals_stand
