use Rattle.law_frame.proofs.Frame.Runs.{runs_stand}
use Rattle.law_frame.proofs.numbers.runs_by_numbers_stand.Goals as goal

pub returns : goal.returns
returns c = runs_stand
