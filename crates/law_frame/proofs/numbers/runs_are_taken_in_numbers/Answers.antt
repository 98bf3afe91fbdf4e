use Rattle.law_frame.proofs.Frame.Runs.{runs_taken}
use Rattle.law_frame.proofs.numbers.runs_are_taken_in_numbers.Goals as goal

pub returns : goal.returns
returns c = runs_taken
