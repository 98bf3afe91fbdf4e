use Rattle.law_hostile_frame.proofs.Whole.{plays_are_runs}
use Rattle.law_hostile_frame.proofs.plays_are_runs_in_numbers.Goals as goal

pub returns : goal.returns
returns c = plays_are_runs
