use Rattle.law_honest_frames.proofs.Runs.{plays_are_runs}
use Rattle.law_honest_frames.proofs.honest_plays_are_runs_in_numbers.Goals as goal

pub returns : goal.returns
returns c = plays_are_runs
