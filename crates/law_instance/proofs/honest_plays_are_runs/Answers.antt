use Rattle.law_instance.proofs.Whole.{plays_are_runs}
use Rattle.law_instance.proofs.honest_plays_are_runs.Goals as goal

pub returns : goal.returns
returns c = plays_are_runs
