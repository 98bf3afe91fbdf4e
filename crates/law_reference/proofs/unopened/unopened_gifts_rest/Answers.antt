use Rattle.law_reference.proofs.Gift.Runs.{rests_in_runs}
use Rattle.law_reference.proofs.unopened.unopened_gifts_rest.Goals as goal

pub returns : goal.returns
returns c = rests_in_runs
