use Rattle.law_reference.proofs.Reference.RunRing.{lists_end_in_runs}
use Rattle.law_reference.proofs.lists.lists_end_in_runs.Goals as goal

pub returns : goal.returns
returns c = lists_end_in_runs
