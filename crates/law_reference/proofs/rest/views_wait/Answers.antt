use Rattle.law_reference.proofs.Reference.ViewsRuns.{views_wait_in_runs}
use Rattle.law_reference.proofs.rest.views_wait.Goals as goal

pub returns : goal.returns
returns c = views_wait_in_runs
