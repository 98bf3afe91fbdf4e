use Rattle.law_never_astray.proofs.Ejections.{ejections_awaited_in_runs}
use Rattle.law_never_astray.proofs.astray.ejections_are_awaited_in_runs.Goals as goal

pub returns : goal.returns
returns c = ejections_awaited_in_runs
