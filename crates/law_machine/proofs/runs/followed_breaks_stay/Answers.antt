use Rattle.law_machine.proofs.Run.BreakRuns.{followed_breaks_open, followed_breaks_run}
use Rattle.law_machine.proofs.runs.followed_breaks_stay.Goals as goal

pub returns : goal.returns
returns c = (followed_breaks_open, followed_breaks_run)
