use Rattle.law_trace.proofs.UsesSeen.ReadAgain.{runs_alike}
use Rattle.law_trace.proofs.uses_of_runs_are_read_again.Goals as goal

pub returns : goal.returns
returns c = runs_alike
