use Rattle.law_trace.proofs.UsesSeen.ReadAgain.{read_alike}
use Rattle.law_trace.proofs.uses_are_read_again.Goals as goal

pub returns : goal.returns
returns c = read_alike
