use Rattle.law_machine.proofs.Run.Honest.{honest_reached}
use Rattle.law_machine.proofs.moves.honest_runs_are_reached.Goals as goal

pub returns : goal.returns
returns c = honest_reached
