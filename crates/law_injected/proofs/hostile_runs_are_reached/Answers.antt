use Rattle.law_injected.proofs.HostileReached.{hostile_reached}
use Rattle.law_injected.proofs.hostile_runs_are_reached.Goals as goal

pub returns : goal.returns
returns c = hostile_reached
