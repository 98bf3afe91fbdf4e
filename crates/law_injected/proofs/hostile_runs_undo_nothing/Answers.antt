use Rattle.law_injected.proofs.HostileKept.{undone}
use Rattle.law_injected.proofs.hostile_runs_undo_nothing.Goals as goal

pub returns : goal.returns
returns c = undone
