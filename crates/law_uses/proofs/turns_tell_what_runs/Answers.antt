use Rattle.law_uses.proofs.Running.Turns.{turns_tell_what_runs}
use Rattle.law_uses.proofs.turns_tell_what_runs.Goals as goal

pub returns : goal.returns
returns c = turns_tell_what_runs
