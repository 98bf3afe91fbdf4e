use Rattle.law_never_astray.proofs.ThingsWorlds.{things_are_there_in_runs}
use Rattle.law_never_astray.proofs.things.things_are_there_in_runs.Goals as goal

pub returns : goal.returns
returns c = things_are_there_in_runs
