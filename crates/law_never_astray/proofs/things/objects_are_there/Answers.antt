use Rattle.law_never_astray.proofs.ThingsWorlds.{objects_are_there}
use Rattle.law_never_astray.proofs.things.objects_are_there.Goals as goal

pub returns : goal.returns
returns c = objects_are_there
