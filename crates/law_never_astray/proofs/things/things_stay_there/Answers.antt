use Rattle.law_never_astray.proofs.ThingsCounted.{things_stay_there}
use Rattle.law_never_astray.proofs.things.things_stay_there.Goals as goal

pub returns : goal.returns
returns c = things_stay_there
