use Rattle.law_fate.proofs.Fates.PlacesSteps.{steps_keep_places}
use Rattle.law_fate.proofs.fate.steps_keep_places.Goals as goal

pub returns : goal.returns
returns c = steps_keep_places
