use Rattle.law_fate.proofs.Fates.RunFates.{places_and_fates}
use Rattle.law_fate.proofs.fate.places_and_fates.Goals as goal

pub returns : goal.returns
returns c = places_and_fates
