use Rattle.law_fate.proofs.Fates.WholeFateLaws.{steps_find_places}
use Rattle.law_fate.proofs.whole.steps_find_places.Goals as goal

pub returns : goal.returns
returns c = steps_find_places
