use Rattle.law_fate.proofs.Name.Laws.{severed_broken}
use Rattle.law_fate.proofs.names.severed_objects_stay_broken.Goals as goal

pub returns : goal.returns
returns c = severed_broken
