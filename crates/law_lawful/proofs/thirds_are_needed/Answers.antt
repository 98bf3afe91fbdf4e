use Rattle.law_lawful.proofs.Thirds.{thirds}
use Rattle.law_lawful.proofs.thirds_are_needed.Goals as goal

pub returns : goal.returns
returns c = thirds
