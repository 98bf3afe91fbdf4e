use Rattle.law_machine.proofs.Costs.Whole.{low}
use Rattle.law_machine.proofs.numbers_are_low.Goals as goal

pub returns : goal.returns
returns c = low
