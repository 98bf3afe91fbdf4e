use Rattle.law_fate.proofs.Fates.WholeFateLaws.{exactly_one_fate}
use Rattle.law_fate.proofs.whole.exactly_one_fate.Goals as goal

pub returns : goal.returns
returns c = exactly_one_fate
