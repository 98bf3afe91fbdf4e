use Rattle.law_fate.proofs.Fates.RunFates.{each_taken_once}
use Rattle.law_fate.proofs.fate.each_taken_once.Goals as goal

pub returns : goal.returns
returns c = each_taken_once
