use Rattle.law_fate.proofs.Fates.RunFates.{each_sent_once}
use Rattle.law_fate.proofs.fate.each_sent_once.Goals as goal

pub returns : goal.returns
returns c = each_sent_once
