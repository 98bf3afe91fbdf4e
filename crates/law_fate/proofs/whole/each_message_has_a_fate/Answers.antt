use Rattle.law_fate.proofs.Fates.WholeFateLaws.{each_message_has_a_fate}
use Rattle.law_fate.proofs.whole.each_message_has_a_fate.Goals as goal

pub returns : goal.returns
returns c = each_message_has_a_fate
