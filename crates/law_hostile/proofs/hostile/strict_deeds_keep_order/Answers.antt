use Rattle.law_hostile.proofs.Strict.{strict_deeds_keep_order}
use Rattle.law_hostile.proofs.hostile.strict_deeds_keep_order.Goals as goal

pub returns : goal.returns
returns c = strict_deeds_keep_order
