use Rattle.law_hostile_order.proofs.Strayings.{strayings_need_hostile_vats}
use Rattle.law_hostile_order.proofs.strayings_need_hostile_vats.Goals as goal

pub returns : goal.returns
returns c = strayings_need_hostile_vats
