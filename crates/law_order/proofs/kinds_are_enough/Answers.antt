use Rattle.law_order.proofs.Tales.Entries.{kinds_are_enough}
use Rattle.law_order.proofs.kinds_are_enough.Goals as goal

pub returns : goal.returns
returns c = kinds_are_enough
