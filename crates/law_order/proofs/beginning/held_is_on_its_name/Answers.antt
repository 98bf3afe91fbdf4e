use Rattle.law_order.proofs.Runs.Beginnings.{held_is_on_its_name}
use Rattle.law_order.proofs.beginning.held_is_on_its_name.Goals as goal

pub returns : goal.returns
returns c = held_is_on_its_name
