use Rattle.law_order.proofs.Ordering.Amid.{beginning_changes_no_way}
use Rattle.law_order.proofs.order.beginning_changes_no_way.Goals as goal

pub returns : goal.returns
returns c = beginning_changes_no_way
