use Rattle.law_order.proofs.Ordering.Brought.{passed_name_is_behind}
use Rattle.law_order.proofs.passing.passed_name_is_behind.Goals as goal

pub returns : goal.returns
returns c = passed_name_is_behind
