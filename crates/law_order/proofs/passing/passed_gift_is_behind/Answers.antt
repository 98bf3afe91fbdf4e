use Rattle.law_order.proofs.Ordering.Given.{passed_gift_is_behind}
use Rattle.law_order.proofs.passing.passed_gift_is_behind.Goals as goal

pub returns : goal.returns
returns c = passed_gift_is_behind
