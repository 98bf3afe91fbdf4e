use Rattle.law_order.proofs.MessageTales.Reorder.{late_puts_grow}
use Rattle.law_order.proofs.late_puts_grow.Goals as goal

pub returns : goal.returns
returns c = late_puts_grow
