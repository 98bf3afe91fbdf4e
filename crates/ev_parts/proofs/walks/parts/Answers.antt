use Rattle.std.proofs.Common.{arith}
use Rattle.ev_parts.proofs.WholeLemmas.{whole_exactly, stops_behind}
use Rattle.ev_parts.proofs.Order.{lie_in_order}
use Rattle.ev_parts.proofs.walks.parts.Goals as goal

pub returns-clause-whole : goal.returns-clause-whole
returns-clause-whole c = whole_exactly c.args.bytes.now c.items.result (λ i. omega (arith, c.type_inv.bytes i)) c.items.ensures

pub returns-clause-behind : goal.returns-clause-behind
returns-clause-behind c = stops_behind c.args.bytes.now c.items.result c.items.ensures

pub returns-clause-order : goal.returns-clause-order
returns-clause-order c = lie_in_order c.args.bytes.now c.items.result c.items.ensures
