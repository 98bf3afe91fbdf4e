use Rattle.std.proofs.Common.{arith}
use Rattle.ev_op.proofs.DecodeLemmas.{is_found, finds}
use Rattle.ev_op.proofs.codec.decode.Goals as goal

pub returns-clause-found : goal.returns-clause-found
returns-clause-found c = is_found c.args.bytes.now c.found.result (λ i. omega (arith, c.type_inv.bytes i)) c.found.ensures

pub returns-clause-only : goal.returns-clause-only
returns-clause-only c = finds c.args.bytes.now c.found.result c.found.ensures
