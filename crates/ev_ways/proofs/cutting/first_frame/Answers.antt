use Rattle.std.proofs.Common.{arith}
use Rattle.ev_ways.proofs.Streams.{front_is}
use Rattle.ev_ways.proofs.cutting.first_frame.Goals as goal

pub returns-clause-found : goal.returns-clause-found
returns-clause-found c =
    front_is c.args.bytes.now c.in_ok-length.length.now c.split_at.result.1.now c.split_at-2.result.0.now c.split_at-2.result.1.now c.from_le_bytes-length.result
    (λ i. omega (arith, c.type_inv.bytes i)) c.in_ok-length.ensures.cases.enough c.in_ok-length.ensures.cases.same c.from_le_bytes-length.ensures (omega (arith, c.from_le_bytes-length.type_inv)) c.split_at.ensures.back
    (omega (arith, c.if-rest-length.false)) c.split_at-2.ensures.front c.split_at-2.ensures.back
