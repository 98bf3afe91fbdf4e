use Rattle.ev_wire.proofs.Loops.{is_done}
use Rattle.ev_wire.proofs.describing.+describing.Goals as goal

pub describe_all-returns : goal.describe_all-returns
describe_all-returns t c = is_done c.args.inside.now c.args.connection.now c.loop-part.descs.items c.args.passed.now c.loop-part.part-index c.loop-part-test.false c.loop-part.invariant
