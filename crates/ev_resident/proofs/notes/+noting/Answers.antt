use Rattle.ev_resident.proofs.Passing.{is_done}
use Rattle.ev_resident.proofs.notes.+noting.Goals as goal

pub shown_all-returns : goal.shown_all-returns
shown_all-returns t c = is_done c.args.noting.now c.loop-part.all c.args.passed.now c.loop-part.part-index c.loop-part-test.false c.loop-part.invariant
