use Rattle.ev_vat.proofs.Closed.{waits_on, waits_end}
use Rattle.ev_vat.proofs.closing.push_all_waits.Goals as goal

pub loop-number-preserved : goal.loop-number-preserved
loop-number-preserved c =
    waits_on c.args.table.now c.args.known.now c.loop-number.number c.index-known-number.result c.loop-number.history c.push_waits.new.history _
    c.loop-number-test.true c.index-known-number.is (rw c.as_slice.ensures at c.in_ok-push_waits.ensures) c.loop-number.invariant

pub returns : goal.returns
returns c = waits_end c.args.table.now c.args.known.now c.loop-number.number c.loop-number.history _ c.loop-number-test.false c.loop-number.invariant
