use Rattle.ev_vat.proofs.Starts.{told_on}
use Rattle.ev_vat.proofs.vat.tell_root.Goals as goal

pub loop-vat-preserved : goal.loop-vat-preserved
loop-vat-preserved c = told_on c.loop-vat.refs c.args.refs.now c.tell.new.self c.args.known_by.now c.loop-vat.vat-index _ c.loop-vat-test.true c.vat-item.is c.loop-vat.invariant c.in_ok-tell.ensures.ok
