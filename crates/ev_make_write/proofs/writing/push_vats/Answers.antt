use Rattle.ev_make_write.specs.Writing.{vat_text}
use Rattle.ev_make_write.proofs.Joins.{moved}
use Rattle.ev_make_write.proofs.writing.push_vats.Goals as goal

pub loop-vat-preserved : goal.loop-vat-preserved
loop-vat-preserved c = moved vat_text c.loop-vat.vat-index c.args.vats.now c.vat-item.result c.loop-vat.out c.push_vat.new.out _ c.loop-vat-test.true c.vat-item.is c.loop-vat.invariant c.in_ok-push_vat.ensures
