use Rattle.ev_see_refusals.proofs.TableLemmas.{puts_next}
use Rattle.ev_see_refusals.proofs.marks.Marks.put_all_handed.Goals as goal

pub loop-value-preserved : goal.loop-value-preserved
loop-value-preserved c =
    puts_next c.args.at c.args.values.now c.loop-value.value-index c.value-item.result c.args.index c.args.self.now c.loop-value.self c.put_handed.new.self c.loop-value-test.true c.value-item.is
    c.loop-value.invariant c.in_ok-put_handed.ensures
