use Rattle.ev_arrive.proofs.Kept.{on_all}
use Rattle.ev_arrive.proofs.learning.are_kept.Goals as goal

pub returns-clause-weighable : goal.returns-clause-weighable
returns-clause-weighable c = on_all c.args.heap.now c.args.values.now c.each_kept.result c.each_kept.ensures
