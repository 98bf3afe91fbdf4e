use Rattle.ev_room.proofs.There.{on_all}
use Rattle.ev_room.proofs.data.are_there.Goals as goal

pub returns-clause-weighable : goal.returns-clause-weighable
returns-clause-weighable c = on_all c.args.heap.now c.args.values.now c.each_there.result c.each_there.ensures
