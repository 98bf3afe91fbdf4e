use Rattle.ev_steps.proofs.Alikes.{uneven}
use Rattle.ev_steps.proofs.same.compare_all.Goals as goal

pub returns-then-xs-ys : goal.returns-then-xs-ys
returns-then-xs-ys c = uneven c.args.room.now c.args.xs.now c.args.ys.now c.args.next.now.keys c.args.next.now.keys c.if-xs-ys.true
