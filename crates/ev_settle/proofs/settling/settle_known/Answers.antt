use Rattle.ev_settle.proofs.Leaving.{settled_none, settled_some}
use Rattle.ev_settle.proofs.settling.settle_known.Goals as goal

pub returns-in-None : goal.returns-in-None
returns-in-None c = settled_none c.args.name c.args.value.now c.args.depth c.args.tasks.now c.args.inside.now c.settle_name.new.self c.requires c.in-None.ensures.settled c.in-None.ensures.waiters

pub returns-in_ok-push_waiters-in-Some : goal.returns-in_ok-push_waiters-in-Some
returns-in_ok-push_waiters-in-Some c =
    settled_some c.args.name c.args.value.now c.args.depth c.args.tasks.now c.args.inside.now c.settle_name.new.self c.in-Some.waiters c.push_waiters.new.tasks c.tell.result c.tell.new.self c.requires c.in-Some.ensures.settled c.in-Some.ensures.waiters
    c.in_ok-push_waiters-in-Some.ensures c.tell.ensures
