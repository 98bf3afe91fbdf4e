use Rattle.ev_settle.specs.Settling.{patience, run}
use Rattle.ev_settle.proofs.Leaving.{begins, goes_on, stops, is_done}
use Rattle.ev_settle.proofs.settling.finish.Goals as goal

pub loop-init : goal.loop-init
loop-init c = begins c.args.tasks c.args.inside.now

pub returns-in_default : goal.returns-in_default
returns-in_default c = is_done c.loop.counter c.loop.tasks c.loop.inside (run patience c.args.tasks c.args.inside.now) c.loop-test.true c.in_default.ensures.0 c.loop.invariant

pub returns-in-Err : goal.returns-in-Err
returns-in-Err c =
    stops c.loop.counter c.in-Some.task c.loop.tasks c.pop.new.self c.loop.inside c.perform.new.inside c.in-Err.stop (run patience c.args.tasks c.args.inside.now) c.loop-test.true c.in-Some.ensures c.in-Err.ensures c.loop.invariant

pub loop-preserved : goal.loop-preserved
loop-preserved c =
    goes_on c.loop.counter c.in-Some.task c.loop.tasks c.pop.new.self c.perform.new.tasks c.loop.inside c.perform.new.inside (run patience c.args.tasks c.args.inside.now) c.loop-test.true c.in-Some.ensures c.in-Ok.ensures c.loop.invariant
