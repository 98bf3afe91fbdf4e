use Rattle.ev_steps.specs.Eventual.{message_in}
use Rattle.ev_refs.specs.Follow.{followed}
use Rattle.ev_steps.specs.Steps.{again_by, evaluator}
use Rattle.ev_frames.proofs.Native.{calls_with}
use Rattle.ev_nodes.proofs.machine.call_with.Goals as goal

pub returns-in-Some-clause-rest : goal.returns-in-Some-clause-rest
returns-in-Some-clause-rest c =
    let m = c.in_ok-message_in.ensures in
    let n = c.deref-name.ensures in
    let l = c.deref-args.ensures in
    let s = c.in-Some.is in
    calls_with c.args.program.now (again_by c.args.program.now (evaluator c.args.program.now c.args.depth) c.args.levels) c.args.frames.now c.call_again.new.frames c.args.here.now c.args.room.now
    c.call_again.result c.call_again.new.here c.call_again.new.room c.args.receiver c.in-Some.request c.as_slice.result.now
    (message_in c.args.room.now.heap (followed c.args.room.now.refs c.args.verb) (followed c.args.room.now.refs c.args.list)) (cc) c.as_slice.ensures c.call_again.ensures.rest
