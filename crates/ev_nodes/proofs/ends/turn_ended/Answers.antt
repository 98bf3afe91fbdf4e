use Rattle.ev_steps.specs.Steps.{again_by, evaluator}
use Rattle.ev_frames.proofs.Native.{turn_goes}
use Rattle.ev_nodes.proofs.ends.turn_ended.Goals as goal

pub returns-in-Gave-clause-rest : goal.returns-in-Gave-clause-rest
returns-in-Gave-clause-rest c =
    rw c.in-Gave.is (turn_goes c.args.program.now (again_by c.args.program.now (evaluator c.args.program.now c.args.depth) c.args.levels) c.args.frames.now c.turn_gave.new.frames c.args.here.now c.args.room.now
    c.turn_gave.result c.args.here.now c.turn_gave.new.room c.args.object c.args.left c.in-Gave.value c.deref-answer.result c.deref-answer.ensures c.turn_gave.ensures.rest)
