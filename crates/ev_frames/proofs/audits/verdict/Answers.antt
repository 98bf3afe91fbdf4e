use Rattle.ev_steps.specs.Steps.{again_by, evaluator}
use Rattle.ev_frames.proofs.Auditing.{prim_goes}
use Rattle.ev_frames.proofs.audits.verdict.Goals as goal

pub returns-in-Prim-clause-rest : goal.returns-in-Prim-clause-rest
returns-in-Prim-clause-rest c =
    rw c.in-Prim.is (prim_goes c.args.program.now (again_by c.args.program.now (evaluator c.args.program.now c.args.depth) c.args.levels) c.args.frames.now c.args.here.now c.args.room.now
    c.args.view.now c.args.auditor c.in-Prim.number c.prim_verdict.result c.given.result c.prim_verdict.ensures c.given.ensures)
