use Rattle.ev_steps.specs.Steps.{again_by, evaluator}
use Rattle.ev_frames.proofs.Auditing.{guard_goes, verdict_goes}
use Rattle.ev_frames.proofs.audits.audition_live.Goals as goal

pub returns-in-GetsGuard-clause-rest : goal.returns-in-GetsGuard-clause-rest
returns-in-GetsGuard-clause-rest c =
    rw c.in-GetsGuard.is (guard_goes c.args.program.now (again_by c.args.program.now (evaluator c.args.program.now c.args.depth) c.args.levels) c.args.frames.now c.args.frames.now c.args.here.now
    c.args.room.now c.args.view.now c.in-GetsGuard.name c.deref-near.result c.guard_asked.result c.given-in-GetsGuard.result c.deref-near.ensures c.guard_asked.ensures c.given-in-GetsGuard.ensures)

pub returns-in-Asks-clause-rest : goal.returns-in-Asks-clause-rest
returns-in-Asks-clause-rest c =
    rw c.in-Asks.is (verdict_goes c.args.program.now (again_by c.args.program.now (evaluator c.args.program.now c.args.depth) c.args.levels) c.args.frames.now c.verdict.new.frames c.args.here.now
    c.args.room.now c.args.view.now c.in-Asks.auditor c.deref-near-in-Asks.result c.verdict.result c.args.here.now c.verdict.new.room c.deref-near-in-Asks.ensures c.verdict.ensures.rest)
