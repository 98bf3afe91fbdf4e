use Rattle.ev_frames.proofs.Auditing.{audit_begins}
use Rattle.ev_frames.proofs.audits.audit.Goals as goal

pub returns-clause-rest : goal.returns-clause-rest
returns-clause-rest c =
    audit_begins c.args.program.now c.args.depth c.args.levels c.args.frames.now c.guard.new.frames c.args.here.now c.args.room.now c.new_audition.new.room c.args.view.now c.args.auditor
    c.in_ok-audition.audition c.in_ok-audition.ensures.outcome c.in_ok-guard.ensures.pushed
