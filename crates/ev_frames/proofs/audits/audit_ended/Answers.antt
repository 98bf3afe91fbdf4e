use Rattle.ev_frames.proofs.Auditing.{audit_gave}
use Rattle.ev_frames.proofs.audits.audit_ended.Goals as goal

pub returns-in-Gave-clause-rest : goal.returns-in-Gave-clause-rest
returns-in-Gave-clause-rest c =
    rw c.in-Gave.is (audit_gave c.args.program.now c.args.frames.now c.args.here.now c.args.room.now c.kill.new.room c.args.audition c.kill.ensures.outcome
    c.in-Gave.value c.deref-near.result c.is_true.result c.deref-near.ensures c.is_true.ensures)
