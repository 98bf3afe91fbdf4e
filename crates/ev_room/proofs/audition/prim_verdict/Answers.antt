use Rattle.ev_room.proofs.Stamped.{judged}
use Rattle.ev_room.proofs.audition.prim_verdict.Goals as goal

pub returns-in-Some : goal.returns-in-Some
returns-in-Some c = judged c.args.number c.args.view.now c.judge.result c.in-Some.approves c.in-Some.is c.judge.ensures.auditor c.judge.ensures.verdict
