use Rattle.ev_frames.proofs.Auditing.{asks_next}
use Rattle.ev_frames.proofs.audits.asked.Goals as goal

pub returns-clause-rest : goal.returns-clause-rest
returns-clause-rest c =
    asks_next c.args.program.now c.args.depth c.args.frames.now c.enter.new.frames c.args.here.now c.args.room.now c.args.id c.args.pattern c.args.auditor c.deref-near.result
    c.args.place c.args.auditors c.args.stamps c.in_ok-view.view c.verdict.new.frames c.verdict.result c.args.here.now c.verdict.new.room c.requires.at c.deref-near.ensures
    c.in_ok-view.ensures c.in_ok-enter.ensures.pushed c.verdict.ensures.rest
