use Rattle.ev_see_verdicts.proofs.Overtaken.{lines_are, no_line, no_send}
use Rattle.ev_see_verdicts.proofs.order.with_lines.Goals as goal

pub returns-in_default : goal.returns-in_default
returns-in_default c w = no_line c.args.events.now c.args.first.now c.args.taken.now c.in_default.ensures w

pub returns-in_default-first_doing : goal.returns-in_default-first_doing
returns-in_default-first_doing c w = no_send c.args.events.now c.args.first.now c.args.taken.now c.in_default-first_doing.ensures w

pub returns : goal.returns
returns c w =
    lines_are c.args.events.now c.args.first.now c.args.taken.now c.in-Some.line c.in-Some-first_doing.sent c.in-Some.ensures c.in-Some-first_doing.ensures w
