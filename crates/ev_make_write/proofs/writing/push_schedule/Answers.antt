use Rattle.ev_make_write.proofs.Joins.{joined}
use Rattle.ev_make_write.proofs.writing.push_schedule.Goals as goal

pub returns : goal.returns
returns c = joined _ _ _ _ _ c.in_ok-push_line.ensures c.in_ok-push_lines.ensures
