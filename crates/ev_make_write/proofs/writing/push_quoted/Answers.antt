use Rattle.ev_make_write.proofs.Joins.{joined}
use Rattle.ev_make_write.proofs.writing.push_quoted.Goals as goal

pub returns : goal.returns
returns c = joined _ _ _ _ _ c.in_ok-push_head.ensures c.in_ok-push_barred.ensures
