use Rattle.law_order.proofs.Notices.Marks.{marks_keep}
use Rattle.law_order.proofs.marks_keep.Goals as goal

pub returns : goal.returns
returns c = marks_keep
