use Rattle.law_order.proofs.Notices.NoticeRuns.{notices_keep_order}
use Rattle.law_order.proofs.notices_keep_order_in_runs.Goals as goal

pub returns : goal.returns
returns c = notices_keep_order
