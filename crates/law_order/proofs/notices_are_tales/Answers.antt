use Rattle.law_order.proofs.NoticeTales.Small.{notice_tales}
use Rattle.law_order.proofs.notices_are_tales.Goals as goal

pub returns : goal.returns
returns c = notice_tales
