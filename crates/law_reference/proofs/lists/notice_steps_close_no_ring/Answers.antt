use Rattle.law_reference.proofs.Reference.NoticeRing.{notice_steps_close_no_ring}
use Rattle.law_reference.proofs.lists.notice_steps_close_no_ring.Goals as goal

pub returns : goal.returns
returns c = notice_steps_close_no_ring
