use Rattle.law_reference.proofs.Reference.ListLaws.{notices_close_no_ring}
use Rattle.law_reference.proofs.lists.notices_close_no_ring.Goals as goal

pub returns : goal.returns
returns c = notices_close_no_ring
