use Rattle.law_reference.proofs.Reference.ListLaws.{changes_close_no_ring}
use Rattle.law_reference.proofs.lists.changes_close_no_ring.Goals as goal

pub returns : goal.returns
returns c = changes_close_no_ring
