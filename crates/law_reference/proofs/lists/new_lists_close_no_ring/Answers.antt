use Rattle.law_reference.proofs.Reference.ListLaws.{new_lists_close_no_ring}
use Rattle.law_reference.proofs.lists.new_lists_close_no_ring.Goals as goal

pub returns : goal.returns
returns c = new_lists_close_no_ring
