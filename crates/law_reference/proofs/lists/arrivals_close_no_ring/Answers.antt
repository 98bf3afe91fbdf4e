use Rattle.law_reference.proofs.Reference.ArriveRing.{arrivals_close_no_ring}
use Rattle.law_reference.proofs.lists.arrivals_close_no_ring.Goals as goal

pub returns : goal.returns
returns c = arrivals_close_no_ring
