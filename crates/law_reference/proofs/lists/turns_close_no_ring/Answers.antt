use Rattle.law_reference.proofs.Reference.TurnsRing.{turns_close_no_ring}
use Rattle.law_reference.proofs.lists.turns_close_no_ring.Goals as goal

pub returns : goal.returns
returns c = turns_close_no_ring
