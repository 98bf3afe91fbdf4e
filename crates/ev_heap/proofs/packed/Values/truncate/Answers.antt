use Rattle.ev_heap.proofs.Room.{held_first, values_first}
use Rattle.ev_heap.proofs.packed.Values.truncate.Goals as goal

pub invariant_of-self : goal.invariant_of-self
invariant_of-self c = rw c.truncate.ensures.items (held_first _ _ _ c.self.invariant)

pub returns : goal.returns
returns c = rw (c.truncate.ensures.items, ← c.self.view_is) (values_first _ _ _)
