use Rattle.ev_heap.proofs.Room.{small_value, small_held}
use Rattle.ev_heap.proofs.packed.Values.push_small.Goals as goal

pub invariant_of-self-2 : goal.invariant_of-self-2
invariant_of-self-2 c = rw c.in_ok-push.ensures.items (small_held _ _ _ _ c.self.invariant c.requires)

pub returns-clause-ok : goal.returns-clause-ok
returns-clause-ok c = rw (c.in_ok-push.ensures.items, ← c.self.view_is) (small_value _ _ _ _ c.requires)
