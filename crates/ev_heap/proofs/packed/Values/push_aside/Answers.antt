use Rattle.std.proofs.Common.{arith}
use Rattle.ev_heap.proofs.Room.{all_same, aside_left, aside_value, aside_held, on_err}
use Rattle.ev_heap.proofs.packed.Values.push_aside.Goals as goal

pub invariant_of-self-in_err-push-2 : goal.invariant_of-self-in_err-push-2
invariant_of-self-in_err-push-2 c = rw (c.in_err-push-2.ensures.items, c.in_ok-push.ensures.items) (aside_left _ _ _ c.self.invariant)

pub returns-in_err-push-2-clause-err : goal.returns-in_err-push-2-clause-err
returns-in_err-push-2-clause-err c = on_err c.from_residual-in_err-push-2.result (rw (c.in_err-push-2.ensures.items, c.in_ok-push.ensures.items, ← c.self.view_is) (all_same _ _ _ c.self.invariant))

pub invariant_of-self-2 : goal.invariant_of-self-2
invariant_of-self-2 c = rw (c.in_ok-push-2.ensures.items, c.in_ok-push.ensures.items) (aside_held _ _ _ _ c.self.invariant (omega (arith, c.in-Ok.ensures, c.len.ensures)))

pub returns-clause-ok : goal.returns-clause-ok
returns-clause-ok c = rw (c.in_ok-push-2.ensures.items, c.in_ok-push.ensures.items, ← c.self.view_is) (aside_value _ _ _ _ c.self.invariant (omega (arith, c.in-Ok.ensures, c.len.ensures)))
