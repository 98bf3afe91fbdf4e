-- What is done with references, but for sending and reacting, is idle.
use Rattle.def_machine.specs.Values.{Value, Naming}
use Rattle.def_machine.specs.State.{Message}
use Rattle.def_machine.specs.Refs as refs
use Rattle.def_machine.specs.Refs.{Place}
use Rattle.law_machine.proofs.Machine.RefsWalk.{walk_settle, walk_resolve, walk_send_first, walk_react_at}
use Rattle.law_uses.proofs.Connectivity.Idle.{Idle, IdleBy, idle_closed, idle_in_refs, idle_in_refs_under, idle_settling}

module _ {N W : Type 0} (K : Naming N W) where
  pub idle_settle : (x1 : N) → (x2 : Value N) → Idle (refs.settle K x1 x2)
  idle_settle = walk_settle IdleBy K idle_closed idle_in_refs (idle_in_refs_under K) (idle_settling K)

  pub idle_resolve : (x1 : N) → (x2 : Value N) → Idle (refs.resolve K x1 x2)
  idle_resolve = walk_resolve IdleBy K idle_closed idle_in_refs (idle_in_refs_under K) (idle_settling K)

  pub idle_send_first : (x1 : Message N) → (x2 : Value N) → (x3 : Place N) → Idle (refs.send_first K x1 x2 x3)
  idle_send_first = walk_send_first IdleBy K idle_closed idle_in_refs (idle_in_refs_under K) (idle_settling K)

  pub idle_react_at : (x1 : Message N) → (x2 : Place N) → Idle (refs.react_at K x1 x2)
  idle_react_at = walk_react_at IdleBy K idle_closed idle_in_refs (idle_in_refs_under K) (idle_settling K)
