-- What arrives and what is noticed is idle.
use Rattle.std.proofs.Common.{ℕ}
use Rattle.def_machine.specs.Values.{Naming}
use Rattle.def_machine.specs.State.{Note}
use Rattle.def_machine.specs.Arrive as arrive
use Rattle.def_machine.specs.Arrive.{Incoming}
use Rattle.law_machine.proofs.Machine.ArriveWalk.{walk_arrive, walk_notice}
use Rattle.law_uses.proofs.Connectivity.Idle.{Idle, IdleBy, idle_closed, idle_in_refs, idle_in_refs_under, idle_settling, idle_in_arrive, idle_in_arrive_under}

module _ {N W : Type 0} (K : Naming N W) where
  pub idle_arrive : (x1 : ℕ) → (x2 : Note (Incoming N W)) → Idle (arrive.arrive K x1 x2)
  idle_arrive = walk_arrive IdleBy K idle_closed idle_in_refs (idle_in_refs_under K) (idle_settling K) idle_in_arrive (idle_in_arrive_under K)

  pub idle_notice : (x1 : ℕ) → Idle (arrive.notice K x1)
  idle_notice = walk_notice IdleBy K idle_closed idle_in_refs (idle_in_refs_under K) (idle_settling K) idle_in_arrive (idle_in_arrive_under K)
