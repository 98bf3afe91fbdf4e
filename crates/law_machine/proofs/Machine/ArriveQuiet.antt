-- What arrives and what is noticed gives or stops.
use Rattle.std.proofs.Common.{ℕ}
use Rattle.def_machine.specs.Values.{Naming}
use Rattle.def_machine.specs.State.{Note}
use Rattle.def_machine.specs.Arrive as arrive
use Rattle.def_machine.specs.Arrive.{Incoming}
use Rattle.law_machine.proofs.Machine.ArriveWalk.{walk_arrive, walk_notice}
use Rattle.law_machine.proofs.Machine.Quiet.{Quiet, QuietBy, quiet_closed, quiet_in_refs, quiet_in_refs_under, quiet_settling, quiet_in_arrive, quiet_in_arrive_under}

module _ {N W : Type 0} (K : Naming N W) where
  pub quiet_arrive : (x1 : ℕ) → (x2 : Note (Incoming N W)) → Quiet (arrive.arrive K x1 x2)
  quiet_arrive = walk_arrive QuietBy K quiet_closed quiet_in_refs (quiet_in_refs_under K) (quiet_settling K) quiet_in_arrive (quiet_in_arrive_under K)

  pub quiet_notice : (x1 : ℕ) → Quiet (arrive.notice K x1)
  quiet_notice = walk_notice QuietBy K quiet_closed quiet_in_refs (quiet_in_refs_under K) (quiet_settling K) quiet_in_arrive (quiet_in_arrive_under K)
