-- Everything that a vat does with references gives or stops.
use Rattle.std.proofs.Common.{ℕ, List}
use Rattle.def_machine.specs.Values.{Words, Value, Naming}
use Rattle.def_machine.specs.Refs as refs
use Rattle.law_machine.proofs.Machine.RefsWalk.{walk_pass_all, walk_settle, walk_resolve, walk_send, walk_send_only, walk_react}
use Rattle.law_machine.proofs.Machine.Quiet.{Quiet, QuietBy, quiet_closed, quiet_in_refs, quiet_in_refs_under, quiet_settling, quiet_sending}

module _ {N W : Type 0} (K : Naming N W) where
  pub quiet_pass_all : (x1 : ℕ) → (x2 : List (Value N)) → Quiet (refs.pass_all K x1 x2)
  quiet_pass_all = walk_pass_all QuietBy K quiet_closed quiet_in_refs (quiet_in_refs_under K)

  pub quiet_settle : (x1 : N) → (x2 : Value N) → Quiet (refs.settle K x1 x2)
  quiet_settle = walk_settle QuietBy K quiet_closed quiet_in_refs (quiet_in_refs_under K) (quiet_settling K)

  pub quiet_resolve : (x1 : N) → (x2 : Value N) → Quiet (refs.resolve K x1 x2)
  quiet_resolve = walk_resolve QuietBy K quiet_closed quiet_in_refs (quiet_in_refs_under K) (quiet_settling K)

  pub quiet_send : (x1 : ℕ) → (x2 : Value N) → (x3 : Words) → (x4 : List (Value N)) → Quiet (refs.send K x1 x2 x3 x4)
  quiet_send = walk_send QuietBy K quiet_closed quiet_in_refs (quiet_in_refs_under K) (quiet_settling K) (quiet_sending K)

  pub quiet_send_only : (x1 : ℕ) → (x2 : Value N) → (x3 : Words) → (x4 : List (Value N)) → Quiet (refs.send_only K x1 x2 x3 x4)
  quiet_send_only = walk_send_only QuietBy K quiet_closed quiet_in_refs (quiet_in_refs_under K) (quiet_settling K) (quiet_sending K)

  pub quiet_react : (x1 : ℕ) → (x2 : Value N) → (x3 : Value N) → (x4 : Value N) → Quiet (refs.react K x1 x2 x3 x4)
  quiet_react = walk_react QuietBy K quiet_closed quiet_in_refs (quiet_in_refs_under K) (quiet_settling K) (quiet_sending K)
