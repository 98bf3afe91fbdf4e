-- Every step of a vat gives or stops.
use Rattle.def_machine.specs.Values.{Naming, Value}
use Rattle.def_machine.specs.State.{Vat, Act}
use Rattle.def_machine.specs.Eval as eval
use Rattle.std.proofs.Common.{ℕ, Option}
use Rattle.def_kernel.specs.declared.node.Node.{Node}
use Rattle.std.proofs.Common.{List}
use Rattle.def_machine.specs.State.{Binding, Message}
use Rattle.law_machine.specs.Machine.Steps.{Step, Opens, Takes, Receives, Notices, does, IsQuiet}
use Rattle.law_machine.proofs.Machine.Quiet.{Quiet, quiet}
use Rattle.law_machine.proofs.Machine.RefsQuiet.{quiet_resolve, quiet_settle}
use Rattle.law_machine.proofs.Machine.ArriveQuiet.{quiet_arrive, quiet_notice}

module _ {N W : Type 0} (K : Naming N W) (tree : List Node) where
  -- however a turn's evaluation ends
  quiet_closes : (act : ℕ) (o : Option N) (m : Act N (Value N)) → Quiet (eval.closes K tree act o m)
  unfolding eval.closes
  quiet_closes act o m = search (quiet, quiet_resolve, quiet_settle) depth 14

  quiet_opening : (depth : ℕ) (p : N) (given : List (Binding N)) → Quiet (eval.opening K tree depth p given)
  unfolding eval.opening
  quiet_opening depth p given = search (quiet, quiet_closes) depth 14

  quiet_taking : (depth : ℕ) (m : Message N) → Quiet (eval.taking K tree depth m)
  unfolding eval.taking
  quiet_taking depth m = search (quiet, quiet_closes) depth 14

pub step_ends : {N W : Type 0} (K : Naming N W) (step : Step N W) (s : Vat N) → IsQuiet (does K step s)
unfolding does
step_ends K (Opens tree depth root given) s = (quiet_opening K tree depth root given).after s
step_ends K (Takes tree depth m) s = (quiet_taking K tree depth m).after s
step_ends K (Receives from n) s = (quiet_arrive K from n).after s
step_ends K (Notices w) s = (quiet_notice K w).after s
