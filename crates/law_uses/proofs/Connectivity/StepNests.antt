-- The calls of every step nest.
use Rattle.std.proofs.Common.{◌≡◌, [], Some, ap, ◌∙◌}
use Rattle.def_machine.specs.Values.{Naming}
use Rattle.def_machine.specs.State.{Vat, Done, Stops}
use Rattle.law_machine.specs.Machine.Steps.{Step, Opens, Takes, Receives, Notices, does}
use Rattle.law_uses.specs.Connectivity.Nesting.{Nested, StepsNest, nested_from, left_open}
use Rattle.law_machine.proofs.Machine.Walks.{where_some}
use Rattle.law_machine.proofs.Machine.RefsWalk.{walk_resolve}
use Rattle.law_machine.proofs.Machine.ArriveWalk.{walk_arrive, walk_notice}
use Rattle.law_machine.proofs.Machine.EvalWalk.{walk_opening, walk_taking}
use Rattle.law_uses.proofs.Connectivity.Nests.{Nests, NestsBy, Ends, nests_closed, nests_ends, nests_in_refs, nests_in_refs_under, nests_settling, nests_in_arrive, nests_in_arrive_under, nests_in_eval, nests_in_eval_under, nests_took}

module _ {N W : Type 0} (K : Naming N W) where
  step_nests : (step : Step N W) → Nests (does K step)
  unfolding does
  step_nests (Opens tree depth root given) = walk_opening NestsBy K tree nests_closed nests_ends nests_in_eval (nests_in_eval_under K tree) depth root given (walk_resolve NestsBy K nests_closed nests_in_refs (nests_in_refs_under K) (nests_settling K) root)
  step_nests (Takes tree depth m) = walk_taking NestsBy K tree nests_closed nests_ends nests_in_eval (nests_in_eval_under K tree) depth m (nests_took m) (where_some _ (walk_resolve NestsBy K nests_closed nests_in_refs (nests_in_refs_under K) (nests_settling K)) m.answer)
  step_nests (Receives from n) = walk_arrive NestsBy K nests_closed nests_in_refs (nests_in_refs_under K) (nests_settling K) nests_in_arrive (nests_in_arrive_under K) from n
  step_nests (Notices w) = walk_notice NestsBy K nests_closed nests_in_refs (nests_in_refs_under K) (nests_settling K) nests_in_arrive (nests_in_arrive_under K) w

  from_none : {A : Type 0} (s : Vat N) → left_open s ≡ Some [] → (d : Done N A) → Ends s d → Nested d
  from_none s e (Stops c t) h = h ([], e)
  from_none s e other h = h ∙ e

  pub steps_nest : StepsNest K
  unfolding nested_from
  steps_nest step s e = from_none s (ap (λ es. nested_from (Some []) es) e) (does K step s) ((step_nests step).after s)
