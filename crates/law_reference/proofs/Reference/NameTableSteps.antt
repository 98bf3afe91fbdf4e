-- Every step of a vat makes known what it numbers, what the note brings and what was claimed.
use Rattle.std.proofs.Common.{ℕ, List}
use Rattle.def_machine.specs.Values.{Name, Naming, naming}
use Rattle.def_machine.specs.State.{Binding, Message, Vat, Took}
use Rattle.def_machine.specs.Eval as eval
use Rattle.def_kernel.specs.declared.node.Node.{Node}
use Rattle.law_machine.specs.Machine.Steps.{Step, Opens, Takes, Receives, Notices, does, After}
use Rattle.law_machine.proofs.Machine.Keeps.{Keeps}
use Rattle.law_fate.proofs.Fates.Spares.{keeps_activation}
use Rattle.law_fate.proofs.Fates.Leads.{IsLed, IsLedUnder, all_by, led_by_all, led_under_by_all}
use Rattle.law_fate.proofs.Fates.TurnLeads.{good_evaluator, leads_turn_value, leads_closes, leads_opening}
use Rattle.law_reference.specs.Reference.Knowing.{Knowing, brought, StepsKnowOnce}
use Rattle.law_reference.proofs.Reference.Costs.{spared, free_bind, free_then, free_tell}
use Rattle.law_reference.proofs.Reference.RefsCosts.{spared_under}
use Rattle.law_reference.proofs.Reference.ArriveCosts.{arrive_after, free_notice}

module _ (v : ℕ) (x : Name) (word : ℕ → ℕ) where
  abbrev K : Naming Name Name
  K = naming word v

  base : IsLed (Knowing v x 0) (Knowing v x 0)
  base = led_by_all (Knowing v x 0) (spared v x)

  law : IsLedUnder K (Knowing v x 0) (Knowing v x 0)
  law = led_under_by_all K (Knowing v x 0) (spared_under v x word)

  free_taking : (tree : List Node) (depth : ℕ) (m : Message Name) → Keeps (Knowing v x 0) (eval.taking K tree depth m)
  unfolding eval.taking
  free_taking tree depth m = free_bind v x 0 (keeps_activation _ (spared v x)) (λ a. free_then v x 0 (free_tell v x (Took a m))
      (all_by (Knowing v x 0) _ (leads_closes K (Knowing v x 0) (Knowing v x 0) base law tree a m.answer _
      (leads_turn_value K (Knowing v x 0) (Knowing v x 0) base law tree (eval.evaluator K tree depth) (good_evaluator K (Knowing v x 0) (Knowing v x 0) base law tree depth) a m.target m.verb m.args))))

  free_opening : (tree : List Node) (depth : ℕ) (root : Name) (given : List (Binding Name)) → Keeps (Knowing v x 0) (eval.opening K tree depth root given)
  free_opening tree depth root given = all_by (Knowing v x 0) _ (leads_opening K (Knowing v x 0) (Knowing v x 0) base law tree depth root given)

  step_after : (step : Step Name Name) (s : Vat Name) → After (Knowing v x (brought v x s.gifts step)) s (does K step s)
  unfolding does brought
  step_after (Opens tree depth root given) s = (free_opening tree depth root given).after s
  step_after (Takes tree depth m) s = (free_taking tree depth m).after s
  step_after (Receives from n) s = arrive_after v x word from n s
  step_after (Notices w) s = (free_notice v x word w).after s

pub steps_know_once : StepsKnowOnce
steps_know_once word v step s x = step_after v x word step s
