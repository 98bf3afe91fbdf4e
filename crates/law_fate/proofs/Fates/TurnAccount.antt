-- Every step of a vat doubles no message.
use Rattle.std.proofs.Common.{◌≡◌, ℕ, Bool, refl}
use Rattle.def_machine.specs.Values.{Name, Sent, Naming, IsSent, IsCarried, naming, mail_of}
use Rattle.def_machine.specs.State.{Binding, Message}
use Rattle.def_machine.specs.Eval as eval
use Rattle.def_kernel.specs.declared.node.Node.{Node}
use Rattle.std.specs.Prelude.{List}
use Rattle.law_machine.specs.Machine.Steps.{Step, Opens, Takes, Receives, Notices, does}
use Rattle.law_machine.proofs.Machine.Keeps.{Keeps}
use Rattle.law_fate.specs.Fates.Fate.{one}
use Rattle.law_fate.specs.Fates.FateLaws.{Accounted, brought, StepsDoubleNone}
use Rattle.law_fate.proofs.Fates.Spares.{keeps_activation}
use Rattle.law_fate.proofs.Fates.RefsCounts.{spared, free_bind, then_free, costs_took}
use Rattle.law_fate.proofs.Fates.RefsAccount.{spared_under}
use Rattle.law_fate.proofs.Fates.ArriveAccount.{costs_arrive, free_notice}
use Rattle.law_fate.proofs.Fates.Leads.{IsLed, IsLedUnder, all_by, led_by_all, led_under_by_all}
use Rattle.law_fate.proofs.Fates.TurnLeads.{good_evaluator, leads_turn_value, leads_closes, leads_opening}

module _ (cut : ℕ → Bool) (v : ℕ) (x : Name) (K : Naming Name Name) (sent : (n k : ℕ) → K.mailed (IsSent n) k ≡ Sent (record { sender = v; number = n })) (tree : List Node) where
  base : IsLed (Accounted cut v x 0) (Accounted cut v x 0)
  base = led_by_all (Accounted cut v x 0) (spared cut v x)

  law : IsLedUnder K (Accounted cut v x 0) (Accounted cut v x 0)
  law = led_under_by_all K (Accounted cut v x 0) (spared_under cut v x K sent)

  costs_taking : (depth : ℕ) (m : Message Name) → Keeps (Accounted cut v x (one m.id x)) (eval.taking K tree depth m)
  unfolding eval.taking
  costs_taking depth m = free_bind cut v x (one m.id x) (keeps_activation _ (spared cut v x)) (λ a. then_free cut v x (one m.id x) (costs_took cut v x a m)
      (all_by (Accounted cut v x 0) _ (leads_closes K (Accounted cut v x 0) (Accounted cut v x 0) base law tree a m.answer _
      (leads_turn_value K (Accounted cut v x 0) (Accounted cut v x 0) base law tree (eval.evaluator K tree depth) (good_evaluator K (Accounted cut v x 0) (Accounted cut v x 0) base law tree depth) a m.target m.verb m.args))))

  free_opening : (depth : ℕ) (root : Name) (given : List (Binding Name)) → Keeps (Accounted cut v x 0) (eval.opening K tree depth root given)
  free_opening depth root given = all_by (Accounted cut v x 0) _ (leads_opening K (Accounted cut v x 0) (Accounted cut v x 0) base law tree depth root given)

module _ (cut : ℕ → Bool) (v : ℕ) (x : Name) (K : Naming Name Name) (sent : (n k : ℕ) → K.mailed (IsSent n) k ≡ Sent (record { sender = v; number = n })) (carried : (n : Name) (k : ℕ) → K.mailed (IsCarried n) k ≡ n) where
  step_doubles_none : (step : Step Name Name) → Keeps (Accounted cut v x (brought x step)) (does K step)
  unfolding does brought
  step_doubles_none (Opens tree depth root given) = free_opening cut v x K sent tree depth root given
  step_doubles_none (Takes tree depth m) = costs_taking cut v x K sent tree depth m
  step_doubles_none (Receives from n) = costs_arrive cut v x K carried from n
  step_doubles_none (Notices w) = free_notice cut v x K w

pub steps_double_none : StepsDoubleNone
unfolding naming mail_of
steps_double_none word v step s cut x = (step_doubles_none cut v x (naming word v) (λ n k. refl) (λ n k. refl) step).after s
