-- The evaluator of every depth.
use Rattle.std.proofs.Common.{ℕ, zero, suc, List}
use Rattle.def_machine.specs.Values.{Naming}
use Rattle.def_machine.specs.State.{Deep, Astray, Vat}
use Rattle.def_machine.specs.Calls as calls
use Rattle.def_machine.specs.Eval as eval
use Rattle.def_machine.specs.Scopes.{Evaluator}
use Rattle.def_kernel.specs.declared.node.Node.{Node}
use Rattle.law_never_astray.proofs.Leads.{AtStops, Refers, MayStop, lead_next, lead_then, lead_look, lead_stop, lead_spend}
use Rattle.law_never_astray.proofs.CoveredNatives.{GoodCaller}
use Rattle.law_never_astray.proofs.CoveredEval.{GoodEvaluator, lead_call_one}
use Rattle.law_never_astray.proofs.CoveredNodes.{lead_expression, lead_pattern}

module _ {N W : Type 0} (K : Naming N W) (tree : List Node) (F : AtStops N) (may : MayStop F) (refs : Refers K tree F) where
  good_deeper : (rec : Evaluator N) → GoodEvaluator tree F rec → GoodCaller tree F (calls.call K tree rec) → GoodEvaluator tree F (eval.deeper K tree rec)
  unfolding eval.deeper
  good_deeper rec good again = record {
    expression = λ many s t n here o f d c. lead_then tree F (lead_spend tree F 1 may.fuel) (lead_expression K tree F may refs rec good again many s t n here o f d c);
    pattern = λ many s t n v j here o f d c. lead_then tree F (lead_spend tree F 1 may.fuel) (lead_pattern K tree F may refs rec good again many s t n v j here o f d c);
  }

  -- where calls do, whatever is called
  pub good_evaluator : ((rec : Evaluator N) → GoodEvaluator tree F rec → GoodCaller tree F (calls.call K tree rec)) → (d : ℕ) → GoodEvaluator tree F (eval.evaluator K tree d)
  unfolding eval.evaluator
  good_evaluator ends zero = record { expression = λ many s t n here o f d c. lead_stop tree F Deep may.deep; pattern = λ many s t n v j here o f d c. lead_stop tree F Deep may.deep }
  good_evaluator ends (suc d) = let good = good_evaluator ends d in good_deeper (eval.evaluator K tree d) good (ends (eval.evaluator K tree d) good)

  -- calls do, where nothing is said of those that are too deep
  module _ (any : (s : Vat N) → F Astray s) (rec : Evaluator N) (good : GoodEvaluator tree F rec) where
    good_call_at : (d : ℕ) → GoodCaller tree F (calls.call_at K tree d rec)
    unfolding calls.call_at
    good_call_at zero many act x verb args = lead_stop tree F Astray any
    good_call_at (suc d) many act x verb args = lead_call_one K tree F may refs rec good (λ a y v xs. calls.call_at K tree d rec a y v xs) (λ i a y v xs. good_call_at d i a y v xs) many act x verb args

    pub good_call : GoodCaller tree F (calls.call K tree rec)
    unfolding calls.call
    good_call many act x verb args = lead_next tree F (lead_look tree F _) (λ n. good_call_at n many act x verb args)
