-- All of evaluation leads as the changes that touch no message lead, and as sending, reacting, breaking and resolving lead.
use Rattle.std.proofs.Common.{ℕ, List, Option}
use Rattle.def_machine.specs.Values.{Words, Value, Naming}
use Rattle.def_machine.specs.State.{Binding, Vat, Act}
use Rattle.def_machine.specs.Scopes.{Evaluator}
use Rattle.def_machine.specs.Calls as calls
use Rattle.def_machine.specs.Eval as eval
use Rattle.def_kernel.specs.declared.node.Node.{Node}
use Rattle.law_machine.proofs.Machine.EvalWalk as walk
use Rattle.law_machine.proofs.Machine.Walks.{InNodes, where_some}
use Rattle.law_fate.proofs.Fates.Leads.{Leads, LeadsBy, IsLed, IsLedUnder, leads_closed, leads_ends, leads_in_eval, leads_in_eval_under}

module _ {N W : Type 0} (K : Naming N W) (Q R : Vat N → Vat N → Type 0) (base : IsLed Q R) (law : IsLedUnder K Q R) (tree : List Node) where
  nodes : InNodes (LeadsBy Q R) K tree
  nodes = walk.in_nodes (LeadsBy Q R) K tree (leads_closed Q R base) (leads_ends Q R base) (leads_in_eval Q R base) (leads_in_eval_under Q R base K tree law)

  pub good_evaluator : (d : ℕ) → walk.GoodEvaluator (LeadsBy Q R) (eval.evaluator K tree d)
  good_evaluator = walk.good_evaluator (LeadsBy Q R) K tree (leads_closed Q R base) (leads_ends Q R base) (leads_in_eval Q R base) nodes

  pub leads_turn_value : (x1 : Evaluator N) → walk.GoodEvaluator (LeadsBy Q R) x1 → (x2 : ℕ) → (x3 : Value N) → (x4 : Words) → (x5 : List (Value N)) → Leads Q R (calls.turn_value K tree x1 x2 x3 x4 x5)
  leads_turn_value = walk.walk_turn_value (LeadsBy Q R) K tree (leads_closed Q R base) (leads_ends Q R base) (leads_in_eval Q R base) nodes

  pub leads_closes : (x1 : ℕ) → (x2 : Option N) → (x3 : Act N (Value N)) → Leads Q R x3 → Leads Q R (eval.closes K tree x1 x2 x3)
  leads_closes act o m h = walk.walk_closes (LeadsBy Q R) K tree (leads_closed Q R base) (leads_ends Q R base) (leads_in_eval Q R base) (leads_in_eval_under Q R base K tree law) act o (where_some _ law.resolves o) m h

  pub leads_opening : (x1 : ℕ) → (x2 : N) → (x3 : List (Binding N)) → Leads Q R (eval.opening K tree x1 x2 x3)
  leads_opening depth p given = walk.walk_opening (LeadsBy Q R) K tree (leads_closed Q R base) (leads_ends Q R base) (leads_in_eval Q R base) (leads_in_eval_under Q R base K tree law) depth p given (law.resolves p)
