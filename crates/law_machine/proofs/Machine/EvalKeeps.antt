-- All of evaluation keeps what each single change keeps.
use Rattle.std.proofs.Common.{ℕ, List, Option}
use Rattle.def_machine.specs.Values.{Words, Value, Naming}
use Rattle.def_machine.specs.State.{Scope, Binding, View, Message, Vat, Act, Took}
use Rattle.def_machine.specs.Form.{Item}
use Rattle.def_machine.specs.Free.{BoundNoun}
use Rattle.def_machine.specs.Scopes as scopes
use Rattle.def_machine.specs.Perform as perform
use Rattle.def_machine.specs.Calls as calls
use Rattle.def_machine.specs.Eval as eval
use Rattle.def_machine.specs.Scopes.{Answer, Evaluator, Caller, Case}
use Rattle.def_kernel.specs.declared.node.Node.{Node}
use Rattle.law_machine.proofs.Machine.Walks.{where_some}
use Rattle.law_machine.proofs.Machine.Walks.{InEval, InEvalUnder, InNodes}
use Rattle.law_machine.proofs.Machine.Blocks.{eval_of, eval_under_of, leaves}
use Rattle.law_machine.proofs.Machine.EvalWalk as walk
use Rattle.law_machine.proofs.Machine.EvalWalk.{eval_walks}
use Rattle.law_machine.proofs.Machine.Keeps.{Keeps, KeepsBy, IsKept, IsKeptUnder, keeps_closed, keeps_ends, keeps_singles, keeps_singles_under, keeps_kill, keeps, keeps_bind, keeps_then, keeps_activation, keeps_tell}
use Rattle.law_machine.proofs.Machine.RefsKeeps.{keeps_refs, keeps_resolve}

-- a call keeps R, whatever is called
abbrev pub GoodCaller : {N : Type 0} → (Vat N → Vat N → Type 0) → Caller N → Type 0
GoodCaller R again = walk.GoodCaller (KeepsBy R) again

-- so do the nodes below
abbrev pub GoodEvaluator : {N : Type 0} → (Vat N → Vat N → Type 0) → Evaluator N → Type 0
GoodEvaluator R rec = walk.GoodEvaluator (KeepsBy R) rec

module _ {N : Type 0} (R : Vat N → Vat N → Type 0) (base : IsKept R) where
  pub keeps_in_eval : InEval (KeepsBy R)
  keeps_in_eval = eval_of (KeepsBy R) (keeps_closed R base) (keeps_singles R base) (keeps_ends R base)

pub keeps_ended : {N : Type 0} (R : Vat N → Vat N → Type 0) (base : IsKept R) (act : ℕ) (m : Act N (Value N)) → Keeps R m → Keeps R (scopes.ended act m)
unfolding scopes.ended
keeps_ended R base act m h = search (keeps) depth 14

module _ {N W : Type 0} (K : Naming N W) (R : Vat N → Vat N → Type 0) (base : IsKept R) (law : IsKeptUnder K R) (tree : List Node) where
  pub keeps_in_eval_under : InEvalUnder (KeepsBy R) K tree
  keeps_in_eval_under = eval_under_of (KeepsBy R) (keeps_closed R base) (keeps_singles R base) K (keeps_singles_under R base K law) (keeps_ends R base) tree

  pub keeps_in_nodes : InNodes (KeepsBy R) K tree
  keeps_in_nodes = walk.in_nodes (KeepsBy R) K tree (keeps_closed R base) (keeps_ends R base) (keeps_in_eval R base) keeps_in_eval_under

  pub keeps_iterate : (x1 : Caller N) → GoodCaller R x1 → (x2 : ℕ) → (x3 : Value N) → (x4 : ℕ) → (x5 : List (Value N)) → Keeps R (perform.iterate K tree x1 x2 x3 x4 x5)
  keeps_iterate = walk.walk_iterate (KeepsBy R) K tree (keeps_closed R base) (keeps_ends R base) (keeps_in_eval R base) keeps_in_nodes

  pub keeps_turns : (x1 : ℕ) → (x2 : Act N (Value N)) → Keeps R x2 → Keeps R (perform.turns K tree x1 x2)
  keeps_turns = walk.walk_turns (KeepsBy R) K tree (keeps_closed R base) (keeps_ends R base) (keeps_in_eval R base) keeps_in_nodes

  pub keeps_ask_all : (x1 : Caller N) → GoodCaller R x1 → (x2 : ℕ) → (x3 : View N) → (x4 : List (Value N)) → Keeps R (calls.ask_all K tree x1 x2 x3 x4)
  keeps_ask_all = walk.walk_ask_all (KeepsBy R) K tree (keeps_closed R base) (keeps_ends R base) (keeps_in_eval R base) keeps_in_nodes

  pub keeps_build : (x1 : ℕ) → (x2 : List Item) → (x3 : List (List (Value N))) → Keeps R (calls.build K tree x1 x2 x3)
  keeps_build = walk.walk_build (KeepsBy R) K tree (keeps_closed R base) (keeps_ends R base) (keeps_in_eval R base) keeps_in_nodes

  pub keeps_bind_all : (x1 : Evaluator N) → GoodEvaluator R x1 → (x2 : List ℕ) → (x3 : List (Value N)) → (x4 : Value N) → (x5 : Scope N) → Keeps R (calls.bind_all K tree x1 x2 x3 x4 x5)
  keeps_bind_all = walk.walk_bind_all (KeepsBy R) K tree (keeps_closed R base) (keeps_ends R base) (keeps_in_eval R base) keeps_in_nodes

  pub keeps_match_all : (x1 : Evaluator N) → GoodEvaluator R x1 → (x2 : List Case) → (x3 : Value N) → (x4 : Scope N) → Keeps R (calls.match_all K tree x1 x2 x3 x4)
  keeps_match_all = walk.walk_match_all (KeepsBy R) K tree (keeps_closed R base) (keeps_ends R base) (keeps_in_eval R base) keeps_in_nodes

  pub keeps_call_at : (x1 : ℕ) → (x2 : Evaluator N) → GoodEvaluator R x2 → (x3 : ℕ) → (x4 : Value N) → (x5 : Words) → (x6 : List (Value N)) → Keeps R (calls.call_at K tree x1 x2 x3 x4 x5 x6)
  keeps_call_at = walk.walk_call_at (KeepsBy R) K tree (keeps_closed R base) (keeps_ends R base) (keeps_in_eval R base) keeps_in_nodes

  pub keeps_call : (x1 : Evaluator N) → GoodEvaluator R x1 → (x2 : ℕ) → (x3 : Value N) → (x4 : Words) → (x5 : List (Value N)) → Keeps R (calls.call K tree x1 x2 x3 x4 x5)
  keeps_call = walk.walk_call (KeepsBy R) K tree (keeps_closed R base) (keeps_ends R base) (keeps_in_eval R base) keeps_in_nodes

  pub keeps_turn_value : (x1 : Evaluator N) → GoodEvaluator R x1 → (x2 : ℕ) → (x3 : Value N) → (x4 : Words) → (x5 : List (Value N)) → Keeps R (calls.turn_value K tree x1 x2 x3 x4 x5)
  keeps_turn_value = walk.walk_turn_value (KeepsBy R) K tree (keeps_closed R base) (keeps_ends R base) (keeps_in_eval R base) keeps_in_nodes

  pub keeps_all_of : (x1 : Evaluator N) → GoodEvaluator R x1 → (x2 : List ℕ) → (x3 : Scope N) → Keeps R (eval.all_of K tree x1 x2 x3)
  keeps_all_of = walk.walk_all_of (KeepsBy R) K tree (keeps_closed R base) (keeps_ends R base) (keeps_in_eval R base) keeps_in_nodes

  pub keeps_last_of : (x1 : Evaluator N) → GoodEvaluator R x1 → (x2 : Answer N) → (x3 : List ℕ) → Keeps R (eval.last_of K tree x1 x2 x3)
  keeps_last_of = walk.walk_last_of (KeepsBy R) K tree (keeps_closed R base) (keeps_ends R base) (keeps_in_eval R base) keeps_in_nodes

  pub keeps_unmatched : (x1 : List BoundNoun) → (x2 : Scope N) → Keeps R (eval.unmatched K tree x1 x2)
  keeps_unmatched = walk.walk_unmatched (KeepsBy R) K tree (keeps_closed R base) (keeps_ends R base) (keeps_in_eval R base) keeps_in_nodes

  pub keeps_step_found : (x1 : Evaluator N) → GoodEvaluator R x1 → (x2 : ℕ) → (x3 : Option Node) → (x4 : Scope N) → Keeps R (eval.step_found K tree x1 x2 x3 x4)
  keeps_step_found = walk.walk_step_found (KeepsBy R) K tree (keeps_closed R base) (keeps_ends R base) (keeps_in_eval R base) keeps_in_nodes

  pub keeps_bind_found : (x1 : Evaluator N) → GoodEvaluator R x1 → (x2 : Option Node) → (x3 : Value N) → (x4 : Value N) → (x5 : Scope N) → Keeps R (eval.bind_found K tree x1 x2 x3 x4 x5)
  keeps_bind_found = walk.walk_bind_found (KeepsBy R) K tree (keeps_closed R base) (keeps_ends R base) (keeps_in_eval R base) keeps_in_nodes

  pub good_evaluator : (d : ℕ) → GoodEvaluator R (eval.evaluator K tree d)
  good_evaluator = walk.good_evaluator (KeepsBy R) K tree (keeps_closed R base) (keeps_ends R base) (keeps_in_eval R base) keeps_in_nodes

  pub keeps_closes : (act : ℕ) (o : Option N) (m : Act N (Value N)) → Keeps R m → Keeps R (eval.closes K tree act o m)
  keeps_closes act o m h = walk.walk_closes (KeepsBy R) K tree (keeps_closed R base) (keeps_ends R base) (keeps_in_eval R base) keeps_in_eval_under act o (where_some _ (keeps_resolve K R base law) o) m h

  pub keeps_opening : (x1 : ℕ) → (x2 : N) → (x3 : List (Binding N)) → Keeps R (eval.opening K tree x1 x2 x3)
  keeps_opening depth p given = walk.walk_opening (KeepsBy R) K tree (keeps_closed R base) (keeps_ends R base) (keeps_in_eval R base) keeps_in_eval_under depth p given (keeps_resolve K R base law p)

  pub keeps_taking : (x1 : ℕ) → (x2 : Message N) → Keeps R (eval.taking K tree x1 x2)
  keeps_taking depth m = walk.walk_taking (KeepsBy R) K tree (keeps_closed R base) (keeps_ends R base) (keeps_in_eval R base) keeps_in_eval_under depth m (λ f h. keeps_bind R base (keeps_activation R base) (λ a. keeps_then R base (keeps_tell R base (Took a m)) (h a))) (where_some _ (keeps_resolve K R base law) m.answer)

  pub keeps_leave : {A : Type 0} → (x1 : ℕ) → (x2 : Act N A) → Keeps R x2 → Keeps R (calls.leave K tree {A = A} x1 x2)
  keeps_leave = leaves (KeepsBy R) (keeps_closed R base) (keeps_ends R base) K tree (keeps_kill R base)

  pub keeps_leaving : {A : Type 0} → (x1 : ℕ) → (x2 : Act N A) → Keeps R x2 → Keeps R (calls.leaving K tree {A = A} x1 x2)
  unfolding calls.leaving
  keeps_leaving n m h2 = search (keeps, keeps_leave) depth 14

  pub keeps_new_ejector : (x1 : ℕ) → Keeps R (calls.new_ejector K tree x1)
  unfolding calls.new_ejector
  keeps_new_ejector act = search (keeps) depth 14

  ruleset parts = (keeps_refs, keeps_leave, eval_walks, keeps_ends, keeps_in_eval, keeps_in_nodes)

  pub keeps_matched : (x1 : Evaluator N) → GoodEvaluator R x1 → (x2 : ℕ) → (x3 : ℕ) → (x4 : ℕ) → (x5 : Act N (Value N)) → Keeps R x5 → (x6 : Act N (Scope N)) → Keeps R x6 → Keeps R (calls.matched K tree x1 x2 x3 x4 x5 x6)
  unfolding calls.matched
  keeps_matched rec good act j body next h5 m h6 = search (parts, good.expression) depth 16

  pub keeps_escaped : (x1 : Evaluator N) → GoodEvaluator R x1 → (x2 : ℕ) → (x3 : Scope N) → (x4 : Option (ℕ × ℕ)) → (x5 : Act N (Answer N)) → Keeps R x5 → Keeps R (eval.escaped K tree x1 x2 x3 x4 x5)
  unfolding eval.escaped
  keeps_escaped rec good j here c m h5 = search (parts) depth 16

  pub keeps_match_ended : (x1 : ℕ) → (x2 : ℕ) → (x3 : Scope N) → (x4 : Act N (Scope N)) → Keeps R x4 → Keeps R (eval.match_ended K tree x1 x2 x3 x4)
  unfolding eval.match_ended
  keeps_match_ended j p here m h4 = search (parts) depth 16

pub ruleset keeps_eval = (keeps_refs, keeps_ended, keeps_leave, keeps_leaving, keeps_new_ejector, keeps_matched, keeps_escaped, keeps_match_ended, eval_walks, keeps_ends, keeps_in_eval, keeps_in_nodes)
