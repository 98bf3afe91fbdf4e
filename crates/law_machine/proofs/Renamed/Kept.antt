-- What things of each kind answer keeps what each single change keeps: also a resolver, and whatever thing it is.
use Rattle.std.proofs.Common.{ℕ, List, Option, Some}
use Rattle.def_machine.specs.Values.{Words, Value, Text, Naming}
use Rattle.def_machine.specs.State.{Thing, Made, Ejector, Standing, Unsettled, Vat, Act}
use Rattle.def_machine.specs.Calls as calls
use Rattle.def_machine.specs.Scopes.{Evaluator, Caller, ResolverAsk, Resolves}
use Rattle.def_kernel.specs.declared.node.Node.{Node}
use Rattle.law_machine.proofs.Machine.Keeps.{Keeps, IsKept, IsKeptUnder}
use Rattle.law_machine.proofs.Machine.RefsKeeps.{keeps_settle, keeps_resolve}
use Rattle.law_machine.proofs.Machine.EvalKeeps.{GoodCaller, GoodEvaluator, keeps_eval}

module _ {N W : Type 0} (K : Naming N W) (R : Vat N → Vat N → Type 0) (base : IsKept R) (law : IsKeptUnder K R) (tree : List Node) where
  pub keeps_where_unresolved : (x1 : Standing N) → (x2 : Act N (Unit {0})) → Keeps R x2 → Keeps R (calls.where_unresolved K tree x1 x2)
  unfolding calls.where_unresolved
  keeps_where_unresolved Unsettled m h2 = search (keeps_eval) depth 14
  keeps_where_unresolved _ m h2 = search (keeps_eval) depth 14

  pub keeps_smash : (x1 : N) → (x2 : Value N) → Keeps R (calls.smash K tree x1 x2)
  unfolding calls.smash
  keeps_smash p (Text t) = search (keeps_eval, keeps_where_unresolved, keeps_settle) depth 14
  keeps_smash p _ = search (keeps_eval) depth 14

  pub keeps_resolver_answer : (x1 : N) → (x2 : ResolverAsk N) → Keeps R (calls.resolver_answer K tree x1 x2)
  unfolding calls.resolver_answer
  keeps_resolver_answer p (Resolves x) = search (keeps_eval, keeps_where_unresolved, keeps_resolve) depth 14
  keeps_resolver_answer p other = search (keeps_eval, keeps_smash) depth 14

  pub keeps_thing_answer : (x1 : Caller N) → GoodCaller R x1 → (x2 : ℕ) → (x3 : ℕ) → (x4 : Thing N) → (x5 : Words) → (x6 : List (Value N)) → Keeps R (calls.thing_answer K tree x1 x2 x3 x4 x5 x6)
  unfolding calls.thing_answer
  keeps_thing_answer again h1 act i (Ejector live) verb args = search (keeps_eval, keeps_resolver_answer) depth 14
  keeps_thing_answer again h1 act i other verb args = search (keeps_eval, keeps_resolver_answer) depth 14

  pub keeps_call_thing : (x1 : Evaluator N) → GoodEvaluator R x1 → (x2 : Caller N) → GoodCaller R x2 → (x3 : ℕ) → (x4 : Value N) → (x5 : ℕ) → (x6 : Option (Thing N)) → (x7 : Words) → (x8 : List (Value N)) → Keeps R (calls.call_thing K tree x1 x2 x3 x4 x5 x6 x7 x8)
  unfolding calls.call_thing
  keeps_call_thing rec good again h2 act x i (Some (Made node caught stamps)) verb args = search (keeps_eval) depth 16
  keeps_call_thing rec good again h2 act x i other verb args = search (keeps_eval, keeps_thing_answer) depth 16

  pub keeps_turn_thing : (x1 : Evaluator N) → GoodEvaluator R x1 → (x2 : ℕ) → (x3 : ℕ) → (x4 : Option (Thing N)) → (x5 : Words) → (x6 : List (Value N)) → Keeps R (calls.turn_thing K tree x1 x2 x3 x4 x5 x6)
  unfolding calls.turn_thing
  keeps_turn_thing rec good act i (Some (Made node caught stamps)) verb args = search (keeps_eval) depth 16
  keeps_turn_thing rec good act i other verb args = search (keeps_eval, keeps_thing_answer) depth 16

pub ruleset keeps_things = (keeps_eval, keeps_settle, keeps_where_unresolved, keeps_smash, keeps_resolver_answer, keeps_thing_answer, keeps_call_thing, keeps_turn_thing)
