-- All of evaluation leads as the changes that touch no message lead, as sending, reacting and breaking lead, and as resolving leads where a name did neither settle nor wait: no other is resolved inside a turn.
use Rattle.std.proofs.Common.{◌≡◌, refl, codes, ℕ, suc, List, [], ◌∷◌, ◌++◌, length, Option}
use Rattle.def_machine.specs.Values.{Words, Value, Null, Broken, Naming, IsOwn}
use Rattle.def_machine.specs.State.{Binding, Standing, Unsettled, Vat, Done, Gives, Act, ◌>>=◌, ◌>>◌, and_then, look, give, throw, begun, WhereSome}
use Rattle.def_machine.specs.Refs.{standing_of, settle, resolve, send, react, send_only}
use Rattle.def_machine.specs.Scopes.{Evaluator}
use Rattle.def_machine.specs.Calls as calls
use Rattle.def_machine.specs.Eval as eval
use Rattle.def_kernel.specs.declared.node.Node.{Node}
use Rattle.law_machine.proofs.Machine.Walks.{InEvalUnder, InNodes}
use Rattle.law_machine.proofs.Machine.Blocks.{turn_eval_under}
use Rattle.law_machine.proofs.Machine.EvalWalk as walk
use Rattle.law_fate.proofs.Fates.Leads.{Ends, Leads, LeadsBy, IsLed, leads_throw, leads_closed, leads_ends, leads_singles, leads_in_eval, makes_promise}

-- of a new promise, and of what is done with references
pub record IsLedOpen {N W : Type 0} (K : Naming N W) (Q R : Vat N → Vat N → Type 0) : Type 0 where
  pub promised : (s : Vat N) → R s (record s { promises = suc s.promises; known = s.known ++ begun (K.made (IsOwn s.promises) (length s.known)) s.number ∷ [] })
  pub breaks : (p : N) (t : Words) → Leads Q R (settle K p (Broken t))
  -- a name that did neither settle nor wait is resolved
  pub resolves : (p : N) (y : Value N) (s : Vat N) → standing_of K s.known p ≡ Unsettled → Ends Q R s (resolve K p y s)
  pub sends : (act : ℕ) (x : Value N) (verb : Words) (args : List (Value N)) → Leads Q R (send K act x verb args)
  pub sends_only : (act : ℕ) (x : Value N) (verb : Words) (args : List (Value N)) → Leads Q R (send_only K act x verb args)
  pub reacts : (act : ℕ) (x o near : Value N) → Leads Q R (react K act x o near)

module _ {N W : Type 0} (K : Naming N W) (Q R : Vat N → Vat N → Type 0) (base : IsLed Q R) (law : IsLedOpen K Q R) (tree : List Node) where
  then_null : (s : Vat N) (d : Done N (Unit {0})) → Ends Q R s d → Ends {A = Value N} Q R s (and_then d (λ _. give Null))
  unfolding and_then give
  then_null s (Gives a t) h = h
  then_null s other h = h

  not_again : Act N (Value N)
  not_again = throw (codes "already resolved")

  thrown_again : Leads Q R not_again
  unfolding not_again
  thrown_again = leads_throw Q R base (codes "already resolved")

  resolved_at : (p : N) (x : Value N) (s : Vat N) (w : Standing N) → standing_of K s.known p ≡ w → Ends Q R s (calls.where_unresolved K tree w (resolve K p x) s)
  unfolding calls.where_unresolved ◌>>◌ not_again
  resolved_at p x s Unsettled e = then_null s (resolve K p x s) (law.resolves p x s e)
  resolved_at p x s other e = thrown_again.after s

  resolved : (p : N) (x : Value N) → Leads Q R (look (λ s. standing_of K s.known p) >>= λ w. calls.where_unresolved K tree w (resolve K p x))
  unfolding ◌>>=◌ look and_then
  resolved p x = record { after = λ s. resolved_at p x s (standing_of K s.known p) refl }

  opens_in_eval : InEvalUnder (LeadsBy Q R) K tree
  opens_in_eval = turn_eval_under (LeadsBy Q R) (leads_closed Q R base) (leads_ends Q R base) (leads_singles Q R base) K tree
      (record { promises = makes_promise Q R base K law.promised; breaks = law.breaks; sends = law.sends; sends_only = law.sends_only; reacts = law.reacts }) resolved

  nodes : InNodes (LeadsBy Q R) K tree
  nodes = walk.in_nodes (LeadsBy Q R) K tree (leads_closed Q R base) (leads_ends Q R base) (leads_in_eval Q R base) opens_in_eval

  pub good_evaluator : (d : ℕ) → walk.GoodEvaluator (LeadsBy Q R) (eval.evaluator K tree d)
  good_evaluator = walk.good_evaluator (LeadsBy Q R) K tree (leads_closed Q R base) (leads_ends Q R base) (leads_in_eval Q R base) nodes

  pub leads_turn_value : (x1 : Evaluator N) → walk.GoodEvaluator (LeadsBy Q R) x1 → (x2 : ℕ) → (x3 : Value N) → (x4 : Words) → (x5 : List (Value N)) → Leads Q R (calls.turn_value K tree x1 x2 x3 x4 x5)
  leads_turn_value = walk.walk_turn_value (LeadsBy Q R) K tree (leads_closed Q R base) (leads_ends Q R base) (leads_in_eval Q R base) nodes

  pub leads_closes : (x1 : ℕ) → (x2 : Option N) → WhereSome (λ p. (y : Value N) → Leads Q R (resolve K p y)) x2 → (x3 : Act N (Value N)) → Leads Q R x3 → Leads Q R (eval.closes K tree x1 x2 x3)
  leads_closes = walk.walk_closes (LeadsBy Q R) K tree (leads_closed Q R base) (leads_ends Q R base) (leads_in_eval Q R base) opens_in_eval

  pub leads_opening : (x1 : ℕ) → (x2 : N) → ((y : Value N) → Leads Q R (resolve K x2 y)) → (x3 : List (Binding N)) → Leads Q R (eval.opening K tree x1 x2 x3)
  leads_opening depth p ends given = walk.walk_opening (LeadsBy Q R) K tree (leads_closed Q R base) (leads_ends Q R base) (leads_in_eval Q R base) opens_in_eval depth p given ends
