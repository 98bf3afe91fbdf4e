-- All of evaluation keeps what its changes of the vat, and its acts of references, keep.
use Rattle.std.proofs.Common.{ℕ, List}
use Rattle.def_machine.specs.Values.{Broken, Naming}
use Rattle.def_machine.specs.State.{Binding, Message, Took, Vat}
use Rattle.def_machine.specs.Eval as eval
use Rattle.def_kernel.specs.declared.node.Node.{Node}
use Rattle.law_machine.proofs.Machine.Walks.{InEval, InEvalUnder, where_some}
use Rattle.law_machine.proofs.Machine.Blocks.{turn_eval, turn_eval_under, resolves_always}
use Rattle.law_machine.proofs.Machine.EvalWalk.{walk_opening, walk_taking}
use Rattle.law_order.proofs.Ordering.Moves.{Keeps, KeepsBy, IsKept, IsKeptUnder, keeps_closed, keeps_ends, keeps_singles, keeps_promise, keeps_bind, keeps_then, keeps_activation, keeps_tell}

module _ {N W : Type 0} (K : Naming N W) (R : Vat N → Vat N → Type 0) (base : IsKept R) (law : IsKeptUnder K R) (tree : List Node) where
  in_eval : InEval (KeepsBy R)
  in_eval = turn_eval (KeepsBy R) (keeps_closed R base) (keeps_ends R base) (keeps_singles R base)

  in_eval_under : InEvalUnder (KeepsBy R) K tree
  in_eval_under = turn_eval_under (KeepsBy R) (keeps_closed R base) (keeps_ends R base) (keeps_singles R base) K tree
      (record { promises = keeps_promise K R law; breaks = λ p t. law.settles p (Broken t); sends = law.sends; sends_only = law.sends_only; reacts = law.reacts })
      (λ p y. resolves_always (KeepsBy R) (keeps_closed R base) (keeps_ends R base) K tree p y (law.resolves p y))

  pub keeps_opening : (depth : ℕ) (p : N) (given : List (Binding N)) → Keeps R (eval.opening K tree depth p given)
  keeps_opening depth p given = walk_opening (KeepsBy R) K tree (keeps_closed R base) (keeps_ends R base) in_eval in_eval_under depth p given (law.resolves p)

  pub keeps_taking : (depth : ℕ) (m : Message N) → Keeps R (eval.taking K tree depth m)
  keeps_taking depth m = walk_taking (KeepsBy R) K tree (keeps_closed R base) (keeps_ends R base) in_eval in_eval_under depth m
      (λ f h. keeps_bind R base (keeps_activation R base) (λ a. keeps_then R base (keeps_tell R base (Took a m)) (h a))) (where_some _ law.resolves m.answer)
