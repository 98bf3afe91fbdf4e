-- All of evaluation brings messages that stem from what was sent.
use Rattle.std.proofs.Common.{ℕ, List}
use Rattle.def_machine.specs.Values.{Broken, naming, Name}
use Rattle.def_machine.specs.State.{Binding, Message, Happened, Took}
use Rattle.def_machine.specs.Eval as eval
use Rattle.def_kernel.specs.declared.node.Node.{Node}
use Rattle.law_machine.specs.Machine.Steps.{Step}
use Rattle.law_machine.proofs.Machine.Walks.{where_some}
use Rattle.law_machine.proofs.Machine.Walks.{IsClosed, IsEnding, InEval, InEvalUnder}
use Rattle.law_machine.proofs.Machine.Blocks.{IsOfTurn, TurnSingles, turn_eval, turn_eval_under, resolves_always}
use Rattle.law_machine.proofs.Machine.EvalWalk.{walk_opening, walk_taking}
use Rattle.law_uses.proofs.Connectivity.Moments.{Past, IsTaken, TookFine, Brings, BringsBy, brings_bind, brings_then, brings_ending, brings_give, brings_throw, brings_eject, brings_stop, brings_look}
use Rattle.law_uses.proofs.Connectivity.Singles.{brings_activation, brings_tell, brings_spend, brings_thing, brings_kill, brings_slot, brings_write, brings_list, brings_promise}
use Rattle.law_uses.proofs.Connectivity.RefsBring.{brings_settle, brings_resolve, brings_send, brings_send_only, brings_react}

fine : (step : Step Name Name) (e : Happened Name) → IsOfTurn e → TookFine step e
fine step (Took a m) h = absurd h
fine step _ h = tt

module _ (word : ℕ → ℕ) (past : Past) (tree : List Node) where
  closed : IsClosed (BringsBy past)
  closed = record { gives = brings_give past; stops = brings_stop past; looks = brings_look past; binds = brings_bind past }

  ends : IsEnding (BringsBy past)
  ends = record { throws = brings_throw past; ejects = brings_eject past; ends = brings_ending past }

  singles : TurnSingles (BringsBy past)
  singles = record {
    tells = λ e h. brings_tell past e (fine past.step e h);
    spends = brings_spend past;
    activates = brings_activation past;
    makes = brings_thing past;
    kills = brings_kill past;
    slots = brings_slot past;
    writes = brings_write past;
    lists = brings_list past;
  }

  in_eval : InEval (BringsBy past)
  in_eval = turn_eval (BringsBy past) closed ends singles

  in_eval_under : InEvalUnder (BringsBy past) (naming word past.home) tree
  in_eval_under = turn_eval_under (BringsBy past) closed ends singles (naming word past.home) tree
      (record { promises = brings_promise word past.home past; breaks = λ p t. brings_settle word past p (Broken t); sends = brings_send word past; sends_only = brings_send_only word past; reacts = brings_react word past })
      (λ p y. resolves_always (BringsBy past) closed ends (naming word past.home) tree p y (brings_resolve word past p y))

  pub brings_opening : (depth : ℕ) (p : Name) (given : List (Binding Name)) → Brings past (eval.opening (naming word past.home) tree depth p given)
  brings_opening depth p given = walk_opening (BringsBy past) (naming word past.home) tree closed ends in_eval in_eval_under depth p given (brings_resolve word past p)

  pub brings_taking : (depth : ℕ) (m : Message Name) → IsTaken past.step m → Brings past (eval.taking (naming word past.home) tree depth m)
  brings_taking depth m f = walk_taking (BringsBy past) (naming word past.home) tree closed ends in_eval in_eval_under depth m
      (λ k h. brings_bind past (brings_activation past) (λ a. brings_then past (brings_tell past (Took a m) f) (h a))) (where_some _ (brings_resolve word past) m.answer)
