-- What arrives, what a notice breaks, and turns lead as references lead.
use Rattle.std.proofs.Common.{ℕ, List}
use Rattle.def_machine.specs.Values.{Words, Value, Naming}
use Rattle.def_machine.specs.State.{Binding, Message, Passeds, Vat, Delivery}
use Rattle.def_machine.specs.Arrive as arrive
use Rattle.def_machine.specs.Arrive.{Incoming, Old, New}
use Rattle.def_machine.specs.Eval as eval
use Rattle.def_kernel.specs.declared.node.Node.{Node}
use Rattle.law_reference.proofs.Reference.Entries.{Mild}
use Rattle.law_reference.proofs.Reference.Gentle.{Gentle, IsGentle, gentle, gentle_to_tell}
use Rattle.law_reference.proofs.Reference.RefsGentle.{SettlesBy, gentle_settle, gentle_resolve, gentle_send, gentle_send_only, gentle_react, gentle_send_on, gentle_inform}
use Rattle.law_reference.proofs.Reference.StepsGo.{Refers, IsFree, goes_learn_name, goes_learn_all, goes_taking, goes_opening}

module _ {N W : Type 0} (K : Naming N W) (R : Vat N → Vat N → Type 0) (law : IsGentle K R) (block : SettlesBy K R) where
  pub gentle_refers : Refers K R
  gentle_refers = record {
    tells = gentle_to_tell K R law;
    informs = gentle_inform K R law;
    settles = gentle_settle K R law block;
    resolves = gentle_resolve K R law block;
    sends = gentle_send K R law block;
    sends_only = gentle_send_only K R law block;
    reacts = gentle_react K R law block;
  }

  gentle_learn_message : (x1 : Incoming N W) → Gentle R (arrive.learn_message K x1)
  unfolding arrive.learn_message
  gentle_learn_message (Old n) = search gentle depth 14
  gentle_learn_message (New x h) = search gentle depth 14

  gentle_send_on_asked : (x1 : ℕ) → (x2 : N) → (x3 : N) → (x4 : Words) → (x5 : List (Value N)) → Gentle R (arrive.send_on_asked K x1 x2 x3 x4 x5)
  unfolding arrive.send_on_asked
  gentle_send_on_asked from id n verb args = search (gentle, gentle_send_on, gentle_settle) depth 14

  pub gentle_arrive_deliver : (x1 : ℕ) → (x2 : Delivery (Incoming N W)) → (x3 : Incoming N W) → (x4 : Words) → (x5 : Passeds (Incoming N W)) → Gentle R (arrive.arrive_deliver K x1 x2 x3 x4 x5)
  unfolding arrive.arrive_deliver
  gentle_arrive_deliver from m x verb ys = search (gentle, gentle_refers, gentle_learn_message, goes_learn_all, goes_learn_name, gentle_send_on_asked, gentle_send_on, gentle_settle) depth 14

  pub gentle_taking : IsFree R → (tree : List Node) (depth : ℕ) (m : Message N) → Gentle R (eval.taking K tree depth m)
  gentle_taking free tree depth m = goes_taking K Mild R law gentle_refers free tree depth m

  pub gentle_opening : IsFree R → (tree : List Node) (depth : ℕ) (root : N) (given : List (Binding N)) → Gentle R (eval.opening K tree depth root given)
  gentle_opening free tree depth root given = goes_opening K Mild R law gentle_refers free tree depth root given
