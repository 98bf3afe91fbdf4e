-- What arrives and what is noticed leaves all that a vat is to take on data or on objects of its own.
use Rattle.std.proofs.Common.{ℕ, Bool, true, false, List, Option, Some, None}
use Rattle.def_machine.specs.Values.{Words, Value, Ref, Naming}
use Rattle.def_machine.specs.State.{Standing, Viewed, Settled, Known, Passed, Passeds, Plain, AGift, Many, NoMore, More, Delivery, Note, Deliver, Open, Ask, SettledTo, Elsewhere, Shorten, GiftEntry}
use Rattle.def_machine.specs.Refs.{Place, Away}
use Rattle.def_machine.specs.Arrive as arrive
use Rattle.def_machine.specs.Arrive.{Incoming, Old, New}
use Rattle.law_never_astray.proofs.Near.{Keeps, keeps, keep_inform, keep_send_on, keep_settle, keep_resolve}

module _ {N W : Type 0} (K : Naming N W) where
  keep_learn_name : (x1 : Incoming N W) → Keeps K (arrive.learn_name K x1)
  unfolding arrive.learn_name
  keep_learn_name (Old n) = search (keeps) depth 14
  keep_learn_name (New x h) = search (keeps) depth 14

  keep_learn_value : (x1 : Value (Incoming N W)) → Keeps K (arrive.learn_value K x1)
  unfolding arrive.learn_value
  keep_learn_value (Ref x) = search (keeps, keep_learn_name) depth 14
  keep_learn_value other = search (keeps) depth 14

  keep_ask_for : (x1 : ℕ) → (x2 : ℕ) → (x3 : ℕ) → (x4 : N) → Keeps K (arrive.ask_for K x1 x2 x3 x4)
  unfolding arrive.ask_for
  keep_ask_for p h i n = search (keeps, keep_settle) depth 14

  keep_learn_gift : (x1 : ℕ) → (x2 : ℕ) → (x3 : ℕ) → Keeps K (arrive.learn_gift K x1 x2 x3)
  unfolding arrive.learn_gift
  keep_learn_gift p h i = search (keeps, keep_ask_for) depth 14

  keep_make_list : (x1 : List (Value N)) → Keeps K (arrive.make_list K x1)
  unfolding arrive.make_list
  keep_make_list vs = search (keeps) depth 14

  mutual
    unfolding arrive.learn arrive.learn_all

    keep_learn : (p : ℕ) (y : Passed (Incoming N W)) → Keeps K (arrive.learn K p y)
    keep_learn p (Plain y) = search (keeps, keep_learn_value) depth 14
    keep_learn p (AGift h i) = search (keeps, keep_learn_gift) depth 14
    keep_learn p (Many ys) = let rest = keep_learn_all p ys in search (keeps, keep_make_list) depth 14

    keep_learn_all : (p : ℕ) (ys : Passeds (Incoming N W)) → Keeps K (arrive.learn_all K p ys)
    keep_learn_all p NoMore = search (keeps) depth 14
    keep_learn_all p (More y ys) = let one = keep_learn p y in let rest = keep_learn_all p ys in search (keeps) depth 14

  keep_gift_or_new : (x1 : ℕ) → (x2 : ℕ) → (x3 : ℕ) → (x4 : Option (GiftEntry N)) → Keeps K (arrive.gift_or_new K x1 x2 x3 x4)
  unfolding arrive.gift_or_new
  keep_gift_or_new v p i (Some g) = search (keeps) depth 14
  keep_gift_or_new v p i None = search (keeps) depth 14

  keep_have_gift : (x1 : ℕ) → (x2 : ℕ) → Keeps K (arrive.have_gift K x1 x2)
  unfolding arrive.have_gift
  keep_have_gift p i = search (keeps, keep_gift_or_new) depth 14

  keep_break_at : (x1 : N) → (x2 : Words) → (x3 : Standing N) → Keeps K (arrive.break_at K x1 x2 x3)
  unfolding arrive.break_at
  keep_break_at n p (Settled y) = search (keeps) depth 14
  keep_break_at n p _ = search (keeps, keep_settle) depth 14

  keep_break_unopened : (x1 : N) → (x2 : Bool) → Keeps K (arrive.break_unopened K x1 x2)
  unfolding arrive.break_unopened
  keep_break_unopened n true = search (keeps) depth 14
  keep_break_unopened n false = search (keeps, keep_break_at) depth 14

  keep_tell_asker : (x1 : N) → (x2 : ℕ) → (x3 : Standing N) → Keeps K (arrive.tell_asker K x1 x2 x3)
  unfolding arrive.tell_asker
  keep_tell_asker n w (Settled y) = search (keeps, keep_inform) depth 14
  keep_tell_asker n w _ = search (keeps) depth 14

  keep_learn_message : (x : Incoming N W) → Keeps K (arrive.learn_message K x)
  unfolding arrive.learn_message
  keep_learn_message (Old n) = search (keeps) depth 14
  keep_learn_message (New x h) = search (keeps) depth 14

  keep_asked : (from : ℕ) (id n : N) (verb : Words) (args : List (Value N)) → Keeps K (arrive.send_on_asked K from id n verb args)
  unfolding arrive.send_on_asked
  keep_asked from id n verb args = search (keeps, keep_send_on, keep_settle) depth 14

  keep_arrive_deliver : (from : ℕ) (d : Delivery (Incoming N W)) (x : Incoming N W) (verb : Words) (ys : Passeds (Incoming N W)) → Keeps K (arrive.arrive_deliver K from d x verb ys)
  unfolding arrive.arrive_deliver
  keep_arrive_deliver from d x verb ys = search (keeps, keep_learn_message, keep_learn_all, keep_learn_name, keep_asked, keep_send_on, keep_settle) depth 14

  keep_arrive_open : (x1 : ℕ) → (x2 : ℕ) → (x3 : Incoming N W) → Keeps K (arrive.arrive_open K x1 x2 x3)
  unfolding arrive.arrive_open
  keep_arrive_open from i x = search (keeps, keep_learn_name, keep_have_gift, keep_resolve) depth 14

  keep_break_orphan : (x1 : ℕ) → (x2 : ℕ) → (x3 : N) → Keeps K (arrive.break_orphan K x1 x2 x3)
  unfolding arrive.break_orphan
  keep_break_orphan p i n = search (keeps, keep_break_unopened) depth 14

  keep_arrive_ask : (x1 : ℕ) → (x2 : ℕ) → (x3 : ℕ) → Keeps K (arrive.arrive_ask K x1 x2 x3)
  unfolding arrive.arrive_ask
  keep_arrive_ask from p i = search (keeps, keep_have_gift, keep_break_orphan, keep_tell_asker) depth 14

  keep_arrive_settled : (x1 : ℕ) → (x2 : Incoming N W) → (x3 : Passed (Incoming N W)) → Keeps K (arrive.arrive_settled K x1 x2 x3)
  unfolding arrive.arrive_settled
  keep_arrive_settled from x y = search (keeps, keep_learn_name, keep_learn, keep_settle) depth 14

  keep_gift_there : (x1 : ℕ) → (x2 : ℕ) → (x3 : ℕ) → (x4 : ℕ) → Keeps K (arrive.gift_there K x1 x2 x3 x4)
  unfolding arrive.gift_there
  keep_gift_there v h c i = search (keeps, keep_have_gift) depth 14

  keep_sees : (n g : N) → Keeps K (arrive.see K n g)
  unfolding arrive.see
  keep_sees n g = search (keeps) depth 14

  keep_view_there : (n : N) (c : ℕ) → Keeps K (arrive.view_there K n c)
  unfolding arrive.view_there
  keep_view_there n c = search (keeps, keep_gift_there, keep_sees) depth 14

  keep_arrive_elsewhere : (x : Incoming N W) (c : ℕ) → Keeps K (arrive.arrive_elsewhere K x c)
  unfolding arrive.arrive_elsewhere
  keep_arrive_elsewhere x c = search (keeps, keep_learn_name, keep_settle, keep_view_there) depth 14

  keep_shorten_to : (x1 : ℕ) → (x2 : Place N) → Keeps K (arrive.shorten_to K x1 x2)
  unfolding arrive.shorten_to
  keep_shorten_to i (Away h n true) = search (keeps) depth 14
  keep_shorten_to i _ = search (keeps) depth 14

  keep_arrive_shorten : (x1 : Incoming N W) → (x2 : ℕ) → Keeps K (arrive.arrive_shorten K x1 x2)
  unfolding arrive.arrive_shorten
  keep_arrive_shorten x i = search (keeps, keep_learn_name, keep_shorten_to) depth 14

  pub keep_arrive : (from : ℕ) (n : Note (Incoming N W)) → Keeps K (arrive.arrive K from n)
  unfolding arrive.arrive
  keep_arrive from (Deliver d x verb ys) = keep_arrive_deliver from d x verb ys
  keep_arrive from (Open i x) = keep_arrive_open from i x
  keep_arrive from (Ask p i x) = keep_arrive_ask from p i
  keep_arrive from (SettledTo x y) = keep_arrive_settled from x y
  keep_arrive from (Elsewhere x c) = keep_arrive_elsewhere x c
  keep_arrive from (Shorten x c i) = keep_arrive_shorten x i

  keep_break_hosted : (x1 : ℕ) → (x2 : N) → (x3 : Words) → (x4 : Standing N) → Keeps K (arrive.break_hosted K x1 x2 x3 x4)
  unfolding arrive.break_hosted
  keep_break_hosted w n p (Viewed q) = search (keeps) depth 14
  keep_break_hosted w n p (Settled y) = search (keeps) depth 14
  keep_break_hosted w n p other = search (keeps, keep_settle) depth 14

  keep_notice_name : (x1 : ℕ) → (x2 : Known N) → Keeps K (arrive.notice_name K x1 x2)
  unfolding arrive.notice_name
  keep_notice_name w k = search (keeps, keep_break_hosted) depth 14

  keep_notice_gift : (x1 : ℕ) → (x2 : GiftEntry N) → Keeps K (arrive.notice_gift K x1 x2)
  unfolding arrive.notice_gift
  keep_notice_gift w g = search (keeps, keep_break_unopened) depth 14

  keep_notice_all : (w : ℕ) → Keeps K (arrive.notice_all K w)
  unfolding arrive.notice_all
  keep_notice_all w = search (keeps, keep_notice_name, keep_notice_gift) depth 14

  pub keep_notice : (w : ℕ) → Keeps K (arrive.notice K w)
  unfolding arrive.notice
  keep_notice w = search (keeps, keep_notice_all) depth 14
