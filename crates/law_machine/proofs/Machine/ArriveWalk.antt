-- What arrives and what is noticed have what each change and block of it has.
use Rattle.std.proofs.Common.{ℕ, Bool, true, false, List, Option, Some, None}
use Rattle.def_machine.specs.Values.{Words, Value, Items, Ref, Naming, Mailing}
use Rattle.def_machine.specs.State.{Standing, Viewed, Settled, Known, Passed, Passeds, Plain, AGift, Many, NoMore, More, Note, Delivery, Deliver, Open, Ask, SettledTo, Elsewhere, Shorten, GiftEntry, ListCame, send_out, Views, See, Act, ◌>>◌, tell, alter, new_list, new_gift, open_gift, mark, mail}
use Rattle.def_machine.specs.Refs.{Place, Away}
use Rattle.def_machine.specs.Arrive as arrive
use Rattle.def_machine.specs.Arrive.{Incoming, Old, New}
use Rattle.def_machine.specs.Receive as receive
use Rattle.def_machine.specs.Receive.{Sight}
use Rattle.law_machine.proofs.Machine.Walks.{walk_bind, walk_then, walk_give, Property, Holds, IsClosed, InRefs, InRefsUnder, InSettling, InArrive, InArriveUnder}
use Rattle.law_machine.proofs.Machine.RefsWalk.{refs_walk, walk_inform, walk_resolve, walk_send_on, walk_settle}

module _ {N W : Type 0} (P : Property N) (K : Naming N W) (base : IsClosed P) where
  pub lists_by_line : (vs : List (Value N)) → Holds P (new_list vs) → ((k : ℕ) → Holds P (tell (ListCame k vs))) → Holds P (arrive.make_list K vs)
  unfolding arrive.make_list
  lists_by_line vs h came = walk_bind P base h (λ k. walk_then P base (came k) (walk_give P base (Items k)))

module _ {N : Type 0} (P : Property N) (law : InArrive P) where
  pub arrive_asked : (to p i : ℕ) (n : N) → Holds P (send_out to (Ask p i n))
  arrive_asked to p i n = law.asks to p i n

  pub arrive_shortened : (to : ℕ) (n : N) (c i : ℕ) → Holds P (send_out to (Shorten n c i))
  arrive_shortened to n c i = law.shortens to n c i

  pub arrive_gift : (n : N) (p i : ℕ) → Holds P (new_gift n p i)
  arrive_gift n p i = law.gifts n p i

  pub arrive_opened : (p i : ℕ) → Holds P (open_gift p i)
  arrive_opened p i = law.opens p i

  pub arrive_mark : (w : ℕ) → Holds P (mark w)
  arrive_mark w = law.marks w

module _ {N W : Type 0} (P : Property N) (K : Naming N W) (under : InArriveUnder P K) where
  pub arrive_mail : (c : Mailing W) → Holds P (mail K c)
  arrive_mail c = under.mails c

  pub arrive_view : (p q : N) (m : Act N (Unit {0})) → Holds P m → Holds P (tell (Views p q) >> (alter K (See q) p >> m))
  arrive_view p q m h = under.views p q m h

pub ruleset arrive_walk = (refs_walk, arrive_asked, arrive_shortened, arrive_gift, arrive_opened, arrive_mark, arrive_mail, arrive_view)

module _ {N W : Type 0} (P : Property N) (K : Naming N W) (base : IsClosed P) (refs : InRefs P) (under : InRefsUnder P K) (settling : InSettling P K) (law : InArrive P) (comings : InArriveUnder P K) where
  pub walk_learn_name : (x1 : Incoming N W) → Holds P (arrive.learn_name K x1)
  unfolding arrive.learn_name
  walk_learn_name (Old n) = search (arrive_walk) depth 14
  walk_learn_name (New x h) = search (arrive_walk) depth 14

  pub walk_learn_value : (x1 : Value (Incoming N W)) → Holds P (arrive.learn_value K x1)
  unfolding arrive.learn_value
  walk_learn_value (Ref x) = search (arrive_walk, walk_learn_name) depth 14
  walk_learn_value other = search (arrive_walk) depth 14

  pub walk_ask_for : (x1 : ℕ) → (x2 : ℕ) → (x3 : ℕ) → (x4 : N) → Holds P (arrive.ask_for K x1 x2 x3 x4)
  unfolding arrive.ask_for
  walk_ask_for p h i n = search (arrive_walk, walk_settle) depth 14

  pub walk_learn_gift : (x1 : ℕ) → (x2 : ℕ) → (x3 : ℕ) → Holds P (arrive.learn_gift K x1 x2 x3)
  unfolding arrive.learn_gift
  walk_learn_gift p h i = search (arrive_walk, walk_ask_for) depth 14

  pub walk_make_list : (x1 : List (Value N)) → Holds P (arrive.make_list K x1)
  walk_make_list vs = comings.lists vs

  mutual
    unfolding arrive.learn arrive.learn_all

    pub walk_learn : (p : ℕ) (y : Passed (Incoming N W)) → Holds P (arrive.learn K p y)
    walk_learn p (Plain y) = search (arrive_walk, walk_learn_value) depth 14
    walk_learn p (AGift h i) = search (arrive_walk, walk_learn_gift)
    walk_learn p (Many ys) = let rest = walk_learn_all p ys in search (arrive_walk, walk_make_list)

    pub walk_learn_all : (p : ℕ) (ys : Passeds (Incoming N W)) → Holds P (arrive.learn_all K p ys)
    walk_learn_all p NoMore = search arrive_walk
    walk_learn_all p (More y ys) = let one = walk_learn p y in let rest = walk_learn_all p ys in search arrive_walk

  pub walk_learn_message : (x1 : Incoming N W) → Holds P (arrive.learn_message K x1)
  unfolding arrive.learn_message
  walk_learn_message (Old n) = search (arrive_walk) depth 14
  walk_learn_message (New x h) = search (arrive_walk) depth 14

  pub walk_gift_or_new : (x1 : ℕ) → (x2 : ℕ) → (x3 : ℕ) → (x4 : Option (GiftEntry N)) → Holds P (arrive.gift_or_new K x1 x2 x3 x4)
  unfolding arrive.gift_or_new
  walk_gift_or_new v p i (Some g) = search (arrive_walk) depth 14
  walk_gift_or_new v p i None = search (arrive_walk) depth 14

  pub walk_have_gift : (x1 : ℕ) → (x2 : ℕ) → Holds P (arrive.have_gift K x1 x2)
  unfolding arrive.have_gift
  walk_have_gift p i = search (arrive_walk, walk_gift_or_new) depth 14

  pub walk_break_at : (x1 : N) → (x2 : Words) → (x3 : Standing N) → Holds P (arrive.break_at K x1 x2 x3)
  unfolding arrive.break_at
  walk_break_at n p (Settled y) = search (arrive_walk) depth 14
  walk_break_at n p _ = search (arrive_walk, walk_settle) depth 14

  pub walk_break_unopened : (x1 : N) → (x2 : Bool) → Holds P (arrive.break_unopened K x1 x2)
  unfolding arrive.break_unopened
  walk_break_unopened n true = search (arrive_walk) depth 14
  walk_break_unopened n false = search (arrive_walk, walk_break_at) depth 14

  pub walk_tell_asker : (x1 : N) → (x2 : ℕ) → (x3 : Standing N) → Holds P (arrive.tell_asker K x1 x2 x3)
  unfolding arrive.tell_asker
  walk_tell_asker n w (Settled y) = search (arrive_walk, walk_inform) depth 14
  walk_tell_asker n w _ = search (arrive_walk) depth 14

  pub walk_send_on_asked : (x1 : ℕ) → (x2 : N) → (x3 : N) → (x4 : Words) → (x5 : List (Value N)) → Holds P (arrive.send_on_asked K x1 x2 x3 x4 x5)
  unfolding arrive.send_on_asked
  walk_send_on_asked from id n verb args = search (arrive_walk, walk_send_on, walk_settle) depth 14

  pub walk_arrive_deliver : (x1 : ℕ) → (x2 : Delivery (Incoming N W)) → (x3 : Incoming N W) → (x4 : Words) → (x5 : Passeds (Incoming N W)) → Holds P (arrive.arrive_deliver K x1 x2 x3 x4 x5)
  unfolding arrive.arrive_deliver
  walk_arrive_deliver from m x verb ys = search (arrive_walk, walk_learn_message, walk_learn_all, walk_learn_name, walk_send_on_asked, walk_send_on, walk_settle) depth 14

  pub walk_arrive_open : (x1 : ℕ) → (x2 : ℕ) → (x3 : Incoming N W) → Holds P (arrive.arrive_open K x1 x2 x3)
  unfolding arrive.arrive_open
  walk_arrive_open from i x = search (arrive_walk, walk_learn_name, walk_have_gift, walk_resolve) depth 14

  pub walk_break_orphan : (x1 : ℕ) → (x2 : ℕ) → (x3 : N) → Holds P (arrive.break_orphan K x1 x2 x3)
  unfolding arrive.break_orphan
  walk_break_orphan p i n = search (arrive_walk, walk_break_unopened) depth 14

  pub walk_arrive_ask : (x1 : ℕ) → (x2 : ℕ) → (x3 : ℕ) → Holds P (arrive.arrive_ask K x1 x2 x3)
  unfolding arrive.arrive_ask
  walk_arrive_ask from p i = search (arrive_walk, walk_have_gift, walk_break_orphan, walk_tell_asker) depth 14

  pub walk_arrive_settled : (x1 : ℕ) → (x2 : Incoming N W) → (x3 : Passed (Incoming N W)) → Holds P (arrive.arrive_settled K x1 x2 x3)
  unfolding arrive.arrive_settled
  walk_arrive_settled from x y = search (arrive_walk, walk_learn_name, walk_learn, walk_settle) depth 14

  pub walk_see : (x1 : N) → (x2 : N) → Holds P (arrive.see K x1 x2)
  unfolding arrive.see
  walk_see n g = search (arrive_walk) depth 14

  pub walk_gift_there : (x1 : ℕ) → (x2 : ℕ) → (x3 : ℕ) → (x4 : ℕ) → Holds P (arrive.gift_there K x1 x2 x3 x4)
  unfolding arrive.gift_there
  walk_gift_there v h c i = search (arrive_walk, walk_have_gift) depth 14

  pub walk_view_there : (x1 : N) → (x2 : ℕ) → Holds P (arrive.view_there K x1 x2)
  unfolding arrive.view_there
  walk_view_there n c = search (arrive_walk, walk_gift_there, walk_see) depth 14

  pub walk_arrive_elsewhere : (x1 : Incoming N W) → (x2 : ℕ) → Holds P (arrive.arrive_elsewhere K x1 x2)
  unfolding arrive.arrive_elsewhere
  walk_arrive_elsewhere x c = search (arrive_walk, walk_learn_name, walk_settle, walk_view_there) depth 14

  pub walk_shorten_to : (x1 : ℕ) → (x2 : Place N) → Holds P (arrive.shorten_to K x1 x2)
  unfolding arrive.shorten_to
  walk_shorten_to i (Away h n true) = search (arrive_walk) depth 14
  walk_shorten_to i _ = search (arrive_walk) depth 14

  pub walk_arrive_shorten : (x1 : Incoming N W) → (x2 : ℕ) → Holds P (arrive.arrive_shorten K x1 x2)
  unfolding arrive.arrive_shorten
  walk_arrive_shorten x i = search (arrive_walk, walk_learn_name, walk_shorten_to) depth 14

  pub walk_arrive : (x1 : ℕ) → (x2 : Note (Incoming N W)) → Holds P (arrive.arrive K x1 x2)
  unfolding arrive.arrive
  walk_arrive from (Deliver m x verb ys) = search (arrive_walk, walk_arrive_deliver) depth 14
  walk_arrive from (Open i x) = search (arrive_walk, walk_arrive_open) depth 14
  walk_arrive from (Ask p i x) = search (arrive_walk, walk_arrive_ask) depth 14
  walk_arrive from (SettledTo x y) = search (arrive_walk, walk_arrive_settled) depth 14
  walk_arrive from (Elsewhere x c) = search (arrive_walk, walk_arrive_elsewhere) depth 14
  walk_arrive from (Shorten x c i) = search (arrive_walk, walk_arrive_shorten) depth 14

  pub walk_break_back : (x1 : Note (Incoming N W)) → Holds P (receive.break_back K x1)
  unfolding receive.break_back
  walk_break_back (Elsewhere x c) = search (arrive_walk, walk_learn_name, walk_settle) depth 14
  walk_break_back other = search (arrive_walk) depth 14

  pub walk_receive_by : (x1 x2 : Bool) → (x3 : ℕ) → (x4 : Note (Incoming N W)) → Holds P (receive.receive_by K x1 x2 x3 x4)
  unfolding receive.receive_by
  walk_receive_by nothing back from n = search (arrive_walk, walk_break_back, walk_arrive) depth 14

  pub walk_receive : (x1 : Sight N) → (x2 : ℕ) → (x3 : Note (Incoming N W)) → Holds P (receive.receive K x1 x2 x3)
  unfolding receive.receive
  walk_receive sight from n = search (arrive_walk, walk_receive_by) depth 14

  pub walk_break_hosted : (x1 : ℕ) → (x2 : N) → (x3 : Words) → (x4 : Standing N) → Holds P (arrive.break_hosted K x1 x2 x3 x4)
  unfolding arrive.break_hosted
  walk_break_hosted w n p (Viewed q) = search (arrive_walk) depth 14
  walk_break_hosted w n p (Settled y) = search (arrive_walk) depth 14
  walk_break_hosted w n p other = search (arrive_walk, walk_settle) depth 14

  pub walk_notice_name : (x1 : ℕ) → (x2 : Known N) → Holds P (arrive.notice_name K x1 x2)
  unfolding arrive.notice_name
  walk_notice_name w k = search (arrive_walk, walk_break_hosted) depth 14

  pub walk_notice_gift : (x1 : ℕ) → (x2 : GiftEntry N) → Holds P (arrive.notice_gift K x1 x2)
  unfolding arrive.notice_gift
  walk_notice_gift w g = search (arrive_walk, walk_break_unopened) depth 14

  pub walk_notice_all : (x1 : ℕ) → Holds P (arrive.notice_all K x1)
  unfolding arrive.notice_all
  walk_notice_all w = search (arrive_walk, walk_notice_name, walk_notice_gift) depth 14

  pub walk_notice : (x1 : ℕ) → Holds P (arrive.notice K x1)
  unfolding arrive.notice
  walk_notice w = search (arrive_walk, walk_notice_all) depth 14

pub ruleset arrive_walks = (arrive_walk, walk_learn_name, walk_learn_value, walk_ask_for, walk_learn_gift, walk_make_list, walk_learn, walk_learn_all, walk_learn_message, walk_gift_or_new, walk_have_gift, walk_break_at, walk_break_unopened, walk_tell_asker, walk_send_on_asked, walk_arrive_deliver, walk_arrive_open, walk_break_orphan, walk_arrive_ask, walk_arrive_settled, walk_see, walk_gift_there, walk_view_there, walk_arrive_elsewhere, walk_shorten_to, walk_arrive_shorten, walk_arrive, walk_break_hosted, walk_notice_name, walk_notice_gift, walk_notice_all, walk_notice)
