-- What arrives and what is noticed doubles no message.
use Rattle.std.proofs.Common.{if◌then◌else◌, ◌≡◌, ℕ, ◌+◌, Bool, true, false, List, Option, Some, None, arith, length}
use Rattle.def_machine.specs.Values.{Words, Value, Ref, Name, Naming, IsAnswer, IsCarried}
use Rattle.def_machine.specs.State.{Standing, Viewed, Settled, Known, Passed, Passeds, Plain, AGift, Many, NoMore, More, Note, Deliver, Open, Ask, SettledTo, Elsewhere, Shorten, GiftEntry, ◌>>=◌, ◌>>◌, and_then, mail, give}
use Rattle.def_machine.specs.Refs.{Place, Away, settle, send_on}
use Rattle.def_machine.specs.Arrive as arrive
use Rattle.def_machine.specs.Arrive.{Incoming, Old, New}
use Rattle.law_machine.proofs.Machine.Keeps.{Keeps}
use Rattle.law_fate.specs.Fates.Fate.{one, in_note}
use Rattle.law_fate.specs.Fates.FateLaws.{Accounted, coming}
use Rattle.law_fate.proofs.Fates.Spares.{keeps_look}
use Rattle.law_fate.proofs.Fates.RefsCounts.{costs_if, spared, free_bind, free_then, after_trans, after_more, free_mail, free_come, free_to_tell}
use Rattle.law_fate.proofs.Fates.RefsAccount.{free_refs, free_settle, free_resolve, free_inform, costs_send_on}

module _ (cut : ℕ → Bool) (v : ℕ) (x : Name) (K : Naming Name Name) where
  pub free_learn_name : (x1 : Incoming Name Name) → Keeps (Accounted cut v x 0) (arrive.learn_name K x1)
  unfolding arrive.learn_name
  free_learn_name (Old n) = search (free_refs, spared) depth 14
  free_learn_name (New z h) = search (free_refs, spared) depth 14

  pub free_learn_value : (x1 : Value (Incoming Name Name)) → Keeps (Accounted cut v x 0) (arrive.learn_value K x1)
  unfolding arrive.learn_value
  free_learn_value (Ref z) = search (free_refs, spared, free_learn_name) depth 14
  free_learn_value other = search (free_refs, spared) depth 14

  pub free_ask_for : (x1 : ℕ) → (x2 : ℕ) → (x3 : ℕ) → (x4 : Name) → Keeps (Accounted cut v x 0) (arrive.ask_for K x1 x2 x3 x4)
  unfolding arrive.ask_for
  free_ask_for p h i n = search (free_refs, spared, free_settle) depth 14

  pub free_learn_gift : (x1 : ℕ) → (x2 : ℕ) → (x3 : ℕ) → Keeps (Accounted cut v x 0) (arrive.learn_gift K x1 x2 x3)
  unfolding arrive.learn_gift
  free_learn_gift p h i = search (free_refs, spared, free_ask_for) depth 14

  pub free_make_list : (x1 : List (Value Name)) → Keeps (Accounted cut v x 0) (arrive.make_list K x1)
  unfolding arrive.make_list
  free_make_list vs = search (free_refs, spared) depth 14

  mutual
    unfolding arrive.learn arrive.learn_all

    pub free_learn : (p : ℕ) (y : Passed (Incoming Name Name)) → Keeps (Accounted cut v x 0) (arrive.learn K p y)
    free_learn p (Plain y) = search (free_refs, spared, free_learn_value) depth 14
    free_learn p (AGift h i) = search (free_refs, spared, free_learn_gift)
    free_learn p (Many ys) = let rest = free_learn_all p ys in search (free_refs, spared, free_make_list)

    pub free_learn_all : (p : ℕ) (ys : Passeds (Incoming Name Name)) → Keeps (Accounted cut v x 0) (arrive.learn_all K p ys)
    free_learn_all p NoMore = search (free_refs, spared)
    free_learn_all p (More y ys) = let one = free_learn p y in let rest = free_learn_all p ys in search (free_refs, spared)

  pub free_gift_or_new : (x1 : ℕ) → (x2 : ℕ) → (x3 : ℕ) → (x4 : Option (GiftEntry Name)) → Keeps (Accounted cut v x 0) (arrive.gift_or_new K x1 x2 x3 x4)
  unfolding arrive.gift_or_new
  free_gift_or_new u p i (Some g) = search (free_refs, spared) depth 14
  free_gift_or_new u p i None = search (free_refs, spared) depth 14

  pub free_have_gift : (x1 : ℕ) → (x2 : ℕ) → Keeps (Accounted cut v x 0) (arrive.have_gift K x1 x2)
  unfolding arrive.have_gift
  free_have_gift p i = search (free_refs, spared, free_gift_or_new) depth 14

  pub free_break_at : (x1 : Name) → (x2 : Words) → (x3 : Standing Name) → Keeps (Accounted cut v x 0) (arrive.break_at K x1 x2 x3)
  unfolding arrive.break_at
  free_break_at n p (Settled y) = search (free_refs, spared) depth 14
  free_break_at n p _ = search (free_refs, spared, free_settle) depth 14

  pub free_break_unopened : (x1 : Name) → (x2 : Bool) → Keeps (Accounted cut v x 0) (arrive.break_unopened K x1 x2)
  unfolding arrive.break_unopened
  free_break_unopened n true = search (free_refs, spared) depth 14
  free_break_unopened n false = search (free_refs, spared, free_break_at) depth 14

  pub free_tell_asker : (x1 : Name) → (x2 : ℕ) → (x3 : Standing Name) → Keeps (Accounted cut v x 0) (arrive.tell_asker K x1 x2 x3)
  unfolding arrive.tell_asker
  free_tell_asker n w (Settled y) = search (free_refs, spared, free_inform) depth 14
  free_tell_asker n w _ = search (free_refs, spared) depth 14

  pub free_arrive_open : (x1 : ℕ) → (x2 : ℕ) → (x3 : Incoming Name Name) → Keeps (Accounted cut v x 0) (arrive.arrive_open K x1 x2 x3)
  unfolding arrive.arrive_open
  free_arrive_open from i z = search (free_refs, spared, free_learn_name, free_have_gift, free_resolve) depth 14

  pub free_break_orphan : (x1 : ℕ) → (x2 : ℕ) → (x3 : Name) → Keeps (Accounted cut v x 0) (arrive.break_orphan K x1 x2 x3)
  unfolding arrive.break_orphan
  free_break_orphan p i n = search (free_refs, spared, free_break_unopened) depth 14

  pub free_arrive_ask : (x1 : ℕ) → (x2 : ℕ) → (x3 : ℕ) → Keeps (Accounted cut v x 0) (arrive.arrive_ask K x1 x2 x3)
  unfolding arrive.arrive_ask
  free_arrive_ask from p i = search (free_refs, spared, free_have_gift, free_break_orphan, free_tell_asker) depth 14

  pub free_arrive_settled : (x1 : ℕ) → (x2 : Incoming Name Name) → (x3 : Passed (Incoming Name Name)) → Keeps (Accounted cut v x 0) (arrive.arrive_settled K x1 x2 x3)
  unfolding arrive.arrive_settled
  free_arrive_settled from z y = search (free_refs, spared, free_learn_name, free_learn, free_settle) depth 14

  pub free_see : (x1 : Name) → (x2 : Name) → Keeps (Accounted cut v x 0) (arrive.see K x1 x2)
  unfolding arrive.see
  free_see n g = search (free_refs, spared) depth 14

  pub free_gift_there : (x1 : ℕ) → (x2 : ℕ) → (x3 : ℕ) → (x4 : ℕ) → Keeps (Accounted cut v x 0) (arrive.gift_there K x1 x2 x3 x4)
  unfolding arrive.gift_there
  free_gift_there u h c i = search (free_refs, spared, free_have_gift) depth 14

  pub free_view_there : (x1 : Name) → (x2 : ℕ) → Keeps (Accounted cut v x 0) (arrive.view_there K x1 x2)
  unfolding arrive.view_there
  free_view_there n c = search (free_refs, spared, free_gift_there, free_see) depth 14

  pub free_arrive_elsewhere : (x1 : Incoming Name Name) → (x2 : ℕ) → Keeps (Accounted cut v x 0) (arrive.arrive_elsewhere K x1 x2)
  unfolding arrive.arrive_elsewhere
  free_arrive_elsewhere z c = search (free_refs, spared, free_learn_name, free_settle, free_view_there) depth 14

  pub free_shorten_to : (x1 : ℕ) → (x2 : Place Name) → Keeps (Accounted cut v x 0) (arrive.shorten_to K x1 x2)
  unfolding arrive.shorten_to
  free_shorten_to i (Away h n true) = search (free_refs, spared) depth 14
  free_shorten_to i _ = search (free_refs, spared) depth 14

  pub free_arrive_shorten : (x1 : Incoming Name Name) → (x2 : ℕ) → Keeps (Accounted cut v x 0) (arrive.arrive_shorten K x1 x2)
  unfolding arrive.arrive_shorten
  free_arrive_shorten z i = search (free_refs, spared, free_learn_name, free_shorten_to) depth 14

  -- the message that has that name is sent on, once its arguments are learnt
  costs_asked : (from : ℕ) (id n : Name) (verb : Words) (args : List (Value Name)) → Keeps (Accounted cut v x (one id x)) (arrive.send_on_asked K from id n verb args)
  unfolding arrive.send_on_asked
  costs_asked from id n verb args = free_bind cut v x (one id x) (keeps_look _ (spared cut v x) _) (λ u.
      free_bind cut v x (one id x) (free_come cut v x K (IsAnswer u id) u) (λ a. free_then cut v x (one id x) (free_to_tell cut v x K from a) (costs_send_on cut v x K (settle K) (free_settle cut v x K) (record { id = id; target = Ref n; verb = verb; args = args; answer = Some a }))))

  costs_sent_on : (from : ℕ) (asks : Bool) (z : Incoming Name Name) (verb : Words) (ys : Passeds (Incoming Name Name)) (id : Name)
      → Keeps (Accounted cut v x (one id x)) (arrive.learn_all K from ys >>= (λ args. arrive.learn_name K z >>= (λ n. if asks then arrive.send_on_asked K from id n verb args else send_on K (settle K) (record { id = id; target = Ref n; verb = verb; args = args; answer = None }))))
  costs_sent_on from asks z verb ys id = free_bind cut v x (one id x) (free_learn_all from ys) (λ args. free_bind cut v x (one id x) (free_learn_name z) (λ n.
      costs_if cut v x (one id x) asks (costs_asked from id n verb args) (costs_send_on cut v x K (settle K) (free_settle cut v x K) (record { id = id; target = Ref n; verb = verb; args = args; answer = None }))))

  module _ (carried : (n : Name) (k : ℕ) → K.mailed (IsCarried n) k ≡ n) where
    costs_arrive_deliver : (from : ℕ) (m : Incoming Name Name) (asks : Bool) (answer : Option (Incoming Name Name)) (z : Incoming Name Name) (verb : Words) (ys : Passeds (Incoming Name Name)) → Keeps (Accounted cut v x (coming x m)) (arrive.arrive_deliver K from (record { message = m; asks = asks; answer = answer }) z verb ys)
    unfolding arrive.arrive_deliver arrive.learn_message ◌>>=◌ and_then give mail coming
    costs_arrive_deliver from (Old m) asks answer z verb ys = record { after = λ s. (costs_sent_on from asks z verb ys m).after s }
    costs_arrive_deliver from (New m h) asks answer z verb ys = record {
      after = λ s. let id = K.mailed (IsCarried m) (length s.mails) in
          after_more cut v x (0 + one id x) (one m x) s (rw (carried m (length s.mails)) (omega arith)) _ (after_trans cut v x 0 (one id x) s _ ((free_mail cut v x K (IsCarried m)).after s) _ ((costs_sent_on from asks z verb ys id).after _));
    }

    pub costs_arrive : (from : ℕ) (n : Note (Incoming Name Name)) → Keeps (Accounted cut v x (in_note (coming x) n)) (arrive.arrive K from n)
    unfolding arrive.arrive in_note
    costs_arrive from (Deliver d z verb ys) = costs_arrive_deliver from d.message d.asks d.answer z verb ys
    costs_arrive from (Open i z) = free_arrive_open from i z
    costs_arrive from (Ask p i z) = free_arrive_ask from p i
    costs_arrive from (SettledTo z y) = free_arrive_settled from z y
    costs_arrive from (Elsewhere z c) = free_arrive_elsewhere z c
    costs_arrive from (Shorten z c i) = free_arrive_shorten z i

  pub free_break_hosted : (x1 : ℕ) → (x2 : Name) → (x3 : Words) → (x4 : Standing Name) → Keeps (Accounted cut v x 0) (arrive.break_hosted K x1 x2 x3 x4)
  unfolding arrive.break_hosted
  free_break_hosted w n p (Viewed q) = search (free_refs, spared) depth 14
  free_break_hosted w n p (Settled y) = search (free_refs, spared) depth 14
  free_break_hosted w n p other = search (free_refs, spared, free_settle) depth 14

  pub free_notice_name : (x1 : ℕ) → (x2 : Known Name) → Keeps (Accounted cut v x 0) (arrive.notice_name K x1 x2)
  unfolding arrive.notice_name
  free_notice_name w k = search (free_refs, spared, free_break_hosted) depth 14

  pub free_notice_gift : (x1 : ℕ) → (x2 : GiftEntry Name) → Keeps (Accounted cut v x 0) (arrive.notice_gift K x1 x2)
  unfolding arrive.notice_gift
  free_notice_gift w g = search (free_refs, spared, free_break_unopened) depth 14

  pub free_notice_all : (x1 : ℕ) → Keeps (Accounted cut v x 0) (arrive.notice_all K x1)
  unfolding arrive.notice_all
  free_notice_all w = search (free_refs, spared, free_notice_name, free_notice_gift) depth 14

  pub free_notice : (x1 : ℕ) → Keeps (Accounted cut v x 0) (arrive.notice K x1)
  unfolding arrive.notice
  free_notice w = search (free_refs, spared, free_notice_all) depth 14
