-- What arrives, and what is noticed, from a sound state ends in a sound state.
use Rattle.std.proofs.Common.{ℕ, Bool, true, false, List, Option, Some, None}
use Rattle.def_machine.specs.Values.{Words, Value, Items, Ref, Naming}
use Rattle.def_machine.specs.State.{Standing, Viewed, Settled, Known, Passed, Passeds, Plain, AGift, Many, NoMore, More, Note, Deliver, Open, Ask, SettledTo, Elsewhere, Shorten, GiftEntry, Delivery}
use Rattle.def_machine.specs.Refs.{Place, Away}
use Rattle.def_machine.specs.Arrive as arrive
use Rattle.def_machine.specs.Arrive.{Incoming, Old, New}
use Rattle.law_frozen.specs.Frozen.{PlainPasses, Passes, AllPass, NotePasses}
use Rattle.law_frozen.proofs.Fine.{Keeper, Loose, Fact, IsValue, AreValues, nothing, Gets, Fine, fine}
use Rattle.law_frozen.proofs.Looks.{looks}
use Rattle.law_frozen.proofs.FineRefs.{Tells, fine_settle, fine_resolve, fine_send_on, fine_inform}

module _ {N W : Type 0} (K : Naming N W) (M : Keeper K) (law : Loose K M) (telling : Tells K M) where
  pub fine_learn_name : {C : Fact N} → (x1 : Incoming N W) → Fine K M C (arrive.learn_name K x1) nothing
  unfolding arrive.learn_name
  fine_learn_name {C = C} (Old n) = search (fine, looks) depth 30
  fine_learn_name {C = C} (New x h) = search (fine, looks) depth 30

  pub fine_learn_value : {C : Fact N} → (x1 : Value (Incoming N W)) → PlainPasses x1 → Fine K M C (arrive.learn_value K x1) IsValue
  unfolding arrive.learn_value
  fine_learn_value {C = C} (Items k) q1 = absurd q1
  fine_learn_value {C = C} (Ref x) q1 = search (fine, looks, fine_learn_name) depth 30
  fine_learn_value {C = C} other q1 = search (fine, looks) depth 30

  pub fine_ask_for : {C : Fact N} → (x1 : ℕ) → (x2 : ℕ) → (x3 : ℕ) → (x4 : N) → Fine K M C (arrive.ask_for K x1 x2 x3 x4) nothing
  unfolding arrive.ask_for
  fine_ask_for {C = C} p h i n = search (fine, looks, fine_settle) depth 30

  pub fine_learn_gift : {C : Fact N} → (x1 : ℕ) → (x2 : ℕ) → (x3 : ℕ) → Fine K M C (arrive.learn_gift K x1 x2 x3) IsValue
  unfolding arrive.learn_gift
  fine_learn_gift {C = C} p h i = search (fine, looks, fine_ask_for) depth 30

  pub fine_make_list : {C : Fact N} → (x1 : List (Value N)) → Gets K C (AreValues x1) → Fine K M C (arrive.make_list K x1) IsValue
  unfolding arrive.make_list
  fine_make_list {C = C} vs g1 = search (fine, looks) depth 30

  mutual
    unfolding arrive.learn arrive.learn_all

    pub fine_learn : {C : Fact N} → (p : ℕ) → (y : Passed (Incoming N W)) → Passes y → Fine K M C (arrive.learn K p y) IsValue
    fine_learn {C = C} p (Plain y) q1 = search (fine, looks, fine_learn_value) depth 30
    fine_learn {C = C} p (AGift h i) q1 = search (fine, looks, fine_learn_gift) depth 30
    fine_learn {C = C} p (Many ys) q1 = let rest : (D : Fact N) → Fine K M D (arrive.learn_all K p ys) AreValues = λ D. fine_learn_all {C = D} p ys q1 in search (fine, looks, fine_make_list) depth 30

    pub fine_learn_all : {C : Fact N} → (p : ℕ) → (ys : Passeds (Incoming N W)) → AllPass ys → Fine K M C (arrive.learn_all K p ys) AreValues
    fine_learn_all {C = C} p NoMore q1 = search (fine, looks) depth 30
    fine_learn_all {C = C} p (More y ys) q1 = let q0 : Passes y = q1.0 in let q9 : AllPass ys = q1.1 in let one : (D : Fact N) → Fine K M D (arrive.learn K p y) IsValue = λ D. fine_learn {C = D} p y q0 in let rest : (D : Fact N) → Fine K M D (arrive.learn_all K p ys) AreValues = λ D. fine_learn_all {C = D} p ys q9 in search (fine, looks) depth 30

  pub fine_learn_message : {C : Fact N} → (x1 : Incoming N W) → Fine K M C (arrive.learn_message K x1) nothing
  unfolding arrive.learn_message
  fine_learn_message {C = C} (Old n) = search (fine, looks) depth 30
  fine_learn_message {C = C} (New x h) = search (fine, looks) depth 30

  pub fine_gift_or_new : {C : Fact N} → (x1 : ℕ) → (x2 : ℕ) → (x3 : ℕ) → (x4 : Option (GiftEntry N)) → Fine K M C (arrive.gift_or_new K x1 x2 x3 x4) nothing
  unfolding arrive.gift_or_new
  fine_gift_or_new {C = C} v p i (Some g) = search (fine, looks) depth 30
  fine_gift_or_new {C = C} v p i None = search (fine, looks) depth 30

  pub fine_have_gift : {C : Fact N} → (x1 : ℕ) → (x2 : ℕ) → Fine K M C (arrive.have_gift K x1 x2) nothing
  unfolding arrive.have_gift
  fine_have_gift {C = C} p i = search (fine, looks, fine_gift_or_new) depth 30

  pub fine_break_at : {C : Fact N} → (x1 : N) → (x2 : Words) → (x3 : Standing N) → Fine K M C (arrive.break_at K x1 x2 x3) nothing
  unfolding arrive.break_at
  fine_break_at {C = C} n p (Settled y) = search (fine, looks) depth 30
  fine_break_at {C = C} n p _ = search (fine, looks, fine_settle) depth 30

  pub fine_break_unopened : {C : Fact N} → (x1 : N) → (x2 : Bool) → Fine K M C (arrive.break_unopened K x1 x2) nothing
  unfolding arrive.break_unopened
  fine_break_unopened {C = C} n true = search (fine, looks) depth 30
  fine_break_unopened {C = C} n false = search (fine, looks, fine_break_at) depth 30

  pub fine_tell_asker : {C : Fact N} → (x1 : N) → (x2 : ℕ) → (x3 : Standing N) → Fine K M C (arrive.tell_asker K x1 x2 x3) nothing
  unfolding arrive.tell_asker
  fine_tell_asker {C = C} n w (Settled y) = search (fine, looks, fine_inform) depth 30
  fine_tell_asker {C = C} n w _ = search (fine, looks) depth 30

  pub fine_send_on_asked : {C : Fact N} → (x1 : ℕ) → (x2 : N) → (x3 : N) → (x4 : Words) → (x5 : List (Value N)) → Gets K C (AreValues x5) → Fine K M C (arrive.send_on_asked K x1 x2 x3 x4 x5) nothing
  unfolding arrive.send_on_asked
  fine_send_on_asked {C = C} from id n verb args g = search (fine, looks, fine_send_on, fine_settle) depth 30

  pub fine_arrive_deliver : {C : Fact N} → (x1 : ℕ) → (x2 : Delivery (Incoming N W)) → (x3 : Incoming N W) → (x4 : Words) → (x5 : Passeds (Incoming N W)) → AllPass x5 → Fine K M C (arrive.arrive_deliver K x1 x2 x3 x4 x5) nothing
  unfolding arrive.arrive_deliver
  fine_arrive_deliver {C = C} from m x verb ys q1 = search (fine, looks, fine_learn_message, fine_learn_all, fine_learn_name, fine_send_on_asked, fine_send_on, fine_settle) depth 30

  pub fine_arrive_open : {C : Fact N} → (x1 : ℕ) → (x2 : ℕ) → (x3 : Incoming N W) → Fine K M C (arrive.arrive_open K x1 x2 x3) nothing
  unfolding arrive.arrive_open
  fine_arrive_open {C = C} from i x = search (fine, looks, fine_learn_name, fine_have_gift, fine_resolve) depth 30

  pub fine_break_orphan : {C : Fact N} → (x1 : ℕ) → (x2 : ℕ) → (x3 : N) → Fine K M C (arrive.break_orphan K x1 x2 x3) nothing
  unfolding arrive.break_orphan
  fine_break_orphan {C = C} p i n = search (fine, looks, fine_break_unopened) depth 30

  pub fine_arrive_ask : {C : Fact N} → (x1 : ℕ) → (x2 : ℕ) → (x3 : ℕ) → Fine K M C (arrive.arrive_ask K x1 x2 x3) nothing
  unfolding arrive.arrive_ask
  fine_arrive_ask {C = C} from p i = search (fine, looks, fine_have_gift, fine_break_orphan, fine_tell_asker) depth 30

  pub fine_arrive_settled : {C : Fact N} → (x1 : ℕ) → (x2 : Incoming N W) → (x3 : Passed (Incoming N W)) → Passes x3 → Fine K M C (arrive.arrive_settled K x1 x2 x3) nothing
  unfolding arrive.arrive_settled
  fine_arrive_settled {C = C} from x y q1 = search (fine, looks, fine_learn_name, fine_learn, fine_settle) depth 30

  pub fine_see : {C : Fact N} → (x1 : N) → (x2 : N) → Fine K M C (arrive.see K x1 x2) nothing
  unfolding arrive.see
  fine_see {C = C} n g = search (fine, looks) depth 30

  pub fine_gift_there : {C : Fact N} → (x1 : ℕ) → (x2 : ℕ) → (x3 : ℕ) → (x4 : ℕ) → Fine K M C (arrive.gift_there K x1 x2 x3 x4) nothing
  unfolding arrive.gift_there
  fine_gift_there {C = C} v h c i = search (fine, looks, fine_have_gift) depth 30

  pub fine_view_there : {C : Fact N} → (x1 : N) → (x2 : ℕ) → Fine K M C (arrive.view_there K x1 x2) nothing
  unfolding arrive.view_there
  fine_view_there {C = C} n c = search (fine, looks, fine_gift_there, fine_see) depth 30

  pub fine_arrive_elsewhere : {C : Fact N} → (x1 : Incoming N W) → (x2 : ℕ) → Fine K M C (arrive.arrive_elsewhere K x1 x2) nothing
  unfolding arrive.arrive_elsewhere
  fine_arrive_elsewhere {C = C} x c = search (fine, looks, fine_learn_name, fine_settle, fine_view_there) depth 30

  pub fine_shorten_to : {C : Fact N} → (x1 : ℕ) → (x2 : Place N) → Fine K M C (arrive.shorten_to K x1 x2) nothing
  unfolding arrive.shorten_to
  fine_shorten_to {C = C} i (Away h n true) = search (fine, looks) depth 30
  fine_shorten_to {C = C} i _ = search (fine, looks) depth 30

  pub fine_arrive_shorten : {C : Fact N} → (x1 : Incoming N W) → (x2 : ℕ) → Fine K M C (arrive.arrive_shorten K x1 x2) nothing
  unfolding arrive.arrive_shorten
  fine_arrive_shorten {C = C} x i = search (fine, looks, fine_learn_name, fine_shorten_to) depth 30

  pub fine_arrive : {C : Fact N} → (x1 : ℕ) → (x2 : Note (Incoming N W)) → NotePasses x2 → Fine K M C (arrive.arrive K x1 x2) nothing
  unfolding arrive.arrive
  fine_arrive {C = C} from (Deliver m x verb ys) q1 = search (fine, looks, fine_arrive_deliver) depth 30
  fine_arrive {C = C} from (Open i x) q1 = search (fine, looks, fine_arrive_open) depth 30
  fine_arrive {C = C} from (Ask p i x) q1 = search (fine, looks, fine_arrive_ask) depth 30
  fine_arrive {C = C} from (SettledTo x y) q1 = search (fine, looks, fine_arrive_settled) depth 30
  fine_arrive {C = C} from (Elsewhere x c) q1 = search (fine, looks, fine_arrive_elsewhere) depth 30
  fine_arrive {C = C} from (Shorten x c i) q1 = search (fine, looks, fine_arrive_shorten) depth 30

  pub fine_break_hosted : {C : Fact N} → (x1 : ℕ) → (x2 : N) → (x3 : Words) → (x4 : Standing N) → Fine K M C (arrive.break_hosted K x1 x2 x3 x4) nothing
  unfolding arrive.break_hosted
  fine_break_hosted {C = C} w n p (Viewed q) = search (fine, looks) depth 30
  fine_break_hosted {C = C} w n p (Settled y) = search (fine, looks) depth 30
  fine_break_hosted {C = C} w n p other = search (fine, looks, fine_settle) depth 30

  pub fine_notice_name : {C : Fact N} → (x1 : ℕ) → (x2 : Known N) → Fine K M C (arrive.notice_name K x1 x2) nothing
  unfolding arrive.notice_name
  fine_notice_name {C = C} w k = search (fine, looks, fine_break_hosted) depth 30

  pub fine_notice_gift : {C : Fact N} → (x1 : ℕ) → (x2 : GiftEntry N) → Fine K M C (arrive.notice_gift K x1 x2) nothing
  unfolding arrive.notice_gift
  fine_notice_gift {C = C} w g = search (fine, looks, fine_break_unopened) depth 30

  pub fine_notice_all : {C : Fact N} → (x1 : ℕ) → Fine K M C (arrive.notice_all K x1) nothing
  unfolding arrive.notice_all
  fine_notice_all {C = C} w = search (fine, looks, fine_notice_name, fine_notice_gift) depth 30

  pub fine_notice : {C : Fact N} → (x1 : ℕ) → Fine K M C (arrive.notice K x1) nothing
  unfolding arrive.notice
  fine_notice {C = C} w = search (fine, looks, fine_notice_all) depth 30
