-- What arrives and what is noticed brings messages that stem from what was sent.
use Rattle.std.proofs.Common.{◌≡◌, ℕ, Bool, true, false, List, [], ◌∷◌, Option, Some, None, refl, sym, subst, ap, inl, inr}
use Rattle.def_machine.specs.Values.{Words, Value, Null, Flag, Number, Letter, Text, Prim, Broken, Items, Ref, Name, Gift, naming, name_of, mail_of, IsLearnt, IsGift, IsCarried}
use Rattle.def_machine.specs.State.{Message, Standing, Viewed, Settled, Known, Passed, Passeds, Plain, AGift, Many, NoMore, More, Note, Deliver, Open, Ask, SettledTo, Elsewhere, Shorten, GiftEntry, Views, See, Vat, come, mail, Delivery}
use Rattle.def_machine.specs.Refs as refs
use Rattle.def_machine.specs.Refs.{Place, Away}
use Rattle.def_machine.specs.Arrive as arrive
use Rattle.def_machine.specs.Arrive.{Incoming, Old, New}
use Rattle.law_machine.specs.Machine.Steps.{Step, Receives}
use Rattle.law_uses.specs.Connectivity.Stems.{itself}
use Rattle.law_uses.proofs.Connectivity.Moments.{Past, Members, LearntAs, LearntAll, learnt_map, learnt_all_map, Came, name_in, value_in, Brings, Does, Lasting, does_bind, does_then, does_also, does_any, does_from, does_to, does_keep, does_give, brings_does, brings_look, Fine, Any, does_if, fine_later}
use Rattle.law_uses.proofs.Connectivity.Singles.{brings, brings_mark, brings_come, brings_mail, does_list, does_tell, does_alter, alters_wait, alters_tell, tells_list_came}
use Rattle.law_uses.proofs.Connectivity.RefsBring.{brings_settle, brings_resolve, brings_inform, does_send_on}

module _ (word : ℕ → ℕ) (past : Past) where
  pub brings_learn_name : (x1 : Incoming Name Name) → Brings past (arrive.learn_name (naming word past.home) x1)
  unfolding arrive.learn_name
  brings_learn_name (Old n) = search (brings) depth 14
  brings_learn_name (New x h) = search (brings) depth 14

  pub brings_learn_value : (x1 : Value (Incoming Name Name)) → Brings past (arrive.learn_value (naming word past.home) x1)
  unfolding arrive.learn_value
  brings_learn_value (Ref x) = search (brings, brings_learn_name) depth 14
  brings_learn_value other = search (brings) depth 14

  pub brings_ask_for : (x1 : ℕ) → (x2 : ℕ) → (x3 : ℕ) → (x4 : Name) → Brings past (arrive.ask_for (naming word past.home) x1 x2 x3 x4)
  unfolding arrive.ask_for
  brings_ask_for p h i n = search (brings, brings_settle) depth 14

  pub brings_learn_gift : (x1 : ℕ) → (x2 : ℕ) → (x3 : ℕ) → Brings past (arrive.learn_gift (naming word past.home) x1 x2 x3)
  unfolding arrive.learn_gift
  brings_learn_gift p h i = search (brings, brings_ask_for) depth 14

  pub brings_make_list : (x1 : List (Value Name)) → Brings past (arrive.make_list (naming word past.home) x1)
  unfolding arrive.make_list
  brings_make_list vs = search (brings) depth 14

  mutual
    unfolding arrive.learn arrive.learn_all

    pub brings_learn : (p : ℕ) (y : Passed (Incoming Name Name)) → Brings past (arrive.learn (naming word past.home) p y)
    brings_learn p (Plain y) = search (brings, brings_learn_value) depth 14
    brings_learn p (AGift h i) = search (brings, brings_learn_gift)
    brings_learn p (Many ys) = let rest = brings_learn_all p ys in search (brings, brings_make_list)

    pub brings_learn_all : (p : ℕ) (ys : Passeds (Incoming Name Name)) → Brings past (arrive.learn_all (naming word past.home) p ys)
    brings_learn_all p NoMore = search brings
    brings_learn_all p (More y ys) = let one = brings_learn p y in let rest = brings_learn_all p ys in search brings

  pub brings_learn_message : (x1 : Incoming Name Name) → Brings past (arrive.learn_message (naming word past.home) x1)
  unfolding arrive.learn_message
  brings_learn_message (Old n) = search (brings) depth 14
  brings_learn_message (New x h) = search (brings) depth 14

  pub brings_gift_or_new : (x1 : ℕ) → (x2 : ℕ) → (x3 : ℕ) → (x4 : Option (GiftEntry Name)) → Brings past (arrive.gift_or_new (naming word past.home) x1 x2 x3 x4)
  unfolding arrive.gift_or_new
  brings_gift_or_new v p i (Some g) = search (brings) depth 14
  brings_gift_or_new v p i None = search (brings) depth 14

  pub brings_have_gift : (x1 : ℕ) → (x2 : ℕ) → Brings past (arrive.have_gift (naming word past.home) x1 x2)
  unfolding arrive.have_gift
  brings_have_gift p i = search (brings, brings_gift_or_new) depth 14

  pub brings_break_at : (x1 : Name) → (x2 : Words) → (x3 : Standing Name) → Brings past (arrive.break_at (naming word past.home) x1 x2 x3)
  unfolding arrive.break_at
  brings_break_at n p (Settled y) = search (brings) depth 14
  brings_break_at n p _ = search (brings, brings_settle) depth 14

  pub brings_break_unopened : (x1 : Name) → (x2 : Bool) → Brings past (arrive.break_unopened (naming word past.home) x1 x2)
  unfolding arrive.break_unopened
  brings_break_unopened n true = search (brings) depth 14
  brings_break_unopened n false = search (brings, brings_break_at) depth 14

  pub brings_tell_asker : (x1 : Name) → (x2 : ℕ) → (x3 : Standing Name) → Brings past (arrive.tell_asker (naming word past.home) x1 x2 x3)
  unfolding arrive.tell_asker
  brings_tell_asker n w (Settled y) = search (brings, brings_inform) depth 14
  brings_tell_asker n w _ = search (brings) depth 14

  -- ---- what is learnt

  does_learn_name : (x : Incoming Name Name) → Does past (λ s. Unit {0}) (λ n t. name_in x ≡ n) (arrive.learn_name (naming word past.home) x)
  unfolding arrive.learn_name come naming name_of
  does_learn_name (Old n) = does_from past (λ s i. refl) (does_give past {Q = λ m t. n ≡ m} n)
  does_learn_name (New x h) = record { after = λ s i g. let b = (brings_come word past.home past (IsLearnt x) h).after s g in (b.0, b.1, refl) }

  does_learn_value : (y : Value (Incoming Name Name)) → Does past (λ s. Unit {0}) (λ v t. v ≡ value_in y) (arrive.learn_value (naming word past.home) y)
  unfolding arrive.learn_value
  does_learn_value Null = does_from past (λ s i. refl) (does_give past {Q = λ v t. v ≡ Null} Null)
  does_learn_value (Flag b) = does_from past (λ s i. refl) (does_give past {Q = λ v t. v ≡ Flag b} (Flag b))
  does_learn_value (Number z) = does_from past (λ s i. refl) (does_give past {Q = λ v t. v ≡ Number z} (Number z))
  does_learn_value (Letter c) = does_from past (λ s i. refl) (does_give past {Q = λ v t. v ≡ Letter c} (Letter c))
  does_learn_value (Text t) = does_from past (λ s i. refl) (does_give past {Q = λ v u. v ≡ Text t} (Text t))
  does_learn_value (Prim n) = does_from past (λ s i. refl) (does_give past {Q = λ v t. v ≡ Prim n} (Prim n))
  does_learn_value (Broken p) = does_from past (λ s i. refl) (does_give past {Q = λ v t. v ≡ Broken p} (Broken p))
  does_learn_value (Items k) = does_from past (λ s i. refl) (does_give past {Q = λ v t. v ≡ Items k} (Items k))
  does_learn_value (Ref x) = does_bind past (does_learn_name x) (λ n. does_from past (λ s e. ap Ref (sym e)) (does_give past {Q = λ v t. v ≡ Ref (name_in x)} (Ref n)))

  does_gift_come : (h i : ℕ) → Does past (λ s. Unit {0}) (λ n t. n ≡ Gift h i) (come (naming word past.home) (IsGift h i) h)
  unfolding come naming name_of
  does_gift_come h i = record { after = λ s j g. let b = (brings_come word past.home past (IsGift h i) h).after s g in (b.0, b.1, refl) }

  does_learn_gift : (p h i : ℕ) → Does past (λ s. Unit {0}) (λ v t. v ≡ Ref (Gift h i)) (arrive.learn_gift (naming word past.home) p h i)
  unfolding arrive.learn_gift
  does_learn_gift p h i = does_bind past (does_gift_come h i) (λ n. does_then past (does_keep past (λ s. n ≡ Gift h i) (λ s t l e. e) (brings_ask_for p h i n)) (λ a. does_from past (λ s e. ap Ref e) (does_give past {Q = λ v t. v ≡ Ref (Gift h i)} (Ref n))))

  does_make_list : (vs : List (Value Name)) → Does past (λ s. Unit {0}) (λ w t. (k : ℕ) × (w ≡ Items k) × Members t k vs) (arrive.make_list (naming word past.home) vs)
  unfolding arrive.make_list
  does_make_list vs = does_bind past (does_list past vs) (λ k. does_then past (does_keep past (λ s. Members s k vs) (λ s t l e. l.1 k vs e) (tells_list_came past k vs)) (λ a. does_from past (λ s e. (k, refl, e)) (does_give past {Q = λ w t. (n : ℕ) × (w ≡ Items n) × Members t n vs} (Items k))))

  learnt_lasts : (y : Passed (Incoming Name Name)) (v : Value Name) → Lasting past (λ s. LearntAs (Members s) y v)
  learnt_lasts y v s t l h = learnt_map (Members s) (Members t) l.1 y v h

  learnt_all_lasts : (ys : Passeds (Incoming Name Name)) (vs : List (Value Name)) → Lasting past (λ s. LearntAll (Members s) ys vs)
  learnt_all_lasts ys vs s t l h = learnt_all_map (Members s) (Members t) l.1 ys vs h

  mutual
    unfolding arrive.learn arrive.learn_all

    does_learn : (p : ℕ) (y : Passed (Incoming Name Name)) → Does past (λ s. Unit {0}) (λ v t. LearntAs (Members t) y v) (arrive.learn (naming word past.home) p y)
    does_learn p (Plain y) = does_learn_value y
    does_learn p (AGift h i) = does_learn_gift p h i
    does_learn p (Many ys) = does_bind past (does_learn_all p ys) (λ vs. does_to past (λ w t i. (i.1.0, vs, i.1.1, i.1.2, i.0)) (does_from past (λ s i. (i, tt)) (does_also past (λ s. LearntAll (Members s) ys vs) (learnt_all_lasts ys vs) (does_make_list vs))))

    does_learn_all : (p : ℕ) (ys : Passeds (Incoming Name Name)) → Does past (λ s. Unit {0}) (λ vs t. LearntAll (Members t) ys vs) (arrive.learn_all (naming word past.home) p ys)
    does_learn_all p NoMore = does_from past (λ s i. i) (does_give past {Q = λ vs t. LearntAll (Members t) NoMore vs} [])
    does_learn_all p (More y ys) = does_bind past (does_learn p y) (λ v. does_bind past (does_from past (λ s i. (i, tt)) (does_also past (λ s. LearntAs (Members s) y v) (learnt_lasts y v) (does_learn_all p ys)))
        (λ vs. does_give past {Q = λ ws t. LearntAll (Members t) (More y ys) ws} (v ∷ vs)))

  does_learn_message : (x : Incoming Name Name) → Does past (λ s. Unit {0}) (λ n t. name_in x ≡ n) (arrive.learn_message (naming word past.home) x)
  unfolding arrive.learn_message mail naming mail_of
  does_learn_message (Old n) = does_from past (λ s i. refl) (does_give past {Q = λ m t. n ≡ m} n)
  does_learn_message (New x h) = record { after = λ s i g. let b = (brings_mail word past.home past (IsCarried x)).after s g in (b.0, b.1, refl) }

  -- the message that the note brought
  brought : (s : Vat Name) (from : ℕ) (m : Delivery (Incoming Name Name)) (x : Incoming Name Name) (verb : Words) (ys : Passeds (Incoming Name Name)) (step : Step Name Name) (n : Message Name)
      → step ≡ Receives from (Deliver m x verb ys) → name_in m.message ≡ n.id → verb ≡ n.verb → n.target ≡ Ref (name_in x) → LearntAll (Members s) ys n.args → Came s step n
  brought s from m x verb ys step n e i j k l = subst (λ z. Came s z n) (sym e) (i, j, k, l)

  does_send_on_asked : (from : ℕ) (id n : Name) (verb : Words) (args : List (Value Name)) → Does past (λ s. (o : Option Name) → Fine past s (record { id = id; target = Ref n; verb = verb; args = args; answer = o })) (Any past) (arrive.send_on_asked (naming word past.home) from id n verb args)
  unfolding arrive.send_on_asked
  does_send_on_asked from id n verb args = let G : Vat Name → Type 0 = λ s. (o : Option Name) → Fine past s (record { id = id; target = Ref n; verb = verb; args = args; answer = o }) in
      let lasts : Lasting past G = λ s t l i o. fine_later past s t l (record { id = id; target = Ref n; verb = verb; args = args; answer = o }) (i o) in
      does_bind past (does_keep past G lasts (brings_look past _))
      (λ u. does_bind past (does_keep past G lasts (brings_come word past.home past _ u))
      (λ a. does_then past (does_keep past G lasts (alters_tell word past.home past from a))
      (λ b. does_from past (λ s i. i (Some a)) (does_send_on word past (refs.settle (naming word past.home)) (brings_settle word past) (record { id = id; target = Ref n; verb = verb; args = args; answer = Some a })))))

  pub brings_arrive_deliver : (from : ℕ) (m : Delivery (Incoming Name Name)) (x : Incoming Name Name) (verb : Words) (ys : Passeds (Incoming Name Name)) → past.step ≡ Receives from (Deliver m x verb ys) → Brings past (arrive.arrive_deliver (naming word past.home) from m x verb ys)
  unfolding arrive.arrive_deliver
  brings_arrive_deliver from m x verb ys e = brings_does past (does_bind past (does_learn_message m.message)
      (λ id. does_bind past (does_from past (λ s i. (i, tt)) (does_also past (λ s. name_in m.message ≡ id) (λ s t l i. i) (does_learn_all from ys)))
      (λ args. let F : Vat Name → Type 0 = λ s. (name_in m.message ≡ id) × LearntAll (Members s) ys args in
      let last : Lasting past F = λ s t l i. (i.0, learnt_all_lasts ys args s t l i.1) in
      does_bind past (does_from past (λ s i. (i, tt)) (does_also past F last (does_learn_name x)))
      (λ n. let G : Vat Name → Type 0 = λ s. F s × (name_in x ≡ n) in
      let lasts : Lasting past G = λ s t l i. (last s t l i.0, i.1) in
      let Came' : Option Name → Vat Name → Type 0 = λ o s. Fine past s (record { id = id; target = Ref n; verb = verb; args = args; answer = o }) in
      let came : (o : Option Name) (s : Vat Name) → G s → Came' o s = λ o s i. (Ref n, itself, inr (inl (brought s from m x verb ys past.step (record { id = id; target = Ref n; verb = verb; args = args; answer = o }) e i.0.0 refl (ap Ref (sym i.1)) i.0.1))) in
      does_if past m.asks (does_from past (λ s i. λ o. came o s i) (does_send_on_asked from id n verb args))
      (does_from past (λ s i. came None s i) (does_send_on word past (refs.settle (naming word past.home)) (brings_settle word past) (record { id = id; target = Ref n; verb = verb; args = args; answer = None })))))))

  pub brings_arrive_open : (x1 : ℕ) → (x2 : ℕ) → (x3 : Incoming Name Name) → Brings past (arrive.arrive_open (naming word past.home) x1 x2 x3)
  unfolding arrive.arrive_open
  brings_arrive_open from i x = search (brings, brings_learn_name, brings_have_gift, brings_resolve) depth 14

  pub brings_break_orphan : (x1 : ℕ) → (x2 : ℕ) → (x3 : Name) → Brings past (arrive.break_orphan (naming word past.home) x1 x2 x3)
  unfolding arrive.break_orphan
  brings_break_orphan p i n = search (brings, brings_break_unopened) depth 14

  pub brings_arrive_ask : (x1 : ℕ) → (x2 : ℕ) → (x3 : ℕ) → Brings past (arrive.arrive_ask (naming word past.home) x1 x2 x3)
  unfolding arrive.arrive_ask
  brings_arrive_ask from p i = search (brings, brings_have_gift, brings_break_orphan, brings_tell_asker) depth 14

  pub brings_arrive_settled : (x1 : ℕ) → (x2 : Incoming Name Name) → (x3 : Passed (Incoming Name Name)) → Brings past (arrive.arrive_settled (naming word past.home) x1 x2 x3)
  unfolding arrive.arrive_settled
  brings_arrive_settled from x y = search (brings, brings_learn_name, brings_learn, brings_settle) depth 14

  pub brings_see : (n g : Name) → Brings past (arrive.see (naming word past.home) n g)
  unfolding arrive.see
  brings_see n g = brings_does past (does_then past (does_tell past (Views n g) tt) (λ a. does_then past (does_from past (λ s i. inr i) (does_alter word past.home past (See g) n)) (λ b. does_any past (alters_wait word past.home past n g))))

  pub brings_gift_there : (x1 : ℕ) → (x2 : ℕ) → (x3 : ℕ) → (x4 : ℕ) → Brings past (arrive.gift_there (naming word past.home) x1 x2 x3 x4)
  unfolding arrive.gift_there
  brings_gift_there v h c i = search (brings, brings_have_gift) depth 14

  pub brings_view_there : (x1 : Name) → (x2 : ℕ) → Brings past (arrive.view_there (naming word past.home) x1 x2)
  unfolding arrive.view_there
  brings_view_there n c = search (brings, brings_gift_there, brings_see) depth 14

  pub brings_arrive_elsewhere : (x1 : Incoming Name Name) → (x2 : ℕ) → Brings past (arrive.arrive_elsewhere (naming word past.home) x1 x2)
  unfolding arrive.arrive_elsewhere
  brings_arrive_elsewhere x c = search (brings, brings_learn_name, brings_settle, brings_view_there) depth 14

  pub brings_shorten_to : (x1 : ℕ) → (x2 : Place Name) → Brings past (arrive.shorten_to (naming word past.home) x1 x2)
  unfolding arrive.shorten_to
  brings_shorten_to i (Away h n true) = search (brings) depth 14
  brings_shorten_to i _ = search (brings) depth 14

  pub brings_arrive_shorten : (x1 : Incoming Name Name) → (x2 : ℕ) → Brings past (arrive.arrive_shorten (naming word past.home) x1 x2)
  unfolding arrive.arrive_shorten
  brings_arrive_shorten x i = search (brings, brings_learn_name, brings_shorten_to) depth 14

  pub brings_arrive : (from : ℕ) (n : Note (Incoming Name Name)) → past.step ≡ Receives from n → Brings past (arrive.arrive (naming word past.home) from n)
  unfolding arrive.arrive
  brings_arrive from (Deliver m x verb ys) e = brings_arrive_deliver from m x verb ys e
  brings_arrive from (Open i x) e = brings_arrive_open from i x
  brings_arrive from (Ask p i x) e = brings_arrive_ask from p i
  brings_arrive from (SettledTo x y) e = brings_arrive_settled from x y
  brings_arrive from (Elsewhere x c) e = brings_arrive_elsewhere x c
  brings_arrive from (Shorten x c i) e = brings_arrive_shorten x i

  pub brings_break_hosted : (x1 : ℕ) → (x2 : Name) → (x3 : Words) → (x4 : Standing Name) → Brings past (arrive.break_hosted (naming word past.home) x1 x2 x3 x4)
  unfolding arrive.break_hosted
  brings_break_hosted w n p (Viewed q) = search (brings) depth 14
  brings_break_hosted w n p (Settled y) = search (brings) depth 14
  brings_break_hosted w n p other = search (brings, brings_settle) depth 14

  pub brings_notice_name : (x1 : ℕ) → (x2 : Known Name) → Brings past (arrive.notice_name (naming word past.home) x1 x2)
  unfolding arrive.notice_name
  brings_notice_name w k = search (brings, brings_break_hosted) depth 14

  pub brings_notice_gift : (x1 : ℕ) → (x2 : GiftEntry Name) → Brings past (arrive.notice_gift (naming word past.home) x1 x2)
  unfolding arrive.notice_gift
  brings_notice_gift w g = search (brings, brings_break_unopened) depth 14

  pub brings_notice_all : (x1 : ℕ) → past.cut x1 → Brings past (arrive.notice_all (naming word past.home) x1)
  unfolding arrive.notice_all
  brings_notice_all w c = let now = brings_mark past w c in search (brings, brings_notice_name, brings_notice_gift) depth 14

  pub brings_notice : (x1 : ℕ) → past.cut x1 → Brings past (arrive.notice (naming word past.home) x1)
  unfolding arrive.notice
  brings_notice w c = let all = brings_notice_all w c in search (brings) depth 14
