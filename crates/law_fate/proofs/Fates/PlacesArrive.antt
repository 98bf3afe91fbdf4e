-- What arrives and what is noticed lets what has a place last.
use Rattle.std.proofs.Common.{if◌then◌else◌, ℕ, ◌+◌, ◌≤◌, Bool, true, false, List, [], ◌∷◌, ◌++◌, Option, Some, None, sym, arith, length, subst, refl, ◌≡◌}
use Rattle.def_machine.specs.Values.{Words, Value, Null, Flag, Number, Letter, Text, Prim, Broken, Items, Ref, Name, Naming, IsLearnt, IsCarried, name_of, mail_of}
use Rattle.def_machine.specs.State.{Standing, Unsettled, Settled, Known, Passed, Passeds, Plain, AGift, Many, NoMore, More, Note, Deliver, Open, Ask, SettledTo, Elsewhere, Shorten, GiftEntry, ListCame, Vat, Done, Gives, Stops, ◌>>=◌, ◌>>◌, and_then, mail, give, look, tell, new_list}
use Rattle.def_machine.specs.Refs.{Place, Away, settle, send_on, entry_of, standing_in, standing_of}
use Rattle.def_machine.specs.Arrive as arrive
use Rattle.def_machine.specs.Arrive.{Incoming, Old, New}
use Rattle.law_fate.specs.Fates.Fate.{at_vat, gone_here, account}
use Rattle.law_fate.specs.Fates.Lasting.{NamesMessage, AllWell, ComesAsNoObject, ValueComes, PassedComes, AllCome, ValueSettles, PassedSettles, MessageComes, NoteComes, SettledWell}
use Rattle.law_fate.proofs.Fates.Counts.{gone_end}
use Rattle.law_fate.proofs.Fates.PlacesLast.{Global, PaysAt, Pays, pay_more, pays, pays_bind, pays_then, pays_look, pays_come, pays_answer, pays_to_tell, pays_if}
use Rattle.law_fate.proofs.Fates.PlacesRefs.{pays_break, pays_resolve, inform_at, found_well, pays_settle, pays_send_on}

ruleset pays_all = (pays, pays_break, pays_resolve)

module _ (cut : ℕ → Bool) (x : Name) (K : Naming Name Name) (v : ℕ) (global : Global K v) where
  pub pays_learn_name : (z : Incoming Name Name) → ComesAsNoObject z → Pays cut x 0 (arrive.learn_name K z)
  unfolding arrive.learn_name name_of
  pays_learn_name (Old n) g = search (pays_all) depth 14
  pays_learn_name (New z h) g = pays_come cut x K v global (IsLearnt z) h g

  pub pays_learn_value : (y : Value (Incoming Name Name)) → ValueComes y → Pays cut x 0 (arrive.learn_value K y)
  unfolding arrive.learn_value
  pays_learn_value (Ref z) g = let one = pays_learn_name z g in search (pays_all) depth 14
  pays_learn_value other g = search (pays_all) depth 14

  pub pays_ask_for : (p h i : ℕ) (n : Name) → Pays cut x 0 (arrive.ask_for K p h i n)
  unfolding arrive.ask_for
  pays_ask_for p h i n = search (pays_all) depth 14

  pub pays_learn_gift : (x1 : ℕ) → (x2 : ℕ) → (x3 : ℕ) → Pays cut x 0 (arrive.learn_gift K x1 x2 x3)
  unfolding arrive.learn_gift
  pays_learn_gift p h i = search (pays_all, pays_ask_for) depth 14

  pub pays_make_list : (x1 : List (Value Name)) → Pays cut x 0 (arrive.make_list K x1)
  unfolding arrive.make_list
  pays_make_list vs = search (pays_all) depth 14

  mutual
    unfolding arrive.learn arrive.learn_all

    pub pays_learn : (p : ℕ) (y : Passed (Incoming Name Name)) → PassedComes y → Pays cut x 0 (arrive.learn K p y)
    pays_learn p (Plain y) g = pays_learn_value y g
    pays_learn p (AGift h i) g = pays_learn_gift p h i
    pays_learn p (Many ys) g = let rest = pays_learn_all p ys g in search (pays_all, pays_make_list)

    pub pays_learn_all : (p : ℕ) (ys : Passeds (Incoming Name Name)) → AllCome ys → Pays cut x 0 (arrive.learn_all K p ys)
    pays_learn_all p NoMore g = search (pays_all)
    pays_learn_all p (More y ys) g = let one = pays_learn p y g.0 in let rest = pays_learn_all p ys g.1 in search (pays_all)

  pub pays_gift_or_new : (u p i : ℕ) (g : Option (GiftEntry Name)) → Pays cut x 0 (arrive.gift_or_new K u p i g)
  unfolding arrive.gift_or_new
  pays_gift_or_new u p i (Some g) = search (pays_all) depth 14
  pays_gift_or_new u p i None = search (pays_all) depth 14

  pub pays_have_gift : (x1 : ℕ) → (x2 : ℕ) → Pays cut x 0 (arrive.have_gift K x1 x2)
  unfolding arrive.have_gift
  pays_have_gift p i = search (pays_all, pays_gift_or_new) depth 14

  pub pays_break_at : (n : Name) (p : Words) (t : Standing Name) → Pays cut x 0 (arrive.break_at K n p t)
  unfolding arrive.break_at
  pays_break_at n p (Settled y) = search (pays_all) depth 14
  pays_break_at n p _ = search (pays_all) depth 14

  pub pays_break_unopened : (x1 : Name) → (x2 : Bool) → Pays cut x 0 (arrive.break_unopened K x1 x2)
  unfolding arrive.break_unopened
  pays_break_unopened n true = search (pays_all) depth 14
  pays_break_unopened n false = search (pays_all, pays_break_at) depth 14

  pub pays_break_orphan : (x1 : ℕ) → (x2 : ℕ) → (x3 : Name) → Pays cut x 0 (arrive.break_orphan K x1 x2 x3)
  unfolding arrive.break_orphan
  pays_break_orphan p i n = search (pays_all, pays_break_unopened) depth 14

  pub pays_see : (x1 : Name) → (x2 : Name) → Pays cut x 0 (arrive.see K x1 x2)
  unfolding arrive.see
  pays_see n g = search (pays_all) depth 14

  pub pays_gift_there : (x1 : ℕ) → (x2 : ℕ) → (x3 : ℕ) → (x4 : ℕ) → Pays cut x 0 (arrive.gift_there K x1 x2 x3 x4)
  unfolding arrive.gift_there
  pays_gift_there u h c i = search (pays_all, pays_have_gift) depth 14

  pub pays_view_there : (x1 : Name) → (x2 : ℕ) → Pays cut x 0 (arrive.view_there K x1 x2)
  unfolding arrive.view_there
  pays_view_there n c = search (pays_all, pays_gift_there, pays_see) depth 14

  pub pays_shorten_to : (x1 : ℕ) → (x2 : Place Name) → Pays cut x 0 (arrive.shorten_to K x1 x2)
  unfolding arrive.shorten_to
  pays_shorten_to i (Away h n true) = search (pays_all) depth 14
  pays_shorten_to i _ = search (pays_all) depth 14

  entry_from : (n : Name) (y : Value Name) (o : Option (Known Name)) → standing_in o ≡ Settled y → (k : Known Name) × (o ≡ Some k) × (k.standing ≡ Settled y)
  unfolding standing_in
  entry_from n y (Some k) e = (k, refl, e)
  entry_from n y None e = cc

  asker_told : (n : Name) (w : ℕ) (t : Standing Name) (s : Vat Name) → standing_of K s.known n ≡ t → AllWell s → PaysAt cut x 0 s (arrive.tell_asker K n w t s)
  unfolding arrive.tell_asker standing_of
  asker_told n w (Settled y) s e well = let found = entry_from n y (entry_of K s.known n) e in let k = found.0 in let of_k = found_well K v global n k s.known found.1 well.0 in let known = of_k.0 in
      inform_at K v global cut x n k y w s found.1 found.2 (subst SettledWell found.2 known.standing) well
  asker_told n w other s e well = (pays_to_tell cut x K v global w n).after s well

  asks_told : (n : Name) (w : ℕ) → Pays cut x 0 (look (λ s. standing_of K s.known n) >>= (λ t. arrive.tell_asker K n w t))
  unfolding ◌>>=◌ and_then look
  asks_told n w = record { after = λ s well. asker_told n w (standing_of K s.known n) s refl well }

  pub pays_arrive_ask : (from p i : ℕ) → Pays cut x 0 (arrive.arrive_ask K from p i)
  unfolding arrive.arrive_ask
  pays_arrive_ask from p i = pays_bind cut x (pays_have_gift p i) (λ n. pays_then cut x (pays_break_orphan p i n) (asks_told n from))

  pub pays_arrive_open : (from i : ℕ) (z : Incoming Name Name) → ComesAsNoObject z → Pays cut x 0 (arrive.arrive_open K from i z)
  unfolding arrive.arrive_open
  pays_arrive_open from i z g = let one = pays_learn_name z g in search (pays_all, pays_have_gift) depth 14

  pub pays_arrive_elsewhere : (z : Incoming Name Name) (c : ℕ) → ComesAsNoObject z → Pays cut x 0 (arrive.arrive_elsewhere K z c)
  unfolding arrive.arrive_elsewhere
  pays_arrive_elsewhere z c g = let one = pays_learn_name z g in search (pays_all, pays_view_there) depth 14

  pub pays_arrive_shorten : (z : Incoming Name Name) (i : ℕ) → ComesAsNoObject z → Pays cut x 0 (arrive.arrive_shorten K z i)
  unfolding arrive.arrive_shorten
  pays_arrive_shorten z i g = let one = pays_learn_name z g in search (pays_all, pays_shorten_to) depth 14

  -- the message that has that name is sent on, once its arguments are learnt
  pays_asked : (from : ℕ) (id n : Name) (verb : Words) (args : List (Value Name)) → NamesMessage id → Pays cut x 0 (arrive.send_on_asked K from id n verb args)
  unfolding arrive.send_on_asked
  pays_asked from id n verb args named = pays_bind cut x (pays_look cut x _) (λ u. pays_bind cut x (pays_answer cut x K v global u u id named) (λ a. pays_then cut x (pays_to_tell cut x K v global from a)
      (pays_send_on K v global cut x (settle K) (pays_settle K v global cut x) (record { id = id; target = Ref n; verb = verb; args = args; answer = Some a }) named)))

  pays_sent_on : (from : ℕ) (asks : Bool) (z : Incoming Name Name) (verb : Words) (ys : Passeds (Incoming Name Name)) (id : Name) → NamesMessage id → ComesAsNoObject z → AllCome ys
      → Pays cut x 0 (arrive.learn_all K from ys >>= (λ args. arrive.learn_name K z >>= (λ n. if asks then arrive.send_on_asked K from id n verb args else send_on K (settle K) (record { id = id; target = Ref n; verb = verb; args = args; answer = None }))))
  pays_sent_on from asks z verb ys id named g all = pays_bind cut x (pays_learn_all from ys all) (λ args. pays_bind cut x (pays_learn_name z g) (λ n. pays_if cut x asks (pays_asked from id n verb args named)
      (pays_send_on K v global cut x (settle K) (pays_settle K v global cut x) (record { id = id; target = Ref n; verb = verb; args = args; answer = None }) named)))

  pays_arrive_deliver : (from : ℕ) (m : Incoming Name Name) (asks : Bool) (answer : Option (Incoming Name Name)) (z : Incoming Name Name) (verb : Words) (ys : Passeds (Incoming Name Name)) → MessageComes m → ComesAsNoObject z → AllCome ys → Pays cut x 0 (arrive.arrive_deliver K from (record { message = m; asks = asks; answer = answer }) z verb ys)
  unfolding arrive.arrive_deliver arrive.learn_message ◌>>=◌ and_then give mail mail_of account at_vat
  pays_arrive_deliver from (Old m) asks answer z verb ys named g all = record { after = λ s w. (pays_sent_on from asks z verb ys m named g all).after s w }
  pays_arrive_deliver from (New m h) asks answer z verb ys named g all = record {
    after = λ s w. let id = K.mailed (IsCarried m) (length s.mails) in
        let carried : NamesMessage id = subst NamesMessage (sym (global.mailed (IsCarried m) (length s.mails))) named in
        let t : Vat Name = record s { mails = s.mails ++ id ∷ [] } in let same : 0 + account cut x s ≤ account cut x t = omega arith in
        pay_more cut x 0 0 s t _ same ((pays_sent_on from asks z verb ys id carried g all).after t w);
  }

  -- ---- a name settles by a note: to data, an object or a list

  settles_value : (n : Name) (y : Value (Incoming Name Name)) → ValueSettles y → Pays cut x 0 (arrive.learn_value K y >>= (λ z. settle K n z))
  unfolding arrive.learn_value ◌>>=◌ and_then give arrive.learn_name
  settles_value n Null g = record { after = λ s w. (pays_settle K v global cut x n Null tt).after s w }
  settles_value n (Flag b) g = record { after = λ s w. (pays_settle K v global cut x n (Flag b) tt).after s w }
  settles_value n (Number z) g = record { after = λ s w. (pays_settle K v global cut x n (Number z) tt).after s w }
  settles_value n (Letter c) g = record { after = λ s w. (pays_settle K v global cut x n (Letter c) tt).after s w }
  settles_value n (Text t) g = record { after = λ s w. (pays_settle K v global cut x n (Text t) tt).after s w }
  settles_value n (Prim p) g = record { after = λ s w. (pays_settle K v global cut x n (Prim p) tt).after s w }
  settles_value n (Broken p) g = record { after = λ s w. (pays_settle K v global cut x n (Broken p) tt).after s w }
  settles_value n (Items k) g = record { after = λ s w. (pays_settle K v global cut x n (Items k) tt).after s w }
  settles_value n (Ref (Old m)) g = record { after = λ s w. (pays_settle K v global cut x n (Ref m) g).after s w }
  settles_value n (Ref (New z h)) g = absurd g

  list_then : (n : Name) (vs : List (Value Name)) (s : Vat Name) → AllWell s → PaysAt cut x 0 s (and_then (arrive.make_list K vs s) (λ z. settle K n z))
  unfolding arrive.make_list ◌>>=◌ ◌>>◌ and_then give new_list tell account at_vat gone_here
  list_then n vs s w = let more = gone_end cut x s.happened (ListCame (length s.lists) vs) in
      let t : Vat Name = record s { lists = s.lists ++ vs ∷ []; happened = s.happened ++ ListCame (length s.lists) vs ∷ [] } in let same : 0 + account cut x s ≤ account cut x t = omega arith in
      pay_more cut x 0 0 s t _ same ((pays_settle K v global cut x n (Items (length s.lists)) tt).after t w)

  members_then : (n : Name) (s : Vat Name) (r : Done Name (List (Value Name))) → PaysAt cut x 0 s r → PaysAt cut x 0 s (and_then (and_then r (λ vs. arrive.make_list K vs)) (λ z. settle K n z))
  unfolding and_then
  members_then n s (Gives vs t) h = pay_more cut x 0 0 s t _ h.1 (list_then n vs t h.0)
  members_then n s (Stops e t) h = tt
  members_then n s other h = absurd h

  settles_passed : (from : ℕ) (n : Name) (y : Passed (Incoming Name Name)) → PassedSettles y → Pays cut x 0 (arrive.learn K from y >>= (λ z. settle K n z))
  unfolding arrive.learn ◌>>=◌
  settles_passed from n (Plain y) g = settles_value n y g
  settles_passed from n (AGift h i) g = absurd g
  settles_passed from n (Many ys) g = record { after = λ s w. members_then n s (arrive.learn_all K from ys s) ((pays_learn_all from ys g).after s w) }

  pays_arrive_settled : (from : ℕ) (z : Incoming Name Name) (y : Passed (Incoming Name Name)) → ComesAsNoObject z → PassedSettles y → Pays cut x 0 (arrive.arrive_settled K from z y)
  unfolding arrive.arrive_settled
  pays_arrive_settled from z y g h = pays_bind cut x (pays_learn_name z g) (λ n. settles_passed from n y h)

  pub pays_arrive : (from : ℕ) (n : Note (Incoming Name Name)) → NoteComes n → Pays cut x 0 (arrive.arrive K from n)
  unfolding arrive.arrive
  pays_arrive from (Deliver d z verb ys) g = pays_arrive_deliver from d.message d.asks d.answer z verb ys g.0 g.1 g.2
  pays_arrive from (Open i z) g = pays_arrive_open from i z g
  pays_arrive from (Ask p i z) g = pays_arrive_ask from p i
  pays_arrive from (SettledTo z y) g = pays_arrive_settled from z y g.0 g.1
  pays_arrive from (Elsewhere z c) g = pays_arrive_elsewhere z c g
  pays_arrive from (Shorten z c i) g = pays_arrive_shorten z i g

  pub pays_break_hosted : (w : ℕ) (n : Name) (p : Words) (t : Standing Name) → Pays cut x 0 (arrive.break_hosted K w n p t)
  unfolding arrive.break_hosted
  pays_break_hosted w n p Unsettled = search (pays_all) depth 14
  pays_break_hosted w n p other = search (pays_all) depth 14

  pub pays_notice_name : (x1 : ℕ) → (x2 : Known Name) → Pays cut x 0 (arrive.notice_name K x1 x2)
  unfolding arrive.notice_name
  pays_notice_name w k = search (pays_all, pays_break_hosted) depth 14

  pub pays_notice_gift : (x1 : ℕ) → (x2 : GiftEntry Name) → Pays cut x 0 (arrive.notice_gift K x1 x2)
  unfolding arrive.notice_gift
  pays_notice_gift w g = search (pays_all, pays_break_unopened) depth 14

  pub pays_notice_all : (x1 : ℕ) → Pays cut x 0 (arrive.notice_all K x1)
  unfolding arrive.notice_all
  pays_notice_all w = search (pays_all, pays_notice_name, pays_notice_gift) depth 14

  pub pays_notice : (x1 : ℕ) → Pays cut x 0 (arrive.notice K x1)
  unfolding arrive.notice
  pays_notice w = search (pays_all, pays_notice_all) depth 14
