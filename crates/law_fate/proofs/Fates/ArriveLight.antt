-- What a message weighs through what arrives and what is noticed.
use Rattle.std.proofs.Common.{◌≡◌, ℕ, ◌≤◌, Bool, true, false, List, [], ◌∷◌, ◌++◌, Option, Some, None, if◌then◌else◌, refl, sym, ap, ◌∙◌, arith, length, subst}
use Rattle.std.specs.Prelude.{◌==◌}
use Rattle.std.proofs.lemmas.Bool.{eq-eqb}
use Rattle.def_machine.specs.Values.{Words, Value, Null, Flag, Number, Letter, Text, Prim, Broken, Items, Ref, Name, Root, Object, Promise, Answer, Gift, Sent, Naming, IsAnswer, IsGift, IsLearnt, IsCarried, NoObject, spot_of, name_of, mail_of, host_of}
use Rattle.def_machine.specs.State.{Standing, Unsettled, WaitsOn, Viewed, Settled, Known, Passed, Passeds, Plain, AGift, Many, NoMore, More, Note, Deliver, Open, Ask, SettledTo, Elsewhere, Shorten, GiftEntry, ListCame, Views, Vat, Done, Gives, Stops, Act, ◌>>=◌, ◌>>◌, and_then, mail, give, look, tell, new_list, new_gift, come, is_in, begun}
use Rattle.def_machine.specs.Refs as refs
use Rattle.def_machine.specs.Refs.{Place, Mine, Away, settle, send_on, entry_of, host_in, standing_in, standing_of}
use Rattle.def_machine.specs.Arrive as arrive
use Rattle.def_machine.specs.Arrive.{Incoming, Old, New}
use Rattle.law_fate.specs.Fates.Fate.{one}
use Rattle.law_fate.specs.Fates.FateLaws.{coming}
use Rattle.law_fate.specs.Fates.Lasting.{Each, NamesMessage, NoPromise, SettledWell, ComesAsNoObject, ValueComes, PassedComes, AllCome, ValueSettles, PassedSettles, MessageComes, NoteComes}
use Rattle.law_fate.proofs.Fates.Counts.{sent_end}
use Rattle.law_fate.proofs.Fates.RunCounts.{pick}
use Rattle.law_fate.proofs.Fates.PlacesLast.{Global}
use Rattle.law_fate.proofs.Fates.PlacesRefs.{follow_last, severed_last, found_well, near_follow, near_here}
use Rattle.law_fate.specs.Fates.Carry.{load}
use Rattle.law_fate.specs.Fates.Sound.{ViewsAnother, Sound, name_in, HostComes, ValueHosts, PassedHosts, AllHosts, NoteArrives}
use Rattle.law_fate.specs.Fates.CarryLaws.{further, note_leaves}
use Rattle.law_fate.proofs.Fates.Light.{LightAt, Light, light_on, light_next, cost_bind_last, cost_then_last, light, light_bind, light_then, light_give, light_look, light_tell, light_if, light_come, come_at, light_gift, light_see as sees, light_to_tell, own_host, found_sound, answer_at, answer_host, light_wait}
use Rattle.law_fate.proofs.Fates.RefsLight.{ride, here_rides, end_rides, light_settle, light_break, light_resolve, light_inform, sent_at}

ruleset light_all = (light, light_break, light_resolve)

true_false : true ≡ false → ⊥
true_false e = cc

module _ (x : Name) (K : Naming Name Name) (v : ℕ) (global : Global K v) where
  -- ---- a message that comes to the host of its target

  own_where : (n : Name) (c u : ℕ) (b : Bool) → (v == u) ≡ b → u ≡ v → ride (pick b (Mine n) (Away u n false)) c ≤ c
  unfolding ride
  own_where n c u true e h = omega arith
  own_where n c u false e h = absurd (true_false (sym (eq-eqb v u (sym h)) ∙ e))

  -- a name of v itself that is no object goes no further than to be held
  own_rides : (s : Vat Name) (n : Name) (c : ℕ) → spot_of v n ≡ NoObject → host_of n ≡ v → Sound v s → ride (refs.place K s (Ref n)) c ≤ c
  unfolding refs.place refs.spotted refs.hosted refs.host_at
  own_rides s n c e h w = subst (λ p. ride (refs.spotted K s n p) c ≤ c) (sym (global.spot n ∙ e))
      (subst (λ u. ride (pick (u == host_in u (entry_of K s.known n)) (Mine n) (Away (host_in u (entry_of K s.known n)) n false)) c ≤ c) (sym w.same)
      (own_where n c (host_in v (entry_of K s.known n)) (v == host_in v (entry_of K s.known n)) refl (own_host v x K global n s.known h w.names)))

  cut_rides : (s : Vat Name) (n : Name) (t : Words) (c : ℕ) (b : Bool) → ride (refs.place K s (Ref n)) c ≤ c → ride (refs.place K s (pick b (Broken t) (Ref n))) c ≤ c
  cut_rides s n t c true h = end_rides K v global s (Broken t) c tt
  cut_rides s n t c false h = h

  severed_rides : (s : Vat Name) (n : Name) (c : ℕ) → spot_of v n ≡ NoObject → ride (refs.place K s (Ref n)) c ≤ c → ride (refs.place K s (refs.severed K s (Ref n))) c ≤ c
  unfolding refs.severed refs.severed_at refs.severed_by
  severed_rides s n c e h = subst (λ p. ride (refs.place K s (refs.severed_at K s n p)) c ≤ c) (sym (global.spot n ∙ e)) (cut_rides s n _ c (is_in (refs.host_at K s.number s.known n) s.noticed) h)

  -- its own names have no view, and what settled settled to no promise
  standing_rides : (s : Vat Name) (n : Name) (c : ℕ) (o : Option (Known Name)) → entry_of K s.known n ≡ o → spot_of v n ≡ NoObject → host_of n ≡ v → Sound v s
      → ride (refs.place K s (refs.severed K s (refs.led K (λ y. refs.follow_at K (length s.known) s.known y) n (standing_in o)))) c ≤ c
  unfolding standing_in refs.led
  standing_rides s n c None e i h w = severed_rides s n c i (own_rides s n c i h w)
  standing_rides s n c (Some k) e i h w = by_standing k.standing refl
    where
      by_standing : (t : Standing Name) → k.standing ≡ t → ride (refs.place K s (refs.severed K s (refs.led K (λ y. refs.follow_at K (length s.known) s.known y) n t))) c ≤ c
      by_standing Unsettled f = severed_rides s n c i (own_rides s n c i h w)
      by_standing (WaitsOn q) f = severed_rides s n c i (own_rides s n c i h w)
      by_standing (Viewed q) f = let found = found_sound v x K global n k s.known e w.names in let of_k = found.0 in absurd (subst (λ t. ViewsAnother v k.name t) f of_k.viewed (ap host_of found.1 ∙ h))
      by_standing (Settled y) f = let found = found_well K v global n k s.known e w.well in let of_k = found.0 in let last : NoPromise y = subst SettledWell f of_k.standing in
          end_rides K v global s _ c (severed_last K v global s _ (follow_last K v global (length s.known) s.known y last w.well))

  promise_rides : (s : Vat Name) (n : Name) (c : ℕ) → spot_of v n ≡ NoObject → host_of n ≡ v → Sound v s → ride (refs.place K s (refs.follow K s (Ref n))) c ≤ c
  unfolding refs.follow refs.follow_at standing_of
  promise_rides s n c i h w = standing_rides s n c (entry_of K s.known n) refl i h w

  object_rides : (s : Vat Name) (w i c : ℕ) → w ≡ v → Sound v s → ride (refs.place K s (refs.follow K s (Ref (Object w i)))) c ≤ 0
  object_rides s u i c h w = here_rides (refs.place K s (refs.follow K s (Ref (Object u i)))) c (near_here K v global s (refs.follow K s (Ref (Object u i))) (near_follow K v global s (Ref (Object u i)) h w.well))

  pub host_rides : (s : Vat Name) (n : Name) (c : ℕ) → host_of n ≡ v → Sound v s → ride (refs.place K s (refs.follow K s (Ref n))) c ≤ further n c
  unfolding further host_of spot_of
  host_rides s (Object u i) c h w = object_rides s u i c h w
  host_rides s (Root u) c h w = promise_rides s (Root u) c refl h w
  host_rides s (Promise u i) c h w = promise_rides s (Promise u i) c refl h w
  host_rides s (Answer u m) c h w = promise_rides s (Answer u m) c refl h w
  host_rides s (Gift u i) c h w = promise_rides s (Gift u i) c refl h w
  host_rides s (Sent m) c h w = promise_rides s (Sent m) c refl h w

  -- ---- learning

  pub light_learn_name : (z : Incoming Name Name) → ComesAsNoObject z → HostComes z → Light v x 0 (arrive.learn_name K z)
  unfolding arrive.learn_name name_of
  light_learn_name (Old n) g e = search (light_all) depth 14
  light_learn_name (New z h) g e = light_come v x K global (IsLearnt z) h g e

  -- a name that was learnt is the one that came
  learnt_then : {B : Type 0} (c : ℕ) (z : Incoming Name Name) (f : Name → Act Name B) → ComesAsNoObject z → HostComes z → ((n : Name) → n ≡ name_in z → Light v x c (f n)) → Light v x c (arrive.learn_name K z >>= f)
  unfolding arrive.learn_name ◌>>=◌ and_then give come name_of
  learnt_then c (Old n) f g e k = record { after = λ s w. (k n refl).after s w }
  learnt_then c (New z h) f g e k = record {
    after = λ s w. let n = K.made (IsLearnt z) (length s.known) in let at = come_at v x K global (IsLearnt z) h s g e w in
        light_next v x c s _ _ at ((k n (global.made (IsLearnt z) (length s.known))).after _ at.sound);
  }

  pub light_learn_value : (y : Value (Incoming Name Name)) → ValueComes y → ValueHosts y → Light v x 0 (arrive.learn_value K y)
  unfolding arrive.learn_value
  light_learn_value (Ref z) g e = let one = light_learn_name z g e in search (light_all) depth 14
  light_learn_value other g e = search (light_all) depth 14

  light_ask_for : (p h i : ℕ) (n : Name) → Light v x 0 (arrive.ask_for K p h i n)
  unfolding arrive.ask_for
  light_ask_for p h i n = search (light_all) depth 14

  light_learn_gift : (p h i : ℕ) → Light v x 0 (arrive.learn_gift K p h i)
  unfolding arrive.learn_gift
  light_learn_gift p h i = search (light_all, light_ask_for) depth 14

  light_make_list : (vs : List (Value Name)) → Light v x 0 (arrive.make_list K vs)
  unfolding arrive.make_list
  light_make_list vs = search (light_all) depth 14

  mutual
    unfolding arrive.learn arrive.learn_all

    pub light_learn : (p : ℕ) (y : Passed (Incoming Name Name)) → PassedComes y → PassedHosts y → Light v x 0 (arrive.learn K p y)
    light_learn p (Plain y) g e = light_learn_value y g e
    light_learn p (AGift h i) g e = light_learn_gift p h i
    light_learn p (Many ys) g e = let rest = light_learn_all p ys g e in search (light_all, light_make_list)

    pub light_learn_all : (p : ℕ) (ys : Passeds (Incoming Name Name)) → AllCome ys → AllHosts ys → Light v x 0 (arrive.learn_all K p ys)
    light_learn_all p NoMore g e = search (light_all)
    light_learn_all p (More y ys) g e = let one = light_learn p y g.0 e.0 in let rest = light_learn_all p ys g.1 e.1 in search (light_all)

  -- ---- gifts at their host

  gift_own : (p i : ℕ) (gs : List (GiftEntry Name)) (g : GiftEntry Name) → arrive.gift_at p i gs ≡ Some g → Each (λ (g : GiftEntry Name). host_of g.name ≡ v) gs → host_of g.name ≡ v
  unfolding arrive.gift_at
  gift_own p i [] g e h = cc
  gift_own p i (f ∷ gs) g e h = either _ e (λ k. gift_own p i gs g k h.1)
    where
      either : (b : Bool) → pick b (Some f) (arrive.gift_at p i gs) ≡ Some g → (arrive.gift_at p i gs ≡ Some g → host_of g.name ≡ v) → host_of g.name ≡ v
      either true k r = let same : f ≡ g = cc in rw same at h.0
      either false k r = r k

  gift_where : {B : Type 0} (c p i : ℕ) (s : Vat Name) (o : Option (GiftEntry Name)) (f : Name → Act Name B) → arrive.gift_at p i s.gifts ≡ o → Sound v s → ((n : Name) → host_of n ≡ v → Light v x c (f n))
      → LightAt v x c s (and_then (arrive.gift_or_new K s.number p i o s) f)
  unfolding arrive.gift_or_new and_then give ◌>>=◌ ◌>>◌ come new_gift name_of host_of
  gift_where c p i s (Some g) f e w k = (k g.name (gift_own p i s.gifts g e w.own)).after s w
  gift_where c p i s None f e w k =
      let n = K.made (IsGift s.number i) (length s.known) in let at = come_at v x K global (IsGift s.number i) s.number s tt refl w in
      let own : host_of n ≡ v = ap host_of (global.made (IsGift s.number i) (length s.known)) ∙ w.same in
      let t : Vat Name = record s { known = s.known ++ begun n s.number ∷ [] } in
      let made = (light_gift v x n p i own).after t at.sound in
      light_next v x c s _ _ at (light_next v x c t _ _ made ((k n own).after _ made.sound))

  -- the gift is one of this vat
  gift_then : {B : Type 0} (c p i : ℕ) (f : Name → Act Name B) → ((n : Name) → host_of n ≡ v → Light v x c (f n)) → Light v x c (arrive.have_gift K p i >>= f)
  unfolding arrive.have_gift ◌>>=◌ and_then look
  gift_then c p i f k = record { after = λ s w. gift_where c p i s (arrive.gift_at p i s.gifts) f refl w k }

  given_at : (s : Vat Name) (r : Done Name Name) → LightAt v x 0 s (and_then r give) → LightAt v x 0 s r
  unfolding and_then give
  given_at s (Gives n t) h = h
  given_at s other h = h

  light_have_gift : (p i : ℕ) → Light v x 0 (arrive.have_gift K p i)
  unfolding ◌>>=◌
  light_have_gift p i = record { after = λ s w. given_at s (arrive.have_gift K p i s) ((gift_then 0 p i give (λ n e. light_give v x n)).after s w) }

  light_gift_there : (u h c i : ℕ) → Light v x 0 (arrive.gift_there K u h c i)
  unfolding arrive.gift_there
  light_gift_there u h c i = search (light_all, light_have_gift) depth 14

  light_break_at : (n : Name) (p : Words) (t : Standing Name) → Light v x 0 (arrive.break_at K n p t)
  unfolding arrive.break_at
  light_break_at n p (Settled y) = search (light_all) depth 14
  light_break_at n p other = search (light_all) depth 14

  light_break_unopened : (n : Name) (b : Bool) → Light v x 0 (arrive.break_unopened K n b)
  unfolding arrive.break_unopened
  light_break_unopened n true = search (light_all) depth 14
  light_break_unopened n false = search (light_all, light_break_at) depth 14

  light_break_orphan : (p i : ℕ) (n : Name) → Light v x 0 (arrive.break_orphan K p i n)
  unfolding arrive.break_orphan
  light_break_orphan p i n = search (light_all, light_break_unopened) depth 14

  light_tell_asker : (n : Name) (w : ℕ) (t : Standing Name) → host_of n ≡ v → Light v x 0 (arrive.tell_asker K n w t)
  unfolding arrive.tell_asker
  light_tell_asker n w (Settled y) e = light_inform K v global x n w e
  light_tell_asker n w other e = light_to_tell v x K global w n e

  light_arrive_ask : (from p i : ℕ) → Light v x 0 (arrive.arrive_ask K from p i)
  unfolding arrive.arrive_ask
  light_arrive_ask from p i = gift_then 0 p i _ (λ n e. light_then v x (light_break_orphan p i n) (light_bind v x (light_look v x _) (λ t. light_tell_asker n from t e)))

  light_arrive_open : (from i : ℕ) (z : Incoming Name Name) → ComesAsNoObject z → HostComes z → Light v x 0 (arrive.arrive_open K from i z)
  unfolding arrive.arrive_open
  light_arrive_open from i z g e = let one = light_learn_name z g e in search (light_all, light_have_gift) depth 14

  light_see : (n g : Name) → (host_of n ≡ v → ⊥) → Light v x 0 (arrive.see K n g)
  unfolding arrive.see
  light_see n g h = light_then v x (light_tell v x (Views n g)) (light_then v x (sees v x K global g n h) (light_wait v x K global n g))

  light_view_there : (n : Name) (c : ℕ) → (host_of n ≡ v → ⊥) → Light v x 0 (arrive.view_there K n c)
  unfolding arrive.view_there
  light_view_there n c e = let seen : (g : Name) → Light v x 0 (arrive.see K n g) = λ g. light_see n g e in search (light_all, light_gift_there) depth 14

  light_arrive_elsewhere : (z : Incoming Name Name) (c : ℕ) → ComesAsNoObject z → HostComes z → (host_of (name_in z) ≡ v → ⊥) → Light v x 0 (arrive.arrive_elsewhere K z c)
  unfolding arrive.arrive_elsewhere
  light_arrive_elsewhere z c g e h = learnt_then 0 z _ g e (λ n i. light_bind v x (light_look v x _) (λ gone. light_if v x gone (light_break K v global x n _) (light_view_there n c (λ j. h (ap host_of (sym i) ∙ j)))))

  light_shorten_to : (i : ℕ) (p : Place Name) → Light v x 0 (arrive.shorten_to K i p)
  unfolding arrive.shorten_to
  light_shorten_to i (Away h n true) = search (light_all) depth 14
  light_shorten_to i other = search (light_all) depth 14

  light_arrive_shorten : (z : Incoming Name Name) (i : ℕ) → ComesAsNoObject z → HostComes z → Light v x 0 (arrive.arrive_shorten K z i)
  unfolding arrive.arrive_shorten
  light_arrive_shorten z i g e = let one = light_learn_name z g e in search (light_all, light_shorten_to) depth 14

  -- ---- a message that arrives

  -- its answer comes to be, and it is sent on from its target, of which v is the host
  answered_at : (c from : ℕ) (verb : Words) (args : List (Value Name)) (id n : Name) (s : Vat Name) → NamesMessage id → host_of n ≡ v → further n (one id x) ≡ c → Sound v s
      → LightAt v x c s (arrive.send_on_asked K from id n verb args s)
  unfolding arrive.send_on_asked ◌>>=◌ and_then look come
  answered_at c from verb args id n s named own small w =
      let a = K.made (IsAnswer s.number id) (length s.known) in let at = answer_at v x K global s.number id s named w in
      let host : host_of a ≡ v = answer_host v x K global s.number (length s.known) id named ∙ w.same in
      light_next v x c s _ _ at ((cost_then_last v x c (light_to_tell v x K global from a host) (sends_here (Some a))).after _ at.sound)
    where
      sends_here : (a : Option Name) → Light v x c (send_on K (settle K) (record { id = id; target = Ref n; verb = verb; args = args; answer = a }))
      sends_here a = record {
        after = λ t k. let goes = host_rides t n (one id x) own k in
            sent_at K v global x (settle K) (light_settle K v global x) c (record { id = id; target = Ref n; verb = verb; args = args; answer = a }) t named k (rw small at goes);
      }

  -- the same by whether an answer is asked for
  sent_now : (c from : ℕ) (asks : Bool) (verb : Words) (args : List (Value Name)) (id n : Name) (s : Vat Name) → NamesMessage id → host_of n ≡ v → further n (one id x) ≡ c → Sound v s
      → LightAt v x c s ((if asks then arrive.send_on_asked K from id n verb args else send_on K (settle K) (record { id = id; target = Ref n; verb = verb; args = args; answer = None })) s)
  sent_now c from true verb args id n s named own small w = answered_at c from verb args id n s named own small w
  sent_now c from false verb args id n s named own small w = sent_at K v global x (settle K) (light_settle K v global x) c (record { id = id; target = Ref n; verb = verb; args = args; answer = None }) s named w (rw small at (host_rides s n (one id x) own w))

  cost_sent_on : (c from : ℕ) (asks : Bool) (z : Incoming Name Name) (verb : Words) (ys : Passeds (Incoming Name Name)) (id : Name) → NamesMessage id → ComesAsNoObject z → AllCome ys → HostComes z → AllHosts ys → host_of (name_in z) ≡ v → further (name_in z) (one id x) ≡ c
      → Light v x c (arrive.learn_all K from ys >>= (λ args. arrive.learn_name K z >>= (λ n. if asks then arrive.send_on_asked K from id n verb args else send_on K (settle K) (record { id = id; target = Ref n; verb = verb; args = args; answer = None }))))
  cost_sent_on c from asks z verb ys id named g all e hosts own small = cost_bind_last v x c (light_learn_all from ys all hosts) (λ args. learnt_then c z _ g e (λ n i.
      record { after = λ s w. sent_now c from asks verb args id n s named (ap host_of i ∙ own) (ap (λ a. further a (one id x)) i ∙ small) w }))

  cost_arrive_deliver : (from : ℕ) (m : Incoming Name Name) (asks : Bool) (answer : Option (Incoming Name Name)) (z : Incoming Name Name) (verb : Words) (ys : Passeds (Incoming Name Name)) → MessageComes m → ComesAsNoObject z → AllCome ys → host_of (name_in z) ≡ v → HostComes z → AllHosts ys
      → Light v x (further (name_in z) (coming x m)) (arrive.arrive_deliver K from (record { message = m; asks = asks; answer = answer }) z verb ys)
  unfolding arrive.arrive_deliver arrive.learn_message ◌>>=◌ and_then give mail mail_of load coming
  cost_arrive_deliver from (Old m) asks answer z verb ys named g all own e hosts = record { after = λ s w. (cost_sent_on (further (name_in z) (one m x)) from asks z verb ys m named g all e hosts own refl).after s w }
  cost_arrive_deliver from (New m h) asks answer z verb ys named g all own e hosts = record {
    after = λ s w. let id = K.mailed (IsCarried m) (length s.mails) in
        let same : id ≡ m = global.mailed (IsCarried m) (length s.mails) in
        let t : Vat Name = record s { mails = s.mails ++ id ∷ [] } in
        light_next v x (further (name_in z) (one m x)) s t _ (record { sound = w; kept = omega arith })
        ((cost_sent_on (further (name_in z) (one m x)) from asks z verb ys id (subst NamesMessage (sym same) named) g all e hosts own (ap (λ a. further (name_in z) (one a x)) same)).after t w);
  }

  -- ---- a name settles by a note: to data, an object or a list

  settles_value : (n : Name) (y : Value (Incoming Name Name)) → ValueSettles y → Light v x 0 (arrive.learn_value K y >>= (λ z. settle K n z))
  unfolding arrive.learn_value ◌>>=◌ and_then give arrive.learn_name
  settles_value n Null g = record { after = λ s w. (light_settle K v global x n Null tt).after s w }
  settles_value n (Flag b) g = record { after = λ s w. (light_settle K v global x n (Flag b) tt).after s w }
  settles_value n (Number z) g = record { after = λ s w. (light_settle K v global x n (Number z) tt).after s w }
  settles_value n (Letter c) g = record { after = λ s w. (light_settle K v global x n (Letter c) tt).after s w }
  settles_value n (Text t) g = record { after = λ s w. (light_settle K v global x n (Text t) tt).after s w }
  settles_value n (Prim p) g = record { after = λ s w. (light_settle K v global x n (Prim p) tt).after s w }
  settles_value n (Broken p) g = record { after = λ s w. (light_settle K v global x n (Broken p) tt).after s w }
  settles_value n (Items k) g = record { after = λ s w. (light_settle K v global x n (Items k) tt).after s w }
  settles_value n (Ref (Old m)) g = record { after = λ s w. (light_settle K v global x n (Ref m) g).after s w }
  settles_value n (Ref (New z h)) g = absurd g

  list_then : (n : Name) (vs : List (Value Name)) → Light v x 0 (arrive.make_list K vs >>= (λ z. settle K n z))
  unfolding arrive.make_list ◌>>=◌ ◌>>◌ and_then give new_list tell load
  list_then n vs = record {
    after = λ s w. let more = sent_end x s.happened (ListCame (length s.lists) vs) in
        let t : Vat Name = record s { lists = s.lists ++ vs ∷ []; happened = s.happened ++ ListCame (length s.lists) vs ∷ [] } in
        light_on v x 0 0 s t _ (record { sound = w; kept = omega arith }) ((light_settle K v global x n (Items (length s.lists)) tt).after t w);
  }

  members_then : (n : Name) (s : Vat Name) (r : Done Name (List (Value Name))) → LightAt v x 0 s r → LightAt v x 0 s (and_then (and_then r (λ vs. arrive.make_list K vs)) (λ z. settle K n z))
  unfolding and_then ◌>>=◌
  members_then n s (Gives vs t) h = light_on v x 0 0 s t _ h ((list_then n vs).after t h.sound)
  members_then n s (Stops e t) h = tt
  members_then n s other h = absurd h

  settles_passed : (from : ℕ) (n : Name) (y : Passed (Incoming Name Name)) → PassedSettles y → PassedHosts y → Light v x 0 (arrive.learn K from y >>= (λ z. settle K n z))
  unfolding arrive.learn ◌>>=◌
  settles_passed from n (Plain y) g e = settles_value n y g
  settles_passed from n (AGift h i) g e = absurd g
  settles_passed from n (Many ys) g e = record { after = λ s w. members_then n s (arrive.learn_all K from ys s) ((light_learn_all from ys g e).after s w) }

  light_arrive_settled : (from : ℕ) (z : Incoming Name Name) (y : Passed (Incoming Name Name)) → ComesAsNoObject z → PassedSettles y → HostComes z → PassedHosts y → Light v x 0 (arrive.arrive_settled K from z y)
  unfolding arrive.arrive_settled
  light_arrive_settled from z y g h e i = light_bind v x (light_learn_name z g e) (λ n. settles_passed from n y h i)

  pub cost_arrive : (from : ℕ) (n : Note (Incoming Name Name)) → NoteComes n → NoteArrives v n → Light v x (note_leaves x n) (arrive.arrive K from n)
  unfolding arrive.arrive note_leaves
  cost_arrive from (Deliver d z verb ys) g a = cost_arrive_deliver from d.message d.asks d.answer z verb ys g.0 g.1 g.2 a.0 a.1 a.2
  cost_arrive from (Open i z) g a = light_arrive_open from i z g a
  cost_arrive from (Ask p i z) g a = light_arrive_ask from p i
  cost_arrive from (SettledTo z y) g a = light_arrive_settled from z y g.0 g.1 a.0 a.1
  cost_arrive from (Elsewhere z c) g a = light_arrive_elsewhere z c g a.1 a.0
  cost_arrive from (Shorten z c i) g a = light_arrive_shorten z i g a

  -- ---- notices

  light_break_hosted : (w : ℕ) (n : Name) (p : Words) (t : Standing Name) → Light v x 0 (arrive.break_hosted K w n p t)
  unfolding arrive.break_hosted
  light_break_hosted w n p Unsettled = search (light_all) depth 14
  light_break_hosted w n p other = search (light_all) depth 14

  light_notice_name : (w : ℕ) (k : Known Name) → Light v x 0 (arrive.notice_name K w k)
  unfolding arrive.notice_name
  light_notice_name w k = search (light_all, light_break_hosted) depth 14

  light_notice_gift : (w : ℕ) (g : GiftEntry Name) → Light v x 0 (arrive.notice_gift K w g)
  unfolding arrive.notice_gift
  light_notice_gift w g = search (light_all, light_break_unopened) depth 14

  light_notice_all : (w : ℕ) → Light v x 0 (arrive.notice_all K w)
  unfolding arrive.notice_all
  light_notice_all w = search (light_all, light_notice_name, light_notice_gift) depth 14

  pub light_notice : (w : ℕ) → Light v x 0 (arrive.notice K w)
  unfolding arrive.notice
  light_notice w = search (light_all, light_notice_all) depth 14
