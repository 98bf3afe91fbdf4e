-- What arrives and what is noticed takes no room of a name, where the name is not the one that settles or waits by it, or did neither settle nor wait.
use Rattle.std.proofs.Common.{◌≡◌, ℕ, ◌+◌, ◌*◌, Bool, true, false, List, [], ◌∷◌, ◌++◌, Option, Some, None, refl, sym, ap, subst, ◌∙◌, ◌⊎◌, inl, inr, arith, ◌==◌, if◌then◌else◌}
use Rattle.std.proofs.lemmas.Bool.{eqb-true}
use Rattle.def_machine.specs.Values.{Words, Value, Broken, Ref, Name, Answer, Gift, Sent, Msg, Naming, naming, Coming, IsGift, IsLearnt, name_of, answer_of, mail_of, under}
use Rattle.def_machine.specs.State.{Standing, Unsettled, Viewed, Settled, Known, See, ToTell, Passed, Passeds, Plain, AGift, Many, NoMore, More, Delivery, Note, Deliver, Open, Ask, SettledTo, Elsewhere, Shorten, GiftEntry, Vat, Done, Gives, Throws, Ejects, Stops, Act, ◌>>=◌, ◌>>◌, and_then, give, look, tell, each, send_out, new_gift, open_gift, with_opened, mark, draws, draw, alter, come, mail, begun, changed_to, WhereSome, is_in}
use Rattle.def_machine.specs.Refs as refs
use Rattle.def_machine.specs.Refs.{Place, Away, entry_of, standing_of, host_at}
use Rattle.def_machine.specs.Arrive as arrive
use Rattle.def_machine.specs.Arrive.{Incoming, Old, New, gift_at}
use Rattle.law_machine.specs.Machine.Steps.{After}
use Rattle.law_machine.proofs.Machine.StepLaws.{entry_append}
use Rattle.law_fate.specs.Name.Names.{AllOf, IsMessageName}
use Rattle.law_fate.proofs.Name.Facts.{all_end}
use Rattle.law_fate.proofs.Name.SameNames.{message_is}
use Rattle.law_fate.specs.Fates.Fate.{one}
use Rattle.law_reference.proofs.Gift.Kept.{opened_named, found_named}
use Rattle.law_order.proofs.Ordering.Moves.{Keeps, IsKept, keeps_bind, keeps_then, keeps_give, keeps_look}
use Rattle.law_reference.specs.Reference.ListRingless.{IsNamed, told_name}
use Rattle.law_reference.proofs.Reference.Following.{standing_found}
use Rattle.law_order.specs.Waits.Answers.{answered_by, answers}
use Rattle.law_order.proofs.Waits.Counts.{comes_stands}
use Rattle.law_order.proofs.Waits.Room.{share}
use Rattle.law_order.proofs.Waits.Room as room
use Rattle.law_order.proofs.Waits.Costs.{Ends}
use Rattle.law_order.proofs.Waits.Costs as costs
use Rattle.law_order.proofs.Waits.Settling as settling
use Rattle.law_order.proofs.Waits.Settling.{moves}
use Rattle.law_order.proofs.Waits.Sends.{IsFit}
use Rattle.law_order.proofs.Waits.Sends as sends

module _ (word : ℕ → ℕ) (v : ℕ) (x : Name) (owed : Bool) (fit : IsFit v x owed) where
  abbrev N : Naming Name Name
  N = naming word v

  abbrev Costs : {A : Type 0} → ℕ → Act Name A → Type 0
  Costs c m = costs.Costs word v x owed c m

  abbrev At : ℕ → Vat Name → Type 0
  At c s = costs.At word v x owed c s

  abbrev Spares : Vat Name → Vat Name → Type 0
  Spares s t = costs.Spares word v x owed s t

  base : IsKept Spares
  base = costs.spares word v x owed

  -- the name settles and takes nothing by that
  abbrev pub IsOther : Name → Type 0
  IsOther n = share owed (one n x) ≡ 0

  pub breaks : (n : Name) → IsOther n → (y : Value Name) → Keeps Spares (refs.settle N n y)
  breaks n z y = costs.as_free word v x owed (costs.costs_more word v x owed (share owed (one n x)) 0 (omega arith) (settling.costs_settle word v x owed fit.eventual n y))

  other_by : (o : Bool) → owed ≡ o → (h i : ℕ) → IsOther (Gift h i)
  unfolding share
  other_by true e h i = ap (share owed) (fit.gift e h i) ∙ ap (λ (b : Bool). share b 0) e
  other_by false e h i = ap (λ (b : Bool). share b (one (Gift h i) x)) e

  pub gift_other : (h i : ℕ) → IsOther (Gift h i)
  gift_other h i = other_by owed refl h i

  named_other : (n : Name) (i : ℕ) → n ≡ Gift v i → IsOther n
  named_other n i e = subst IsOther (sym e) (gift_other v i)

  -- ---- what is known of what is given

  abbrev Leaves : {A : Type 0} → (A → Type 0) → ℕ → Done Name A → Type 0
  Leaves G e (Gives a t) = At e t × G a
  Leaves G e (Throws p t) = At e t
  Leaves G e (Ejects n y t) = At e t
  Leaves G e (Stops c t) = At e t

  record Yields {A : Type 0} (G : A → Type 0) (m : Act Name A) : Type 0 where
    pub after : (e : ℕ) (s : Vat Name) → At e s → Leaves G e (m s)

  spare_after : {A : Type 0} (e : ℕ) (s : Vat Name) (d : Done Name A) → At e s → After Spares s d → Ends (At e) d
  spare_after e s (Gives a t) g r = r.at e g
  spare_after e s other g r = r.at e g

  bound_so : {A B : Type 0} (G : A → Type 0) (e : ℕ) (d : Done Name A) (f : A → Act Name B) → Leaves G e d → ((a : A) → G a → Keeps Spares (f a)) → Ends (At e) (and_then d f)
  unfolding and_then
  bound_so G e (Gives a t) f h k = let rest = k a h.1 in spare_after e t (f a t) h.0 (rest.after t)
  bound_so G e other f h k = h

  bind_so : {A B : Type 0} (G : A → Type 0) {m : Act Name A} {f : A → Act Name B} → Yields G m → ((a : A) → G a → Keeps Spares (f a)) → Keeps Spares (m >>= f)
  unfolding ◌>>=◌
  bind_so G {m = m} {f = f} h k = costs.as_free word v x owed (record { after = λ e s g. bound_so G e (m s) f (h.after e s (costs.less word v x owed (0 + e) e (omega arith) s g)) k })

  -- ---- learning

  comes : (c : Coming Name Name) (h : ℕ) → Yields (λ n. n ≡ name_of v c) (come N c h)
  unfolding come naming
  comes c h = record { after = λ e s g. let n : Name = name_of v c in (costs.less word v x owed (2 * share owed (one n x) + e) e (omega arith) (record s { known = s.known ++ begun n h ∷ [] }) (costs.comes_good word v x owed e s n h g), refl) }

  coming : (c : Coming Name Name) (h : ℕ) → Keeps Spares (come N c h)
  coming c h = costs.spare_come word v x owed c h

  out : (to : ℕ) (n : Note Name) → Keeps Spares (send_out to n)
  out to n = costs.spare_out word v x owed to n

  mailing : (z : Incoming Name Name) → Yields (λ n. n ≡ told_name z) (arrive.learn_message N z)
  unfolding arrive.learn_message give mail naming mail_of
  mailing (Old n) = record { after = λ e s g. (g, refl) }
  mailing (New n h) = record { after = λ e s g. (g, refl) }

  learnt : (z : Incoming Name Name) → Yields (λ n. n ≡ told_name z) (arrive.learn_name N z)
  unfolding arrive.learn_name give name_of
  learnt (Old n) = record { after = λ e s g. (g, refl) }
  learnt (New n h) = comes (IsLearnt n) h

  pub learn_name : (z : Incoming Name Name) → Keeps Spares (arrive.learn_name N z)
  unfolding arrive.learn_name
  learn_name (Old n) = keeps_give Spares base n
  learn_name (New n h) = coming _ h

  learn_value : (y : Value (Incoming Name Name)) → Keeps Spares (arrive.learn_value N y)
  unfolding arrive.learn_value
  learn_value (Ref z) = search (moves, base, learn_name) depth 14
  learn_value other = keeps_give Spares base _

  ask_for : (p h i : ℕ) (n : Name) → n ≡ Gift h i → Keeps Spares (arrive.ask_for N p h i n)
  unfolding arrive.ask_for
  ask_for p h i n e = let broken = breaks n (subst IsOther (sym e) (gift_other h i)) in search (moves, base, out, broken) depth 14

  learn_gift : (p h i : ℕ) → Keeps Spares (arrive.learn_gift N p h i)
  unfolding arrive.learn_gift name_of
  learn_gift p h i = bind_so (λ n. n ≡ Gift h i) (comes (IsGift h i) h) (λ n e. let asked = ask_for p h i n e in search (moves, base) depth 14)

  make_list : (vs : List (Value Name)) → Keeps Spares (arrive.make_list N vs)
  unfolding arrive.make_list
  make_list vs = search (moves, base) depth 14

  mutual
    unfolding arrive.learn arrive.learn_all

    pub learn : (p : ℕ) (y : Passed (Incoming Name Name)) → Keeps Spares (arrive.learn N p y)
    learn p (Plain y) = learn_value y
    learn p (AGift h i) = learn_gift p h i
    learn p (Many ys) = let rest = learn_all p ys in search (moves, base, make_list) depth 14

    learn_all : (p : ℕ) (ys : Passeds (Incoming Name Name)) → Keeps Spares (arrive.learn_all N p ys)
    learn_all p NoMore = keeps_give Spares base []
    learn_all p (More y ys) = let one = learn p y in let rest = learn_all p ys in search (moves, base) depth 14

  -- ---- gifts at their host

  new_good : (u p i : ℕ) → u ≡ v → (e : ℕ) (s : Vat Name) → At e s → At e (record s { known = s.known ++ begun (Gift u i) u ∷ []; gifts = s.gifts ++ record { name = Gift u i; provider = p; number = i; opened = false } ∷ [] })
  new_good u p i own e s g = let more = costs.comes_good word v x owed e s (Gift u i) u g in let fits = more.fits in record {
    number = g.number;
    fits = omega arith;
    waiting = more.waiting;
    gifts = all_end (IsNamed v) s.gifts (record { name = Gift u i; provider = p; number = i; opened = false }) g.gifts (ap (λ (w : ℕ). Gift w i) own);
  }

  gifted : (u p i : ℕ) (o : Option (GiftEntry Name)) (e : ℕ) (s : Vat Name) → u ≡ v → WhereSome (λ g. g.name ≡ Gift v i) o → At e s → Leaves (λ n. n ≡ Gift v i) e (arrive.gift_or_new N u p i o s)
  unfolding arrive.gift_or_new give name_of new_gift ◌>>=◌ ◌>>◌ come and_then naming
  gifted u p i (Some h) e s own named g = (g, named)
  gifted u p i None e s own named g = (new_good u p i own e s g, ap (λ (w : ℕ). Gift w i) own)

  having : (p i : ℕ) → Yields (λ n. n ≡ Gift v i) (arrive.have_gift N p i)
  unfolding arrive.have_gift ◌>>=◌ look and_then
  having p i = record { after = λ e s g. gifted s.number p i (gift_at p i s.gifts) e s g.number (found_named v p i s.gifts g.gifts) g }

  break_at : (n : Name) → IsOther n → (t : Words) (st : Standing Name) → Keeps Spares (arrive.break_at N n t st)
  unfolding arrive.break_at
  break_at n z t (Settled y) = keeps_give Spares base tt
  break_at n z t other = breaks n z (Broken t)

  break_unopened : (n : Name) → IsOther n → (b : Bool) → Keeps Spares (arrive.break_unopened N n b)
  unfolding arrive.break_unopened
  break_unopened n z true = keeps_give Spares base tt
  break_unopened n z false = let broken = break_at n z in search (moves, base, broken) depth 14

  break_orphan : (p i : ℕ) (n : Name) → IsOther n → Keeps Spares (arrive.break_orphan N p i n)
  unfolding arrive.break_orphan
  break_orphan p i n z = let broken = break_unopened n z in search (moves, base, broken) depth 14

  tells : (w : ℕ) (n : Name) → Keeps Spares (alter N (ToTell w) n)
  tells w n = costs.spare_tells word v x owed w n

  informs : (n : Name) (w : ℕ) → Keeps Spares (refs.inform N n w)
  informs n w = settling.spare_inform word v x owed fit.eventual n w

  tell_asker : (n : Name) (w : ℕ) (t : Standing Name) → Keeps Spares (arrive.tell_asker N n w t)
  unfolding arrive.tell_asker
  tell_asker n w (Settled y) = informs n w
  tell_asker n w other = tells w n

  arrive_ask : (from p i : ℕ) → Keeps Spares (arrive.arrive_ask N from p i)
  unfolding arrive.arrive_ask
  arrive_ask from p i = bind_so (λ n. n ≡ Gift v i) (having p i) (λ n e. keeps_then Spares base (break_orphan p i n (named_other n i e)) (keeps_bind Spares base (keeps_look Spares base _) (λ t. tell_asker n from t)))

  -- ---- messages

  -- the answer comes to be known, and makes room for the message
  asked_of : (from : ℕ) (m : Msg) (n : Name) (verb : Words) (args : List (Value Name)) → Keeps Spares (arrive.send_on_asked N from (Sent m) n verb args)
  unfolding arrive.send_on_asked ◌>>=◌ and_then look come naming name_of answer_of answers answered_by
  asked_of from m n verb args = costs.as_free word v x owed (record {
    after = λ e s h. let g : At e s = costs.less word v x owed (0 + e) e (omega arith) s h in let a : Name = Answer s.number m in let t : Vat Name = record s { known = s.known ++ begun a s.number ∷ [] } in
        let pays = sends.answer_pays word v x owed fit s.number g.number m in
        let rest : Costs (2 * one a x) (alter N (ToTell from) a >> refs.send_on N (refs.settle N) (record { id = Sent m; target = Ref n; verb = verb; args = args; answer = Some a })) = costs.free_then word v x owed (2 * one a x) (tells from a)
        (settling.costs_send_on word v x owed fit.eventual (refs.settle N) (settling.costs_settle word v x owed fit.eventual) (record { id = Sent m; target = Ref n; verb = verb; args = args; answer = Some a })) in
        rest.after e t (costs.less word v x owed (2 * share owed (one a x) + e) (2 * one a x + e) (omega arith) t (costs.comes_good word v x owed e s a s.number g));
  })

  send_on_asked : (from : ℕ) (id n : Name) (verb : Words) (args : List (Value Name)) → IsMessageName id → Keeps Spares (arrive.send_on_asked N from id n verb args)
  send_on_asked from id n verb args i = let m = message_is id i in subst (λ (z : Name). Keeps Spares (arrive.send_on_asked N from z n verb args)) (sym m.1) (asked_of from m.0 n verb args)

  send_alone : (id n : Name) (verb : Words) (args : List (Value Name)) → Keeps Spares (refs.send_on N (refs.settle N) (record { id = id; target = Ref n; verb = verb; args = args; answer = None }))
  unfolding answers answered_by
  send_alone id n verb args = costs.as_free word v x owed (costs.costs_more word v x owed (2 * 0) 0 (omega arith) (settling.costs_send_on word v x owed fit.eventual (refs.settle N) (settling.costs_settle word v x owed fit.eventual) (record { id = id; target = Ref n; verb = verb; args = args; answer = None })))

  arrive_deliver : (from : ℕ) (d : Delivery (Incoming Name Name)) (z : Incoming Name Name) (verb : Words) (ys : Passeds (Incoming Name Name)) → IsMessageName (told_name d.message) → Keeps Spares (arrive.arrive_deliver N from d z verb ys)
  unfolding arrive.arrive_deliver
  arrive_deliver from d z verb ys i = bind_so (λ n. n ≡ told_name d.message) (mailing d.message) (λ id e.
      let asked = λ (n : Name) (args : List (Value Name)). send_on_asked from id n verb args (subst IsMessageName (sym e) i) in let alone = λ (n : Name) (args : List (Value Name)). send_alone id n verb args in search (moves, base, learn_all, learn_name, asked, alone) depth 14)

  -- ---- where a name is settled

  arrive_settled : (from : ℕ) (z : Incoming Name Name) (y : Passed (Incoming Name Name)) → IsOther (told_name z) → Keeps Spares (arrive.arrive_settled N from z y)
  unfolding arrive.arrive_settled
  arrive_settled from z y other = bind_so (λ n. n ≡ told_name z) (learnt z) (λ n e. let settles = λ (w : Value Name). breaks n (subst IsOther (sym e) other) w in search (moves, base, learn, settles) depth 14)

  -- It did neither settle nor wait, or it settled; it may be unknown.
  abbrev pub IsOpenOrSettled : List (Known Name) → Type 0
  IsOpenOrSettled ks = (standing_of N ks x ≡ Unsettled) ⊎ ((y : Value Name) × (standing_of N ks x ≡ Settled y))

  still_so : (n : Name) (h : ℕ) (ks : List (Known Name)) → IsOpenOrSettled ks → IsOpenOrSettled (ks ++ begun n h ∷ [])
  still_so n h ks (inl e) = inl (comes_stands word v n h x ks ∙ e)
  still_so n h ks (inr i) = inr (i.0, comes_stands word v n h x ks ∙ i.1)

  -- a name that is known
  pub calm_found : (ks : List (Known Name)) (k : Known Name) → entry_of N ks x ≡ Some k → IsOpenOrSettled ks → room.IsCalm word v x ks
  calm_found ks k e (inl i) = (k, e, inl (sym (standing_found N ks x k e) ∙ i))
  calm_found ks k e (inr i) = (k, e, inr (i.0, sym (standing_found N ks x k e) ∙ i.1))

  calm_more : (ks : List (Known Name)) (n : Name) (h : ℕ) → room.IsCalm word v x ks → room.IsCalm word v x (ks ++ begun n h ∷ [])
  calm_more ks n h c = (c.0, entry_append N x ks (begun n h ∷ []) c.0 c.1, c.2)

  last_found : (h : ℕ) (ks : List (Known Name)) → N.same x x ≡ true → (k : Known Name) × (entry_of N (ks ++ begun x h ∷ []) x ≡ Some k)
  unfolding entry_of begun
  last_found h [] e = at_end (N.same x x) e
    where
      at_end : (b : Bool) → b ≡ true → (k : Known Name) × (◌≡◌ {A = Option (Known Name)} (elim b [ true ↦ Some (record { name = x; host = h; standing = Unsettled; held = []; waiting = []; reactions = []; told = [] }) | false ↦ None ]) (Some k))
      at_end true i = (record { name = x; host = h; standing = Unsettled; held = []; waiting = []; reactions = []; told = [] }, refl)
      at_end false i = cc
  last_found h (k ∷ ks) e = at_head (N.same k.name x) (last_found h ks e)
    where
      at_head : (b : Bool) → (j : Known Name) × (entry_of N (ks ++ begun x h ∷ []) x ≡ Some j) → (j : Known Name) × (◌≡◌ {A = Option (Known Name)} (elim b [ true ↦ Some k | false ↦ entry_of N (ks ++ begun x h ∷ []) x ]) (Some j))
      at_head true i = (k, refl)
      at_head false i = i

  -- a name that comes to be known
  pub calm_comes : (h : ℕ) (ks : List (Known Name)) → N.same x x ≡ true → IsOpenOrSettled ks → room.IsCalm word v x (ks ++ begun x h ∷ [])
  calm_comes h ks e i = let last = last_found h ks e in calm_found (ks ++ begun x h ∷ []) last.0 last.1 (still_so x h ks i)

  -- ---- an opening

  abbrev Fits : Name → List (Known Name) → Type 0
  Fits n ks = costs.Fits word v x owed n ks

  resolves_gift : (from i : ℕ) (n : Name) (y : Name) (e : ℕ) (s : Vat Name) → n ≡ Gift v i → Fits n s.known → At e s → Ends (At e) ((open_gift from i >> refs.resolve N n (Ref y)) s)
  unfolding ◌>>◌ and_then open_gift
  resolves_gift from i n y e s named fits g = let zero = named_other n i named in let t : Vat Name = record s { gifts = with_opened from i s.gifts } in
      let opened : At e t = record { number = g.number; fits = g.fits; waiting = g.waiting; gifts = opened_named v from i s.gifts g.gifts } in
      settling.resolves_so word v x owed fit.eventual n e t fits (costs.less word v x owed e (2 * share owed (one n x) + e) (omega arith) t opened) (Ref y)

  -- what is asked of an opening: the gift is another name, or is open or settled, and known where it is there
  abbrev pub OpensWell : ℕ → ℕ → Vat Name → Type 0
  OpensWell from i s = (one (Gift v i) x ≡ 0) ⊎ ((Gift v i ≡ x) × (N.same x x ≡ true) × IsOpenOrSettled s.known × ((h : GiftEntry Name) → gift_at from i s.gifts ≡ Some h → (k : Known Name) × (entry_of N s.known x ≡ Some k)))

  fits_there : (from i : ℕ) (s : Vat Name) (h : GiftEntry Name) → gift_at from i s.gifts ≡ Some h → h.name ≡ Gift v i → OpensWell from i s → Fits h.name s.known
  fits_there from i s h found named (inl z) = inl (subst (λ (n : Name). one n x ≡ 0) (sym named) z)
  fits_there from i s h found named (inr w) = let k = w.3 h found in inr (named ∙ w.0, calm_found s.known k.0 k.1 w.2)

  fits_new : (from i u : ℕ) (s : Vat Name) → u ≡ v → OpensWell from i s → Fits (Gift u i) (s.known ++ begun (Gift u i) u ∷ [])
  fits_new from i u s own (inl z) = inl (subst (λ (w : ℕ). one (Gift w i) x ≡ 0) (sym own) z)
  fits_new from i u s own (inr w) = let same : Gift u i ≡ x = ap (λ (z : ℕ). Gift z i) own ∙ w.0 in
      inr (same, subst (λ (n : Name). room.IsCalm word v x (s.known ++ begun n u ∷ [])) (sym same) (calm_comes u s.known w.1 w.2))

  opens_or : (from i : ℕ) (y : Name) (e : ℕ) (s : Vat Name) (o : Option (GiftEntry Name)) → gift_at from i s.gifts ≡ o → WhereSome (λ h. h.name ≡ Gift v i) o → OpensWell from i s → At e s
      → Ends (At e) (and_then (arrive.gift_or_new N s.number from i o s) (λ n. open_gift from i >> refs.resolve N n (Ref y)))
  unfolding arrive.gift_or_new give name_of new_gift ◌>>=◌ ◌>>◌ come and_then naming
  opens_or from i y e s (Some h) found named w g = resolves_gift from i h.name y e s named (fits_there from i s h found named w) g
  opens_or from i y e s None found named w g = resolves_gift from i (Gift s.number i) y e (record s { known = s.known ++ begun (Gift s.number i) s.number ∷ []; gifts = s.gifts ++ record { name = Gift s.number i; provider = from; number = i; opened = false } ∷ [] })
      (ap (λ (z : ℕ). Gift z i) g.number) (fits_new from i s.number s g.number w) (new_good s.number from i g.number e s g)

  opens_at : (from i : ℕ) (y : Name) (e : ℕ) (s : Vat Name) → OpensWell from i s → At e s → Ends (At e) ((arrive.have_gift N from i >>= (λ n. open_gift from i >> refs.resolve N n (Ref y))) s)
  unfolding arrive.have_gift ◌>>=◌ look and_then
  opens_at from i y e s w g = opens_or from i y e s (gift_at from i s.gifts) refl (found_named v from i s.gifts g.gifts) w g

  opens_later : (from i : ℕ) (s : Vat Name) (n : Name) (h : ℕ) → OpensWell from i s → OpensWell from i (record s { known = s.known ++ begun n h ∷ [] })
  opens_later from i s n h (inl z) = inl z
  opens_later from i s n h (inr w) = inr (w.0, w.1, still_so n h s.known w.2, λ f found. let k = w.3 f found in (k.0, entry_append N x s.known (begun n h ∷ []) k.0 k.1))

  arrive_open : (from i : ℕ) (z : Incoming Name Name) (e : ℕ) (s : Vat Name) → OpensWell from i s → At e s → Ends (At e) (arrive.arrive_open N from i z s)
  unfolding arrive.arrive_open arrive.learn_name ◌>>=◌ and_then give come naming name_of
  arrive_open from i (Old n) e s w g = opens_at from i n e s w g
  arrive_open from i (New n h) e s w g = let t : Vat Name = record s { known = s.known ++ begun n h ∷ [] } in
      opens_at from i n e t (opens_later from i s n h w) (costs.less word v x owed (2 * share owed (one n x) + e) e (omega arith) t (costs.comes_good word v x owed e s n h g))

  -- ---- a view

  record Carries (s t : Vat Name) : Type 0 where
    pub at : (e : ℕ) → At e s → At e t
    pub calm : room.IsCalm word v x s.known → room.IsCalm word v x t.known

  carries : IsKept Carries
  carries = record {
    same = λ s. record { at = λ e h. h; calm = λ c. c };
    trans = λ r q. record { at = λ e h. q.at e (r.at e h); calm = λ c. q.calm (r.calm c) };
    fuel = λ s n. record { at = λ e h. h; calm = λ c. c };
    happened = λ s y. record { at = λ e h. h; calm = λ c. c };
    activations = λ s. record { at = λ e h. h; calm = λ c. c };
    thing = λ s t. record { at = λ e h. h; calm = λ c. c };
    killed = λ s n. record { at = λ e h. h; calm = λ c. c };
    slot = λ s c. record { at = λ e h. h; calm = λ d. d };
    written = λ s n y. record { at = λ e h. h; calm = λ c. c };
    list = λ s ys. record { at = λ e h. h; calm = λ c. c };
  }

  carry_out : (to : ℕ) (n : Note Name) → Keeps Carries (send_out to n)
  unfolding send_out
  carry_out to n = record { after = λ s. record { at = λ e h. h; calm = λ c. c } }

  drawn : (s : Vat Name) (w : ℕ) (o : Option ℕ) → After Carries s (draws w o s)
  unfolding draws
  drawn s w (Some i) = record { at = λ e h. h; calm = λ c. c }
  drawn s w None = record { at = λ e h. h; calm = λ c. c }

  carry_draw : Keeps Carries (draw N)
  unfolding draw
  carry_draw = record { after = λ s. drawn s _ _ }

  carry_come : (c : Coming Name Name) (h : ℕ) → Keeps Carries (come N c h)
  unfolding come naming
  carry_come c h = record {
    after = λ s. let n : Name = name_of v c in record {
      at = λ e g. costs.less word v x owed (2 * share owed (one n x) + e) e (omega arith) (record s { known = s.known ++ begun n h ∷ [] }) (costs.comes_good word v x owed e s n h g);
      calm = λ k. calm_more s.known n h k;
    };
  }

  carry_or : (p i : ℕ) (s : Vat Name) (o : Option (GiftEntry Name)) → After Carries s (arrive.gift_or_new N s.number p i o s)
  unfolding arrive.gift_or_new give name_of new_gift ◌>>=◌ ◌>>◌ come and_then naming
  carry_or p i s (Some h) = record { at = λ e g. g; calm = λ c. c }
  carry_or p i s None = record { at = λ e g. new_good s.number p i g.number e s g; calm = λ c. calm_more s.known (Gift s.number i) s.number c }

  carry_have : (p i : ℕ) → Keeps Carries (arrive.have_gift N p i)
  unfolding arrive.have_gift ◌>>=◌ look and_then
  carry_have p i = record { after = λ s. carry_or p i s (gift_at p i s.gifts) }

  carry_there : (u h c i : ℕ) → Keeps Carries (arrive.gift_there N u h c i)
  unfolding arrive.gift_there
  carry_there u h c i = search (moves, carries, carry_have, carry_come, carry_out) depth 14

  bound_carried : {A B : Type 0} (n : Name) (e : ℕ) (s : Vat Name) (d : Done Name A) (f : A → Act Name B) → After Carries s d → Fits n s.known → At e s → ((a : A) (t : Vat Name) → Fits n t.known → At e t → Ends (At e) (f a t)) → Ends (At e) (and_then d f)
  unfolding and_then
  bound_carried n e s (Gives a t) f r fits g k = k a t (later fits) (r.at e g)
    where
      later : Fits n s.known → Fits n t.known
      later (inl z) = inl z
      later (inr i) = inr (i.0, r.calm i.1)
  bound_carried n e s other f r fits g k = r.at e g

  sees_so : (n q : Name) (e : ℕ) (s : Vat Name) → IsOther n → Fits n s.known → At e s → Ends (At e) (arrive.see N n q s)
  unfolding arrive.see ◌>>◌ and_then tell alter changed_to
  sees_so n q e s z fits g = costs.links_good word v x owed (See q) q refl refl (λ m. refl) (λ k. refl) n e s fits (costs.less word v x owed e (2 * share owed (one n x) + e) (omega arith) s g)

  carry_draw_after : (t : Vat Name) → After Carries t (draw N t)
  carry_draw_after t = let k = carry_draw in k.after t

  carry_out_after : (h : ℕ) (m : Note Name) (t : Vat Name) → After Carries t (send_out h m t)
  carry_out_after h m t = let k = carry_out h m in k.after t

  carry_there_after : (u h c i : ℕ) (t : Vat Name) → After Carries t (arrive.gift_there N u h c i t)
  carry_there_after u h c i t = let k = carry_there u h c i in k.after t

  views_so : (n : Name) (c : ℕ) (e : ℕ) (s : Vat Name) → IsOther n → Fits n s.known → At e s → Ends (At e) (arrive.view_there N n c s)
  unfolding arrive.view_there ◌>>=◌ ◌>>◌ look and_then
  views_so n c e s z fits g = let u : ℕ = s.number in let h : ℕ = host_at N s.number s.known n in
      bound_carried n e s (draw N s) _ (carry_draw_after s) fits g (λ i t fits_then g_then. bound_carried n e t (send_out h (Shorten n c (under h i)) t) _ (carry_out_after h (Shorten n c (under h i)) t) fits_then g_then
      (λ a r fits_put g_put. bound_carried n e r (arrive.gift_there N u h c (under h i) r) _ (carry_there_after u h c (under h i) r) fits_put g_put (λ q w fits_last g_last. sees_so n q e w z fits_last g_last)))

  -- a name in a note that is known
  abbrev pub IsHere : Incoming Name Name → List (Known Name) → Type 0
  IsHere (Old n) ks = (k : Known Name) × (entry_of N ks x ≡ Some k)
  IsHere (New n h) ks = Unit {0}

  -- what is asked of the name that settled elsewhere: it takes nothing, and is another name, or is open or settled
  abbrev pub SeesWell : Incoming Name Name → Vat Name → Type 0
  SeesWell z s = IsOther (told_name z) × ((one (told_name z) x ≡ 0) ⊎ ((told_name z ≡ x) × (N.same x x ≡ true) × IsOpenOrSettled s.known × IsHere z s.known))

  either_at : (n : Name) (c : ℕ) (e : ℕ) (s : Vat Name) → IsOther n → Fits n s.known → At e s → (b : Bool) (t : Words) → Ends (At e) ((if b then refs.settle N n (Broken t) else arrive.view_there N n c) s)
  either_at n c e s z fits g true t = let k = breaks n z (Broken t) in spare_after e s (refs.settle N n (Broken t) s) g (k.after s)
  either_at n c e s z fits g false t = views_so n c e s z fits g

  new_fits : (n : Name) (h : ℕ) (s : Vat Name) → (one n x ≡ 0) ⊎ ((n ≡ x) × (N.same x x ≡ true) × IsOpenOrSettled s.known × Unit {0}) → Fits n (s.known ++ begun n h ∷ [])
  new_fits n h s (inl z) = inl z
  new_fits n h s (inr w) = inr (w.0, subst (λ (m : Name). room.IsCalm word v x (s.known ++ begun m h ∷ [])) (sym w.0) (calm_comes h s.known w.1 w.2))

  old_fits : (n : Name) (s : Vat Name) → (one n x ≡ 0) ⊎ ((n ≡ x) × (N.same x x ≡ true) × IsOpenOrSettled s.known × ((k : Known Name) × (entry_of N s.known x ≡ Some k))) → Fits n s.known
  old_fits n s (inl z) = inl z
  old_fits n s (inr w) = let k = w.3 in inr (w.0, calm_found s.known k.0 k.1 w.2)

  arrive_elsewhere : (z : Incoming Name Name) (c : ℕ) (e : ℕ) (s : Vat Name) → SeesWell z s → At e s → Ends (At e) (arrive.arrive_elsewhere N z c s)
  unfolding arrive.arrive_elsewhere arrive.learn_name ◌>>=◌ and_then give come look naming name_of
  arrive_elsewhere (Old n) c e s w g = either_at n c e s w.0 (old_fits n s w.1) g (is_in c s.noticed) _
  arrive_elsewhere (New n h) c e s w g = let t : Vat Name = record s { known = s.known ++ begun n h ∷ [] } in
      either_at n c e t w.0 (new_fits n h s w.1) (costs.less word v x owed (2 * share owed (one n x) + e) e (omega arith) t (costs.comes_good word v x owed e s n h g)) (is_in c s.noticed) _

  -- ---- notes

  shorten_to : (i : ℕ) (p : Place Name) → Keeps Spares (arrive.shorten_to N i p)
  unfolding arrive.shorten_to
  shorten_to i (Away h n true) = out h _
  shorten_to i other = keeps_give Spares base tt

  arrive_shorten : (z : Incoming Name Name) (i : ℕ) → Keeps Spares (arrive.arrive_shorten N z i)
  unfolding arrive.arrive_shorten
  arrive_shorten z i = search (moves, base, learn_name, shorten_to) depth 14

  -- what is asked of a note that arrives
  abbrev pub NoteWell : ℕ → Vat Name → Note (Incoming Name Name) → Type 0
  NoteWell from s (Deliver d z verb ys) = IsMessageName (told_name d.message)
  NoteWell from s (Open i z) = OpensWell from i s
  NoteWell from s (SettledTo z y) = IsOther (told_name z)
  NoteWell from s (Elsewhere z c) = SeesWell z s
  NoteWell from s other = Unit {0}

  by_spare : {A : Type 0} {m : Act Name A} (e : ℕ) (s : Vat Name) → Keeps Spares m → At e s → Ends (At e) (m s)
  by_spare {m = m} e s k g = spare_after e s (m s) g (k.after s)

  pub arrives_good : (from : ℕ) (n : Note (Incoming Name Name)) (e : ℕ) (s : Vat Name) → NoteWell from s n → At e s → Ends (At e) (arrive.arrive N from n s)
  unfolding arrive.arrive
  arrives_good from (Deliver d z verb ys) e s w g = by_spare e s (arrive_deliver from d z verb ys w) g
  arrives_good from (Open i z) e s w g = arrive_open from i z e s w g
  arrives_good from (Ask p i z) e s w g = by_spare e s (arrive_ask from p i) g
  arrives_good from (SettledTo z y) e s w g = by_spare e s (arrive_settled from z y w) g
  arrives_good from (Elsewhere z c) e s w g = arrive_elsewhere z c e s w g
  arrives_good from (Shorten z c i) e s w g = by_spare e s (arrive_shorten z i) g

  -- ---- notices

  -- a name that the vat hosts of which w tells is none that takes anything as it breaks
  abbrev pub NoticesWell : ℕ → Known Name → Type 0
  NoticesWell w k = k.host ≡ w → IsOther k.name

  break_hosted : (w : ℕ) (n : Name) (t : Words) (st : Standing Name) → IsOther n → Keeps Spares (arrive.break_hosted N w n t st)
  unfolding arrive.break_hosted
  break_hosted w n t (Viewed q) z = keeps_give Spares base tt
  break_hosted w n t (Settled y) z = keeps_give Spares base tt
  break_hosted w n t other z = breaks n z (Broken t)

  hosted_or : (w : ℕ) (k : Known Name) (b : Bool) → (b ≡ true → IsOther k.name) → (t : Words) (st : Standing Name) → Keeps Spares (if b then arrive.break_hosted N w k.name t st else give tt)
  hosted_or w k true z t st = break_hosted w k.name t st (z refl)
  hosted_or w k false z t st = keeps_give Spares base tt

  notice_name : (w : ℕ) (k : Known Name) → NoticesWell w k → Keeps Spares (arrive.notice_name N w k)
  unfolding arrive.notice_name
  notice_name w k z = keeps_bind Spares base (keeps_look Spares base _) (λ st. hosted_or w k (k.host == w) (λ e. z (eqb-true k.host w e)) _ st)

  notice_names : (w : ℕ) (ks : List (Known Name)) → AllOf (NoticesWell w) ks → Keeps Spares (each (arrive.notice_name N w) ks)
  unfolding each
  notice_names w [] h = keeps_give Spares base tt
  notice_names w (k ∷ ks) h = keeps_then Spares base (notice_name w k h.0) (notice_names w ks h.1)

  gift_or : (g : GiftEntry Name) (b : Bool) → IsNamed v g → Keeps Spares (if b then arrive.break_unopened N g.name g.opened else give tt)
  gift_or g true h = break_unopened g.name (named_other g.name g.number h) g.opened
  gift_or g false h = keeps_give Spares base tt

  notice_gifts : (w : ℕ) (gs : List (GiftEntry Name)) → AllOf (IsNamed v) gs → Keeps Spares (each (arrive.notice_gift N w) gs)
  unfolding each arrive.notice_gift
  notice_gifts w [] h = keeps_give Spares base tt
  notice_gifts w (g ∷ gs) h = keeps_then Spares base (gift_or g (g.provider == w) h.0) (notice_gifts w gs h.1)

  gifts_then : (w e : ℕ) (d : Done Name (Unit {0})) → Ends (At e) d → Ends (At e) (and_then d (λ _. look (λ (s : Vat Name). s.gifts) >>= (λ gs. each (arrive.notice_gift N w) gs)))
  unfolding ◌>>=◌ and_then look
  gifts_then w e (Gives a t) g = by_spare e t (notice_gifts w t.gifts g.gifts) g
  gifts_then w e other g = g

  notices_all : (w e : ℕ) (s : Vat Name) → AllOf (NoticesWell w) s.known → At e s → Ends (At e) (arrive.notice_all N w s)
  unfolding arrive.notice_all ◌>>=◌ ◌>>◌ and_then look mark
  notices_all w e s h g = gifts_then w e (each (arrive.notice_name N w) s.known (record s { noticed = s.noticed ++ w ∷ [] })) (by_spare e (record s { noticed = s.noticed ++ w ∷ [] }) (notice_names w s.known h) g)

  notices_or : (w e : ℕ) (s : Vat Name) (b : Bool) → AllOf (NoticesWell w) s.known → At e s → Ends (At e) ((if b then give tt else arrive.notice_all N w) s)
  unfolding give
  notices_or w e s true h g = g
  notices_or w e s false h g = notices_all w e s h g

  pub notices_good : (w e : ℕ) (s : Vat Name) → AllOf (NoticesWell w) s.known → At e s → Ends (At e) (arrive.notice N w s)
  unfolding arrive.notice ◌>>=◌ look and_then
  notices_good w e s h g = notices_or w e s (is_in w s.noticed) h g
