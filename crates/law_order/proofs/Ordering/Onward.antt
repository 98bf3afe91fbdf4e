-- What a name held is sent on as it settles, by the machine.
use Rattle.std.proofs.Common.{◌≡◌, ℕ, Bool, true, false, List, [], ◌∷◌, ◌++◌, Some, None, length, refl, sym, ap, subst, ◌∙◌, ◌⊎◌, inl, inr}
use Rattle.std.specs.Prelude.{slice_get}
use Rattle.def_machine.specs.Values.{Value, Broken, Ref, Name, Naming, Spot, Own}
use Rattle.def_machine.specs.State.{Message, Known, Vat, Gives}
use Rattle.def_machine.specs.State as state
use Rattle.def_machine.specs.Refs as refs
use Rattle.def_machine.specs.Refs.{Settler, Near}
use Rattle.def_run.specs.World.{Script, Link, World, names}
use Rattle.def_run.specs.World as world
use Rattle.law_order.specs.Ordering.Ways.{Lane, Queue, Held, Item, Place, Nowhere, End, Mid, Ways, IsIn, nowhere, alike, Ahead, doomed_there, in_end}
use Rattle.law_order.specs.Ordering.Turns.{Within}
use Rattle.law_order.specs.Ordering.Places.{item, queued, held_on, held_in, aimed, stands_at, ways_of, ways, amid}
use Rattle.law_order.specs.Ordering.Worlds.{IfGives, RefersAlike}
use Rattle.law_order.specs.Ordering.Settle.{passed_by, onward_to, led_to, without, emptied, KeepsBy, SentOn, SettlesHere, aimed_at, IsReady, settled_to, AllOn, IsHere, IsOwnSpot, SettlingToNothingKeeps, SettlingHereKeeps}
use Rattle.law_order.proofs.Ordering.Adding.{RefersSame, refers_same}
use Rattle.law_order.proofs.Ordering.Pushing.{all_same}
use Rattle.law_order.proofs.Ordering.Amid.{entry_self, stands_grow, onward_same}
use Rattle.law_order.proofs.Ordering.Named.{Test, test_self, test_is}
use Rattle.law_order.proofs.Ordering.Sends.{get_put}
use Rattle.law_order.proofs.Ordering.Settled.{follows_settled}
use Rattle.law_order.specs.Ordering.Messages.{StaysBehind}
use Rattle.law_order.proofs.Ordering.OrderPassing.{settled_is_passed}
use Rattle.law_order.proofs.Ordering.Settling.{settling_keeps, settling_leads}

-- ---- from ways to the same, where one name has let go what it held

module _ (w u : Ways) (v : ℕ) (p : Name) (e : Place) (grown : (l : Lane) → Within (w.stands l) (u.stands l)) (same : (l : Lane) (n : Name) → u.onward l n ≡ w.onward l n) where
  abbrev Led : Ways
  Led = led_to w v p e

  abbrev Let : Ways
  Let = emptied (led_to u v p e) v p

  module _ (sent : (i : Item) → IsIn i (w.stands (Held v p)) → Ahead Let i.mail e) where
    abbrev Stands : Lane → Item → Type 0
    Stands l i = IsIn i (without u.stands v p l) ⊎ ((l ≡ Held v p) × Ahead Let i.mail e)

    held_let : (a : ℕ) (q : Name) (i : Item) → IsIn i (w.stands (Held a q)) → Stands (Held a q) i
    unfolding without
    held_let a q i h = go (Test v p a q) refl
      where
        go : (c : Bool) → Test v p a q ≡ c → IsIn i (elim c [ true ↦ [] | false ↦ u.stands (Held a q) ]) ⊎ ((Held a q ≡ Held v p) × Ahead Let i.mail e)
        go true j = let k = test_is v p a q j in let here : Held a q ≡ Held v p = ap (λ z. Held z q) k.0 ∙ ap (λ z. Held v z) k.1 in inr (here, sent i (subst (λ l. IsIn i (w.stands l)) here h))
        go false j = inl (grown (Held a q) i h)

    stands_let : (l : Lane) (i : Item) → IsIn i (w.stands l) → Stands l i
    unfolding without
    stands_let (Held a q) i h = held_let a q i h
    stands_let other i h = inl (grown other i h)

    onward_let : (l : Lane) (n : Name) → onward_to u.onward v p e l n ≡ onward_to w.onward v p e l n
    unfolding onward_to
    onward_let (Held a q) n = ap (λ d. elim (Test v p a q) [ true ↦ e | false ↦ d ]) (same (Held a q) n)
    onward_let other n = same other n

    leads_let : (n : Name) → onward_to u.onward v p e (Held v p) n ≡ e
    unfolding onward_to
    leads_let n = ap (λ c. elim c [ true ↦ e | false ↦ u.onward (Held v p) n ]) (test_self v p)

    lets_go : SentOn Led Let v p e
    unfolding led_to emptied
    lets_go = record { leads = λ n. leads_let n; lanes = λ l n. inl (onward_let l n); stands = λ l i h. stands_let l i h }

-- ---- to nothing

module _ (script : Script) (honest : ℕ → Bool) (w : World) (v : ℕ) (r s : Vat Name) (p : Name) (y : Value Name) (at : slice_get w.vats v ≡ Some r) (g : SettlesHere (names script v) s (settled_to (names script v) s p y) p y v) where
  abbrev T : Vat Name
  T = settled_to (names script v) s p y

  abbrev E : Place
  E = aimed_at script v T y

  to_nothing : E ≡ Nowhere → IsReady (ways script honest (amid v s w)) v p E → KeepsBy (ways script honest (amid v s w)) (ways script honest (amid v T w)) (passed_by v p E)
  to_nothing e ready = let u = ways script honest (amid v s w) in
      settling_keeps script honest w v r s s T p y at g ready
      (lets_go u u v p E (λ l i h. h) (λ l n. refl) (λ i h. subst (Ahead (Let u u v p E (λ l j k. k) (λ l n. refl)) i.mail) (sym e) (doomed_there nowhere)))

pub settling_to_nothing_keeps : SettlingToNothingKeeps
settling_to_nothing_keeps = λ script honest w v r s p y at g e ready. to_nothing script honest w v r s p y at g e ready

-- ---- to what is here

unfoldable pub retargeted : Value Name → List (Message Name) → List (Message Name) → List (Message Name)
retargeted y q [] = q
retargeted y q (m ∷ ms) = retargeted y (q ++ record m { target = y } ∷ []) ms

module _ (K : Naming Name Name) (settle : Settler {N = Name} {W = Name} K) (p : Name) (y : Value Name) where
  -- in this vat p is followed to y, which is here
  abbrev LeadsHere : Vat Name → Type 0
  LeadsHere t = (refs.follow K t (Ref p) ≡ y) × (refs.place K t y ≡ Near)

  one_sent : (m : Message Name) (t : Vat Name) → m.target ≡ Ref p → LeadsHere t → refs.send_on K settle m t ≡ Gives tt (record t { queue = t.queue ++ record m { target = y } ∷ [] })
  unfolding refs.send_on state.◌>>=◌ state.and_then state.look refs.send_to state.enqueue
  one_sent m t e h = go (refs.follow K t m.target) (ap (λ z. refs.follow K t z) e ∙ h.0)
    where
      near : (z : refs.Place Name) → z ≡ Near → refs.send_to K settle m y z t ≡ Gives tt (record t { queue = t.queue ++ record m { target = y } ∷ [] })
      near z q = subst (λ c. refs.send_to K settle m y c t ≡ Gives tt (record t { queue = t.queue ++ record m { target = y } ∷ [] })) (sym q) refl

      go : (z : Value Name) → z ≡ y → refs.send_to K settle m z (refs.place K t z) t ≡ Gives tt (record t { queue = t.queue ++ record m { target = y } ∷ [] })
      go z q = subst (λ c. refs.send_to K settle m c (refs.place K t c) t ≡ Gives tt (record t { queue = t.queue ++ record m { target = y } ∷ [] })) (sym q) (near (refs.place K t y) h.1)

  still_here : (t : Vat Name) (q : List (Message Name)) → LeadsHere t → LeadsHere (record t { queue = q })
  unfolding refs.follow refs.severed refs.severed_at refs.severed_by refs.place refs.spotted
  still_here t q h = h

  pub all_sent : (ms : List (Message Name)) (t : Vat Name) → AllOn p ms → LeadsHere t → state.each (refs.send_on K settle) ms t ≡ Gives tt (record t { queue = retargeted y t.queue ms })
  unfolding state.each state.◌>>◌ state.and_then state.give retargeted
  all_sent [] t a h = refl
  all_sent (m ∷ ms) t a h = ap (λ d. state.and_then d (λ u. state.each (refs.send_on K settle) ms)) (one_sent m t a.0 h)
      ∙ all_sent ms (record t { queue = t.queue ++ record m { target = y } ∷ [] }) a.1 (still_here t (t.queue ++ record m { target = y } ∷ []) h)

-- ---- the queue grows

within_by : (x : Value Name) (m : Name) (js ks : List Item) → Within js ks → Within (elim x [ Ref n ↦ item m n ∷ js | _ ↦ js ]) (elim x [ Ref n ↦ item m n ∷ ks | _ ↦ ks ])
within_by (Ref n) m js ks f i (inl e) = inl e
within_by (Ref n) m js ks f i (inr h) = inr (f i h)
within_by other m js ks f i h = f i h

pub queued_more : (q : List (Message Name)) (m : Message Name) → Within (queued q) (queued (q ++ m ∷ []))
unfolding queued
queued_more [] m i h = absurd h
queued_more (o ∷ q) m i h = within_by o.target o.id (queued q) (queued (q ++ m ∷ [])) (queued_more q m) i h

behind : (x : Value Name) (i : Item) (m : Name) (js : List Item) → IsIn i js → IsIn i (elim x [ Ref n ↦ item m n ∷ js | _ ↦ js ])
behind (Ref n) i m js h = inr h
behind other i m js h = h

queued_end : (q : List (Message Name)) (m : Message Name) (n : Name) → m.target ≡ Ref n → IsIn (item m.id n) (queued (q ++ m ∷ []))
unfolding queued
queued_end [] m n e = subst (λ t. IsIn (item m.id n) (elim t [ Ref k ↦ item m.id k ∷ [] | _ ↦ [] ])) (sym e) (inl refl)
queued_end (o ∷ q) m n e = behind o.target (item m.id n) o.id (queued (q ++ m ∷ [])) (queued_end q m n e)

still_queued : (y : Value Name) (ms q : List (Message Name)) → Within (queued q) (queued (retargeted y q ms))
unfolding retargeted
still_queued y [] q i h = h
still_queued y (m ∷ ms) q i h = still_queued y ms (q ++ record m { target = y } ∷ []) i (queued_more q (record m { target = y }) i h)

comes_to_queue : (p n : Name) (ms q : List (Message Name)) (i : Item) → IsIn i (held_on p ms) → IsIn (record { mail = i.mail; aim = n }) (queued (retargeted (Ref n) q ms))
unfolding retargeted held_on
comes_to_queue p n [] q i h = absurd h
comes_to_queue p n (m ∷ ms) q i (inl e) = subst (λ z. IsIn (record { mail = z.mail; aim = n }) (queued (retargeted (Ref n) (q ++ record m { target = Ref n } ∷ []) ms))) (sym e) (still_queued (Ref n) ms (q ++ record m { target = Ref n } ∷ []) (item m.id n) (queued_end q (record m { target = Ref n }) n refl))
comes_to_queue p n (m ∷ ms) q i (inr h) = comes_to_queue p n ms (q ++ record m { target = Ref n } ∷ []) i h

-- ---- values that are here

module _ (K : Naming Name Name) (t : Vat Name) where
  own_spot : (n : Name) (q : Spot) → IsOwnSpot q → refs.severed_at K t n q ≡ Ref n
  unfolding refs.severed_at
  own_spot n (Own i) h = refl
  own_spot n other h = absurd h

  here_severed : (y : Value Name) → IsHere K y → refs.severed K t y ≡ y
  unfolding refs.severed
  here_severed (Ref n) h = own_spot n (K.spot n) h
  here_severed other h = refl

  own_near : (n : Name) (q : Spot) → IsOwnSpot q → refs.spotted K t n q ≡ Near
  unfolding refs.spotted
  own_near n (Own i) h = refl
  own_near n other h = absurd h

  here_near : (y : Value Name) → IsHere K y → refs.place K t y ≡ Near
  unfolding refs.place
  here_near (Ref n) h = own_near n (K.spot n) h
  here_near (Broken x) h = absurd h
  here_near other h = refl

module _ (script : Script) (honest : ℕ → Bool) (w : World) (v : ℕ) (r s : Vat Name) (p : Name) (y : Value Name) (k : Known Name) (at : slice_get w.vats v ≡ Some r) (g : SettlesHere (names script v) s (settled_to (names script v) s p y) p y v) (e : refs.entry_of (names script v) s.known p ≡ Some k) (here : IsHere (names script v) y) where
  abbrev K : Naming Name Name
  K = names script v

  abbrev Then : Vat Name
  Then = settled_to K s p y

  abbrev Aim : Place
  Aim = aimed_at script v Then y

  abbrev More : List (Message Name)
  More = retargeted y s.queue k.held

  -- the vat in the middle, as if the name had not settled
  abbrev Between : Vat Name
  Between = record s { queue = More }

  abbrev After : Vat Name
  After = record Then { queue = More }

  pub leads_here : LeadsHere K (λ q z. state.give tt) p y Then
  unfolding refs.follow
  leads_here = (ap (λ z. refs.severed K Then z) (follows_settled script honest v s Then p y g (length Then.known)) ∙ here_severed K Then y here, here_near K Then y here)

  pub aimed_here : Aim ≡ aimed v y Near
  unfolding aimed_at
  aimed_here = ap (λ z. aimed v z (refs.place K Then z)) (here_severed K Then y here) ∙ ap (λ q. aimed v y q) (here_near K Then y here)

  settles_after : SettlesHere K Between After p y v
  settles_after = record {
    only = record {
      number = g.only.number;
      gifts = g.only.gifts;
      noticed = g.only.noticed;
      queue = refl;
      outbox = g.only.outbox;
      names_known = g.only.names_known;
      before = g.only.before;
      after = g.only.after;
      others = g.only.others;
    };
    own = g.own;
    host = g.host;
    host_after = g.host_after;
    itself = g.itself;
    plain = g.plain;
    ended = g.ended;
    follows = record { objects = g.follows.objects; fixed = g.follows.fixed };
  }

  aimed_after : aimed_at script v After y ≡ Aim
  unfolding aimed_at refs.severed refs.severed_at refs.severed_by refs.place refs.spotted
  aimed_after = refl

  alike_then : RefersAlike K s Between
  alike_then = record { number = refl; gifts = refl; noticed = refl; names_known = refl; entries = λ n. entry_self n (refs.entry_of K s.known n) }

  abbrev Links : List Link
  Links = world.push_all v s.outbox w.links

  same_then : RefersSame script honest v s Between
  same_then = refers_same script honest v s Between alike_then

  abbrev W : Ways
  W = ways script honest (amid v s w)

  abbrev U : Ways
  U = ways script honest (amid v Between w)

  grown_then : (l : Lane) → Within (W.stands l) (U.stands l)
  unfolding ways ways_of amid
  grown_then l i h = stands_grow script honest w.vats Links Links (all_same Links) v s Between same_then (still_queued y k.held s.queue) l i h

  onward_then : (l : Lane) (n : Name) → U.onward l n ≡ W.onward l n
  unfolding ways ways_of amid
  onward_then l n = onward_same script honest w.vats Links Links (all_same Links) v s Between same_then l n

  abbrev Gone : Ways
  Gone = Let W U v p Aim grown_then onward_then

  held_before : (i : Item) → IsIn i (W.stands (Held v p)) → IsIn i (held_on p k.held)
  unfolding ways ways_of amid stands_at held_in
  held_before i h = subst (λ o. IsIn i (held_in p o)) e (subst (λ o. IsIn i (elim o [ Some q ↦ held_in p (refs.entry_of K q.known p) | None ↦ [] ])) (get_put w.vats v r s at) h)

  in_the_queue : (i : Item) → IsIn i (queued More) → IsIn i (Gone.stands (Queue v))
  unfolding ways ways_of amid stands_at emptied led_to without
  in_the_queue i h = subst (λ o. IsIn i (elim o [ Some q ↦ queued q.queue | None ↦ [] ])) (sym (get_put w.vats v r Between at)) h

  sent_by : (x : Value Name) → x ≡ y → (i : Item) → IsIn i (held_on p k.held) → Ahead Gone i.mail (aimed v x Near)
  unfolding aimed
  sent_by (Ref n) q i h = in_end (in_the_queue (record { mail = i.mail; aim = n }) (subst (λ z. IsIn (record { mail = i.mail; aim = n }) (queued (retargeted z s.queue k.held))) q (comes_to_queue p n k.held s.queue i h))) alike
  sent_by other q i h = doomed_there nowhere

  is_sent : (i : Item) → IsIn i (W.stands (Held v p)) → Ahead Gone i.mail Aim
  is_sent i h = subst (Ahead Gone i.mail) (sym aimed_here) (sent_by y refl i (held_before i h))

  pub here_keeps : IsReady W v p Aim → KeepsBy W (ways script honest (amid v After w)) (passed_by v p Aim)
  here_keeps ready = subst (λ c. IsReady W v p c → SentOn (led_to W v p c) (emptied (led_to U v p c) v p) v p c → KeepsBy W (ways script honest (amid v After w)) (passed_by v p c)) aimed_after
      (λ a b. settling_keeps script honest w v r s Between After p y at settles_after a b)
      ready (lets_go W U v p Aim grown_then onward_then is_sent)

  -- so is what comes to the end to which the name leads, behind all that was ahead there
  pub here_leads : IsReady W v p Aim → (n : Name) (l : Lane) (o : Name) → Aim ≡ End l o → StaysBehind W (ways script honest (amid v After w)) (W.onward (Held v p) n) (Mid l (W.stands l) o)
  here_leads ready n l o q = subst (λ c. IsReady W v p c → SentOn (led_to W v p c) (emptied (led_to U v p c) v p) v p c → c ≡ End l o → StaysBehind W (ways script honest (amid v After w)) (W.onward (Held v p) n) (Mid l (W.stands l) o)) aimed_after
      (λ a b i. settling_leads script honest w v r s Between After p y at settles_after a b n l o i)
      ready (lets_go W U v p Aim grown_then onward_then is_sent) q

  -- what the name held leads there
  pub here_onward : (n : Name) → (ways script honest (amid v After w)).onward (Held v p) n ≡ passed_by v p Aim Aim
  here_onward n = subst (λ c. (ways script honest (amid v After w)).onward (Held v p) n ≡ passed_by v p c c) aimed_after
      (let g0 = settled_is_passed script honest w v r Between After p y at settles_after in g0.lanes (Held v p) n ∙ ap (λ c. passed_by v p (aimed_at script v After y) c) (g0.leads n))

pub settling_here_keeps : SettlingHereKeeps
settling_here_keeps = λ script honest w v r s p y k settle at g e on here ready.
    let K = names script v in
    let t = settled_to K s p y in
    subst (λ d. IfGives (λ z. KeepsBy (ways script honest (amid v s w)) (ways script honest (amid v z w)) (passed_by v p (aimed_at script v t y))) d)
    (sym (all_sent K settle p y k.held t on (leads_here script honest w v r s p y k at g e here)))
    (here_keeps script honest w v r s p y k at g e here ready)
