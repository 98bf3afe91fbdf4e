-- As a name waits of which nothing was said, the ways only grow.
use Rattle.std.proofs.Common.{◌≡◌, ℕ, zero, suc, Bool, true, false, List, [], Option, Some, None, length, refl, sym, ap, subst, ◌∙◌, ◌⊎◌, inl, inr}
use Rattle.std.specs.Prelude.{codes, slice_get, ◌==◌}
use Rattle.def_machine.specs.Values.{Value, Broken, Ref, Name, Object, Naming, Spot, Own, Foreign, NoObject, host_of}
use Rattle.def_machine.specs.State.{Standing, Unsettled, WaitsOn, Viewed, Settled, Known, Vat, GiftEntry, is_in}
use Rattle.def_machine.specs.Refs as refs
use Rattle.def_run.specs.World.{Script, Link, World, names}
use Rattle.def_run.specs.World as world
use Rattle.law_order.specs.Ordering.Ways.{Lane, Queue, Held, Way, Item, Place, Nowhere, Free, End, IsIn, IsOneWay}
use Rattle.law_order.specs.Ordering.Changes.{Grows}
use Rattle.law_order.specs.Ordering.Turns.{Within}
use Rattle.law_order.specs.Ordering.Places.{queued, held_on, held_in, aimed, by_host, by_follow, of_name, leads_in, leads_at, leads, released, released_at, stands_at, over, onward_at, ways_of, ways, amid, is_honest}
use Rattle.law_order.specs.Ordering.Worlds.{IsWaiting}
use Rattle.law_order.specs.Ordering.Resolve.{StandsNear, OnlyWaits, WaitingKeeps}
use Rattle.law_order.specs.Ordering.Settlings.{IsLoose}
use Rattle.std.proofs.lemmas.List.{append-nil}
use Rattle.law_order.specs.Ordering.Messages.{More}
use Rattle.law_order.specs.Ordering.Steps.{LeadsAmid, Grown}
use Rattle.law_order.proofs.Ordering.Remaining.{kept_grown}
use Rattle.law_order.proofs.Ordering.Standing.{queue_more, held_more, way_more}
use Rattle.law_order.proofs.Ordering.OrderPassing.{Found, here, apart, none, found, waiting_same}

-- ---- following

module _ (K : Naming Name Name) (p : Name) (s t : Vat Name) (g : OnlyWaits K p s t) where
  host_alike : (v : ℕ) (n : Name) (o q : Option (Known Name)) → StandsNear p n o q → refs.host_in v q ≡ refs.host_in v o
  unfolding refs.host_in
  host_alike v n None None h = refl
  host_alike v n (Some j) (Some k) h = h.1
  host_alike v n other another h = absurd h

  hosts : (n : Name) → refs.host_at K t.number t.known n ≡ refs.host_at K s.number s.known n
  unfolding refs.host_at
  hosts n = host_alike t.number n (refs.entry_of K s.known n) (refs.entry_of K t.known n) (g.entries n) ∙ ap (λ v. refs.host_in v (refs.entry_of K s.known n)) g.number

  led_alike : (f h : Value Name → Value Name) → ((x : Value Name) → f x ≡ h x) → (n : Name) (q : Standing Name) → refs.led K f n q ≡ refs.led K h n q
  unfolding refs.led
  led_alike f h e n (Settled y) = e y
  led_alike f h e n (Viewed q) = e (Ref q)
  led_alike f h e n other = refl

  waits_here : (f : Value Name → Value Name) (n : Name) (q : Standing Name) → IsWaiting q → refs.led K f n q ≡ Ref n
  unfolding refs.led
  waits_here f n (Viewed q) h = absurd h
  waits_here f n (Settled y) h = absurd h
  waits_here f n other h = refl

  led_known : (f h : Value Name → Value Name) → ((x : Value Name) → f x ≡ h x) → (n : Name) (j k : Known Name) → (k.standing ≡ j.standing) ⊎ ((n ≡ p) × (j.standing ≡ Unsettled) × IsWaiting k.standing) → refs.led K f n k.standing ≡ refs.led K h n j.standing
  led_known f h e n j k (inl q) = led_alike f h e n k.standing ∙ ap (λ z. refs.led K h n z) q
  led_known f h e n j k (inr q) = waits_here f n k.standing q.2 ∙ sym (waits_here h n j.standing (subst IsWaiting (sym q.1) tt))

  led_near : (f h : Value Name → Value Name) → ((x : Value Name) → f x ≡ h x) → (n : Name) (a b : Option (Known Name)) → StandsNear p n a b → refs.led K f n (refs.standing_in b) ≡ refs.led K h n (refs.standing_in a)
  unfolding refs.standing_in refs.led
  led_near f h e n None None i = refl
  led_near f h e n (Some j) (Some k) i = led_known f h e n j k i.0
  led_near f h e n other another i = absurd i

  pub follows_alike : (d : ℕ) (x : Value Name) → refs.follow_at K d t.known x ≡ refs.follow_at K d s.known x
  unfolding refs.follow_at refs.standing_of
  follows_alike zero x = refl
  follows_alike (suc d) (Ref n) = led_near (λ y. refs.follow_at K d t.known y) (λ y. refs.follow_at K d s.known y) (λ y. follows_alike d y) n (refs.entry_of K s.known n) (refs.entry_of K t.known n) (g.entries n)
  follows_alike (suc d) other = refl

  severs : (h : ℕ) (n : Name) → refs.severed_by K h t n ≡ refs.severed_by K h s n
  unfolding refs.severed_by
  severs h n = ap (λ q. elim (is_in h q) [ true ↦ Broken (codes "partition") | false ↦ Ref n ]) g.noticed

  severed_spot : (n : Name) (q : Spot) → refs.severed_at K t n q ≡ refs.severed_at K s n q
  unfolding refs.severed_at
  severed_spot n (Own i) = refl
  severed_spot n (Foreign h) = severs h n
  severed_spot n NoObject = severs (refs.host_at K t.number t.known n) n ∙ ap (λ h. refs.severed_by K h s n) (hosts n)

  severed_alike : (y : Value Name) → refs.severed K t y ≡ refs.severed K s y
  unfolding refs.severed
  severed_alike (Ref n) = severed_spot n (K.spot n)
  severed_alike other = refl

  follow_alike : (x : Value Name) → refs.follow K t x ≡ refs.follow K s x
  unfolding refs.follow
  follow_alike x = severed_alike (refs.follow_at K (suc (length t.known)) t.known x) ∙ ap (λ y. refs.severed K s y) (follows_alike (suc (length t.known)) x ∙ ap (λ d. refs.follow_at K (suc d) s.known x) g.names_known)

  spot_alike : (n : Name) (q : Spot) → refs.spotted K t n q ≡ refs.spotted K s n q
  unfolding refs.spotted
  spot_alike n NoObject = ap (λ v. refs.hosted K v n (refs.host_at K t.number t.known n)) g.number ∙ ap (λ h. refs.hosted K s.number n h) (hosts n)
  spot_alike n other = refl

  place_alike : (y : Value Name) → refs.place K t y ≡ refs.place K s y
  unfolding refs.place
  place_alike (Ref n) = spot_alike n (K.spot n)
  place_alike other = refl

-- ---- where a reference leads

module _ (script : Script) (honest : ℕ → Bool) (v : ℕ) (p : Name) (s t : Vat Name) (g : OnlyWaits (names script v) p s t) where
  K : Naming Name Name
  K = names script v

  by_follow_alike : (x : Value Name) → by_follow script honest v t x ≡ by_follow script honest v s x
  unfolding by_follow K
  by_follow_alike x = ap (λ y. aimed v y (refs.place K t y)) (follow_alike K p s t g x) ∙ ap (λ q. aimed v (refs.follow K s x) q) (place_alike K p s t g (refs.follow K s x))

  by_host_alike : (n : Name) (h : ℕ) → by_host v t n h ≡ by_host v s n h
  unfolding by_host
  by_host_alike n h = ap (λ q. elim (is_in h q) [ true ↦ Nowhere | false ↦ elim (v == h) [ true ↦ End (Held v n) n | false ↦ End (Way v h) n ] ]) g.noticed

  of_name_alike : (n : Name) (o q : Option (Known Name)) → StandsNear p n o q → of_name script honest v t n q ≡ of_name script honest v s n o
  unfolding of_name
  of_name_alike (Object h i) o q e = by_follow_alike (Ref (Object h i))
  of_name_alike n None (Some k) e = absurd e
  of_name_alike n (Some j) None e = absurd e
  of_name_alike other None None e = by_host_alike other (host_of other)
  of_name_alike other (Some j) (Some k) e = by_follow_alike (Ref other)

  pub leads_near : (x : Value Name) → leads_in script honest v t x ≡ leads_in script honest v s x
  unfolding leads_in
  leads_near (Ref n) = of_name_alike n (refs.entry_of (names script v) s.known n) (refs.entry_of (names script v) t.known n) (g.entries n)
  leads_near other = by_follow_alike other

  held_near : (n : Name) (a b : Option (Known Name)) → StandsNear p n a b → Within (held_in n a) (held_in n b)
  unfolding held_in
  held_near n None None e = λ i h. h
  held_near n (Some j) (Some k) e = λ i h. subst (λ ms. IsIn i (held_on n ms)) (sym e.2) h
  held_near n other another e = absurd e

  abbrev SameOrP : Name → Type 0
  SameOrP n = (n ≡ p) ⊎ (refs.standing_of (names script v) t.known n ≡ refs.standing_of (names script v) s.known n)

  stood_near : (n : Name) (a b : Option (Known Name)) → StandsNear p n a b → (n ≡ p) ⊎ (refs.standing_in b ≡ refs.standing_in a)
  unfolding refs.standing_in
  stood_near n None None e = inr refl
  stood_near n (Some j) (Some k) e = go e.0
    where
      go : (k.standing ≡ j.standing) ⊎ ((n ≡ p) × (j.standing ≡ Unsettled) × IsWaiting k.standing) → (n ≡ p) ⊎ (k.standing ≡ j.standing)
      go (inl q) = inr q
      go (inr q) = inl q.0
  stood_near n other another e = absurd e

  same_or_p : (n : Name) → SameOrP n
  unfolding refs.standing_of
  same_or_p n = stood_near n (refs.entry_of (names script v) s.known n) (refs.entry_of (names script v) t.known n) (g.entries n)

-- ---- the ways

module _ (script : Script) (honest : ℕ → Bool) (vs : List (Vat Name)) (ls : List Link) (v : ℕ) (p : Name) (s t : Vat Name) (g : OnlyWaits (names script v) p s t) where
  abbrev Vats : List (Vat Name)
  Vats = world.put_at v s vs

  abbrev Vats' : List (Vat Name)
  Vats' = world.put_at v t vs

  leads_found : (u : ℕ) (x : Value Name) → Found v s t vs u → leads_at script honest u (slice_get Vats' u) x ≡ leads_at script honest u (slice_get Vats u) x
  unfolding leads_at
  leads_found u x (here e i j) = ap (λ o. leads_at script honest u o x) j ∙ subst (λ z. leads_in script honest z t x ≡ leads_in script honest z s x) (sym e) (leads_near script honest v p s t g x) ∙ sym (ap (λ o. leads_at script honest u o x) i)
  leads_found u x (apart e i) = ap (λ o. leads_at script honest u o x) i
  leads_found u x (none i j) = ap (λ o. leads_at script honest u o x) j ∙ sym (ap (λ o. leads_at script honest u o x) i)

  leads_same : (u : ℕ) (x : Value Name) → leads script honest Vats' ls u x ≡ leads script honest Vats ls u x
  unfolding leads
  leads_same u x = leads_found u x (found v s t vs u)

  released_same : (u : ℕ) (n : Name) (gs : List (GiftEntry Name)) (q : Standing Name) → released script honest Vats' ls u n gs q ≡ released script honest Vats ls u n gs q
  unfolding released
  released_same u n gs Unsettled = waiting_same script honest Vats' Vats ls u n gs
  released_same u n gs (WaitsOn z) = leads_same u (Ref z)
  released_same u n gs (Viewed z) = leads_same u (Ref z)
  released_same u n gs (Settled z) = leads_same u z

  released_vat : (u : ℕ) (n : Name) (o : Option (Vat Name)) → released_at script honest Vats' ls u n o ≡ released_at script honest Vats ls u n o
  unfolding released_at
  released_vat u n (Some q) = released_same u n q.gifts (refs.standing_of (names script u) q.known n)
  released_vat u n None = refl

  released_mine : (n : Name) → refs.standing_of (names script v) t.known n ≡ refs.standing_of (names script v) s.known n → released_at script honest Vats' ls v n (Some t) ≡ released_at script honest Vats ls v n (Some s)
  unfolding released_at
  released_mine n e = ap (λ gs. released script honest Vats' ls v n gs (refs.standing_of (names script v) t.known n)) g.gifts
      ∙ ap (λ q. released script honest Vats' ls v n s.gifts q) e
      ∙ released_same v n s.gifts (refs.standing_of (names script v) s.known n)

  -- as it was, or it is p
  abbrev Onward : ℕ → Name → Type 0
  Onward u n = (released_at script honest Vats' ls u n (slice_get Vats' u) ≡ released_at script honest Vats ls u n (slice_get Vats u)) ⊎ ((u ≡ v) × (n ≡ p))

  released_here : (u : ℕ) (n : Name) → u ≡ v → slice_get Vats u ≡ Some s → slice_get Vats' u ≡ Some t → (n ≡ p) ⊎ (refs.standing_of (names script v) t.known n ≡ refs.standing_of (names script v) s.known n) → Onward u n
  released_here u n e i j (inl q) = inr (e, q)
  released_here u n e i j (inr q) = inl (ap (λ o. released_at script honest Vats' ls u n o) j
      ∙ subst (λ z. released_at script honest Vats' ls z n (Some t) ≡ released_at script honest Vats ls z n (Some s)) (sym e) (released_mine n q)
      ∙ sym (ap (λ o. released_at script honest Vats ls u n o) i))

  released_found : (u : ℕ) (n : Name) → Found v s t vs u → Onward u n
  released_found u n (here e i j) = released_here u n e i j (same_or_p script honest v p s t g n)
  released_found u n (apart e i) = inl (ap (λ o. released_at script honest Vats' ls u n o) i ∙ released_vat u n (slice_get Vats u))
  released_found u n (none i j) = inl (ap (λ o. released_at script honest Vats' ls u n o) j ∙ released_vat u n None ∙ sym (ap (λ o. released_at script honest Vats ls u n o) i))

  abbrev OverBy : List (Vat Name) → Bool → Bool → ℕ → Name → Place
  OverBy rs c d b n = elim c [ true ↦ elim d [ true ↦ Nowhere | false ↦ leads script honest rs ls b (Ref n) ] | false ↦ Free ]

  over_bools : (c d : Bool) (b : ℕ) (n : Name) → OverBy Vats' c d b n ≡ OverBy Vats c d b n
  over_bools true false b n = leads_same b (Ref n)
  over_bools other another b n = refl

  abbrev WayOf : List (Vat Name) → ℕ → Name → Option Link → Place
  WayOf rs b n o = elim o [ Some l ↦ over script honest rs ls b n l | None ↦ Nowhere ]

  way_same : (b : ℕ) (n : Name) (o : Option Link) → WayOf Vats' b n o ≡ WayOf Vats b n o
  unfolding over
  way_same b n (Some l) = over_bools (is_honest script honest l) l.cut b n
  way_same b n None = refl

  module _ (loose : (n : Name) → onward_at script honest Vats ls (Held v p) n ≡ Free) where
    held_loose : (u : ℕ) (q n : Name) → Onward u q → (onward_at script honest Vats' ls (Held u q) n ≡ onward_at script honest Vats ls (Held u q) n) ⊎ (Unit {0} × (onward_at script honest Vats ls (Held u q) n ≡ Free))
    unfolding onward_at
    held_loose u q n (inl e) = inl e
    held_loose u q n (inr e) = inr (tt, subst (λ z. released_at script honest Vats ls z q (slice_get Vats z) ≡ Free) (sym e.0) (subst (λ z. released_at script honest Vats ls v z (slice_get Vats v) ≡ Free) (sym e.1) (loose n)))

    lanes_grow : (l : Lane) (n : Name) → (onward_at script honest Vats' ls l n ≡ onward_at script honest Vats ls l n) ⊎ (IsOneWay l × (onward_at script honest Vats ls l n ≡ Free))
    unfolding onward_at
    lanes_grow (Queue u) n = inl refl
    lanes_grow (Held u q) n = held_loose u q n (released_found u q (found v s t vs u))
    lanes_grow (Way a b) n = inl (way_same b n (world.link_at a b ls))

    abbrev HeldOf : ℕ → Name → Option (Vat Name) → List Item
    HeldOf u n o = elim o [ Some q ↦ held_in n (refs.entry_of (names script u) q.known n) | None ↦ [] ]

    abbrev QueueOf : Option (Vat Name) → List Item
    QueueOf o = elim o [ Some q ↦ queued q.queue | None ↦ [] ]

    held_found : (u : ℕ) (n : Name) (i : Item) → Found v s t vs u → IsIn i (HeldOf u n (slice_get Vats u)) → IsIn i (HeldOf u n (slice_get Vats' u))
    held_found u n i (here e a b) h = subst (λ o. IsIn i (HeldOf u n o)) (sym b) (subst (λ z. IsIn i (HeldOf z n (Some t))) (sym e) (held_near script honest v p s t g n (refs.entry_of (names script v) s.known n) (refs.entry_of (names script v) t.known n) (g.entries n) i (subst (λ z. IsIn i (HeldOf z n (Some s))) e (subst (λ o. IsIn i (HeldOf u n o)) a h))))
    held_found u n i (apart e a) h = subst (λ o. IsIn i (HeldOf u n o)) (sym a) h
    held_found u n i (none a b) h = absurd (subst (λ o. IsIn i (HeldOf u n o)) a h)

    queue_found : (u : ℕ) (i : Item) → Found v s t vs u → IsIn i (QueueOf (slice_get Vats u)) → IsIn i (QueueOf (slice_get Vats' u))
    queue_found u i (here e a b) h = subst (λ o. IsIn i (QueueOf o)) (sym b) (subst (λ q. IsIn i (queued q)) (sym g.queue) (subst (λ o. IsIn i (QueueOf o)) a h))
    queue_found u i (apart e a) h = subst (λ o. IsIn i (QueueOf o)) (sym a) h
    queue_found u i (none a b) h = absurd (subst (λ o. IsIn i (QueueOf o)) a h)

    stands_grow : (l : Lane) (i : Item) → IsIn i (stands_at script honest Vats ls l) → IsIn i (stands_at script honest Vats' ls l)
    unfolding stands_at
    stands_grow (Queue u) i h = queue_found u i (found v s t vs u) h
    stands_grow (Held u n) i h = held_found u n i (found v s t vs u) h
    stands_grow (Way a b) i h = h

    waiting_grows : Grows (ways_of script honest Vats ls) (ways_of script honest Vats' ls)
    unfolding ways_of
    waiting_grows = record { stands = λ l i h. stands_grow l i h; onward = λ l n. lanes_grow l n }

grows_amid : (script : Script) (honest : ℕ → Bool) (w : World) (v : ℕ) (s t : Vat Name) (p : Name) → OnlyWaits (names script v) p s t → IsLoose script honest w v p s → Grows (ways script honest (amid v s w)) (ways script honest (amid v t w))
unfolding ways ways_of amid
grows_amid script honest w v s t p g loose =
    subst (λ ps. Grows (ways_of script honest (world.put_at v s w.vats) (world.push_all v s.outbox w.links)) (ways_of script honest (world.put_at v t w.vats) (world.push_all v ps w.links))) (sym g.outbox)
    (waiting_grows script honest w.vats (world.push_all v s.outbox w.links) v p s t g loose)

module _ (script : Script) (honest : ℕ → Bool) (w : World) (v : ℕ) (s t : Vat Name) (p : Name) (g : OnlyWaits (names script v) p s t) where
  leads_waiting : (u : ℕ) (x : Value Name) → LeadsAmid script honest w v t u x ≡ LeadsAmid script honest w v s u x
  unfolding amid leads
  leads_waiting u x = leads_found script honest w.vats (world.push_all v s.outbox w.links) v p s t g u x (found v s t w.vats u)

  held_by : (n : Name) (a b : Option (Known Name)) → StandsNear p n a b → held_in n b ≡ held_in n a
  unfolding held_in
  held_by n None None e = refl
  held_by n (Some j) (Some k) e = ap (λ ms. held_on n ms) e.2
  held_by n other another e = absurd e

  more_waiting : (l : Lane) → More (ways script honest (amid v s w)) (ways script honest (amid v t w)) l
  more_waiting (Queue u) = queue_more script honest w v s t u (λ e. ([], ap (λ q. queued q) g.queue ∙ sym (append-nil (queued s.queue))))
  more_waiting (Held u n) = held_more script honest w v s t u n (λ e. ([], held_by n (refs.entry_of (names script v) s.known n) (refs.entry_of (names script v) t.known n) (g.entries n) ∙ sym (append-nil (held_in n (refs.entry_of (names script v) s.known n)))))
  more_waiting (Way a b) = way_more script honest w v s t [] (g.outbox ∙ sym (append-nil s.outbox)) a b

  pub waiting_grown : IsLoose script honest w v p s → Grown script honest w v s t
  waiting_grown loose = record { grows = grows_amid script honest w v s t p g loose; more = λ l. more_waiting l; leading = λ u x. leads_waiting u x }

pub waiting_keeps : WaitingKeeps
waiting_keeps = λ script honest w v s t p g loose. kept_grown script honest w v s t (waiting_grown script honest w v s t p g loose)
