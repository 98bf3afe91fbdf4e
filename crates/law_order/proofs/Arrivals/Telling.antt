-- As a vat is told of a name of another vat, each thing keeps its order.
use Rattle.std.proofs.Common.{◌≡◌, ℕ, suc, Bool, true, false, List, [], Option, Some, None, length, refl, sym, ap, subst, ◌∙◌, ◌⊎◌, inl, inr, eqb-true}
use Rattle.std.proofs.lemmas.List.{append-nil}
use Rattle.std.proofs.lemmas.Bool.{ne_eqb}
use Rattle.std.specs.Prelude.{slice_get, not, ◌&&◌}
use Rattle.def_machine.specs.Values.{Value, Ref, Name, Gift, Naming, host_of}
use Rattle.def_machine.specs.State.{Standing, Unsettled, WaitsOn, Viewed, Settled, Known, GiftEntry, Vat}
use Rattle.def_machine.specs.Refs as refs
use Rattle.def_run.specs.World.{Script, Link, World, names}
use Rattle.def_run.specs.World as world
use Rattle.law_order.specs.Ordering.Ways.{Lane, Queue, Held, Way, Place, Nowhere, Free, End, Mid, Ways, IsIn, IsOneWay}
use Rattle.law_order.specs.Ordering.Turns.{Reroutes, stays_so, said_now}
use Rattle.law_order.specs.Ordering.Messages.{More, StaysBehind}
use Rattle.law_order.specs.Ordering.Places.{queued, held_on, held_in, opened_there, is_honest, gift_place, by_follow, of_name, leads_in, leads_at, leads, unsettled, released, released_at, stands_at, over, onward_at, ways_of, ways, amid}
use Rattle.law_order.specs.Ordering.Worlds.{IsObject}
use Rattle.law_order.specs.Ordering.Settle.{aimed_at}
use Rattle.law_order.specs.Ordering.Steps.{WaysAmid, LeadsAmid}
use Rattle.law_order.proofs.Ordering.Named.{Test, test_is}
use Rattle.law_order.proofs.Ordering.OrderPassing.{Found, here, apart, none, found, waiting_same}
use Rattle.law_order.proofs.Ordering.Pushing.{within_more}
use Rattle.law_order.proofs.Ordering.Sends.{some_same, none_some, get_put}
use Rattle.law_order.proofs.Ordering.Settled.{is_object}
use Rattle.law_order.proofs.Ordering.Settled as old
use Rattle.law_order.proofs.Ordering.Standing.{stands_more, queue_more, held_more, way_more}
use Rattle.law_order.specs.Arrivals.Tellings.{owned, LinksBring, HostsAreTold, IsOwnEnd, IsTidy, IsRetold, told_by, StandsSo, IsToldOf, KeepsTold, ToldNamesLead, ToldNamesKeep}
use Rattle.law_order.proofs.Arrivals.Retold.{retelling_keeps}
use Rattle.law_order.proofs.Arrivals.Told.{tells_nowhere, is_name, others_stand, stood, value_stays, unknown_stays, of_some, of_object, of_none, object_there, leads_on, far_stays}
use Rattle.law_order.proofs.Arrivals.Tidy.{IsGood, leads_good, onward_good, items_good}

-- ---- entries

none_back : (a b : Option (Known Name)) → StandsSo a b → b ≡ None → a ≡ None
none_back None b i e = refl
none_back (Some j) None i e = absurd i
none_back (Some j) (Some k) i e = none_some k (sym e)

some_back : (a b : Option (Known Name)) (k : Known Name) → StandsSo a b → b ≡ Some k → (j : Known Name) × (a ≡ Some j) × (k.host ≡ j.host)
some_back None None k i e = none_some k e
some_back (Some j) (Some q) k i e = (j, refl, ap (λ z. z.host) (sym (some_same q k e)) ∙ i.1)
some_back other another k i e = absurd i

held_so : (m : Name) (a b : Option (Known Name)) → StandsSo a b → held_in m b ≡ held_in m a
unfolding held_in
held_so m None None i = refl
held_so m (Some j) (Some k) i = ap (λ ms. held_on m ms) i.2
held_so m other another i = absurd i

module _ (script : Script) (honest : ℕ → Bool) (w : World) (v h : ℕ) (r s t : Vat Name) (n : Name) (y : Value Name) (at : slice_get w.vats v ≡ Some r) (tidy : IsTidy script honest w v s) (g : IsToldOf script v h s t n y) where
  abbrev K : Naming Name Name
  K = names script v

  abbrev Vats : List (Vat Name)
  Vats = world.put_at v s w.vats

  abbrev Vats' : List (Vat Name)
  Vats' = world.put_at v t w.vats

  abbrev Links : List Link
  Links = world.push_all v s.outbox w.links

  abbrev E : Place
  E = aimed_at script v t y

  abbrev F : Place → Place
  F = told_by v n E

  abbrev W : Ways
  W = WaysAmid script honest w v s

  abbrev U : Ways
  U = WaysAmid script honest w v t

  abbrev Hosts : List (Vat Name) → Type 0
  Hosts vs = (u : ℕ) (q : Vat Name) → slice_get vs u ≡ Some q → HostsAreTold (names script u) q

  pub hosts : Hosts Vats
  unfolding amid
  hosts = tidy.hosts

  pub bring : LinksBring honest Links
  unfolding amid
  bring = tidy.links

  pub mine : HostsAreTold K s
  mine = hosts v s (get_put w.vats v r s at)

  -- ---- where references lead

  leads_found : (u : ℕ) (x : Value Name) → Found v s t w.vats u → leads_at script honest u (slice_get Vats' u) x ≡ F (leads_at script honest u (slice_get Vats u) x)
  unfolding leads_at
  leads_found u x (here e i j) = ap (λ o. leads_at script honest u o x) j ∙ subst (λ z. leads_in script honest z t x ≡ F (leads_in script honest z s x)) (sym e) (leads_on script honest v h s t n y mine g x) ∙ sym (ap (λ o. F (leads_at script honest u o x)) i)
  leads_found u x (apart e i) = ap (λ o. leads_at script honest u o x) i ∙ sym (stay (slice_get Vats u) refl)
    where
      stay : (o : Option (Vat Name)) → slice_get Vats u ≡ o → F (leads_at script honest u o x) ≡ leads_at script honest u o x
      stay (Some q) k = far_stays script honest v n E u q (hosts u q k) e x
      stay None k = tells_nowhere v n E
  leads_found u x (none i j) = ap (λ o. leads_at script honest u o x) j ∙ sym (ap (λ o. F (leads_at script honest u o x)) i ∙ tells_nowhere v n E)

  pub leads_told : (u : ℕ) (x : Value Name) → leads script honest Vats' Links u x ≡ F (leads script honest Vats Links u x)
  unfolding leads
  leads_told u x = leads_found u x (found v s t w.vats u)

  pub leads_amid : (u : ℕ) (x : Value Name) → LeadsAmid script honest w v t u x ≡ F (LeadsAmid script honest w v s u x)
  unfolding leads amid
  leads_amid u x = leads_found u x (found v s t w.vats u)

  -- ---- the vat's own names lead where they led

  follow_stays : (x : Value Name) → (refs.follow_at K (suc (length s.known)) s.known x ≡ Ref n → ⊥) → F (by_follow script honest v s x) ≡ by_follow script honest v s x
  unfolding by_follow refs.follow
  follow_stays x away = value_stays script honest v h s t n y mine g (refs.follow_at K (suc (length s.known)) s.known x) away

  not_own : IsOwnEnd v (Ref n) → ⊥
  not_own (inl i) = g.plain i
  not_own (inr e) = g.other (sym g.host ∙ e)

  known_away : (m : Name) (k : Known Name) → refs.entry_of K s.known m ≡ Some k → host_of m ≡ v → refs.follow_at K (suc (length s.known)) s.known (Ref m) ≡ Ref n → ⊥
  known_away m k e i q = not_own (subst (IsOwnEnd v) q (tidy.own m k e i))

  not_told : (m : Name) → host_of m ≡ v → m ≡ n → ⊥
  not_told m i e = g.other (sym g.host ∙ ap (λ z. host_of z) (sym e) ∙ i)

  object_away : (m : Name) → IsObject m → host_of m ≡ v → refs.follow_at K (suc (length s.known)) s.known (Ref m) ≡ Ref n → ⊥
  object_away m i e q = not_told m e (old.ref_same m n (sym (object_there script honest v h s t n y mine g (suc (length s.known)) s.known m (none_back (refs.entry_of K s.known m) (refs.entry_of K t.known m) (g.only.others m (not_told m e)) (g.follows.objects m i))) ∙ q))

  name_stays : (m : Name) (o : Option (Known Name)) → refs.entry_of K s.known m ≡ o → host_of m ≡ v → IsObject m ⊎ (IsObject m → ⊥) → F (of_name script honest v s m o) ≡ of_name script honest v s m o
  name_stays m o e i (inl j) = ap F (of_object script honest v h s t n y mine g s m o j) ∙ follow_stays (Ref m) (object_away m j i) ∙ sym (of_object script honest v h s t n y mine g s m o j)
  name_stays m (Some k) e i (inr j) = ap F (of_some script honest v h s t n y mine g s m k) ∙ follow_stays (Ref m) (known_away m k e i) ∙ sym (of_some script honest v h s t n y mine g s m k)
  name_stays m None e i (inr j) = ap F (of_none script honest v h s t n y mine g s m j) ∙ unknown_stays script honest v h s t n y mine g m (not_told m i) ∙ sym (of_none script honest v h s t n y mine g s m j)

  pub own_stays : (m : Name) → host_of m ≡ v → F (leads_in script honest v s (Ref m)) ≡ leads_in script honest v s (Ref m)
  unfolding leads_in
  own_stays m e = name_stays m (refs.entry_of K s.known m) refl e (is_object m)

  stays_own : (b : ℕ) (m : Name) → host_of m ≡ b → Found v s t w.vats b → F (leads_at script honest b (slice_get Vats b) (Ref m)) ≡ leads_at script honest b (slice_get Vats b) (Ref m)
  unfolding leads_at
  stays_own b m k (here e i j) = ap (λ o. F (leads_at script honest b o (Ref m))) i ∙ subst (λ z. F (leads_in script honest z s (Ref m)) ≡ leads_in script honest z s (Ref m)) (sym e) (own_stays m (k ∙ e)) ∙ sym (ap (λ o. leads_at script honest b o (Ref m)) i)
  stays_own b m k (apart e i) = stay (slice_get Vats b) refl
    where
      stay : (o : Option (Vat Name)) → slice_get Vats b ≡ o → F (leads_at script honest b o (Ref m)) ≡ leads_at script honest b o (Ref m)
      stay (Some q) l = far_stays script honest v n E b q (hosts b q l) e (Ref m)
      stay None l = tells_nowhere v n E
  stays_own b m k (none i j) = ap (λ o. F (leads_at script honest b o (Ref m))) i ∙ tells_nowhere v n E ∙ sym (ap (λ o. leads_at script honest b o (Ref m)) i)

  pub leads_own : (b : ℕ) (m : Name) → host_of m ≡ b → leads script honest Vats' Links b (Ref m) ≡ leads script honest Vats Links b (Ref m)
  unfolding leads
  leads_own b m e = leads_found b (Ref m) (found v s t w.vats b) ∙ stays_own b m e (found v s t w.vats b)

  abbrev OverBy : List (Vat Name) → Bool → Bool → ℕ → Name → Place
  OverBy vs c d b m = elim c [ true ↦ elim d [ true ↦ Nowhere | false ↦ leads script honest vs Links b (Ref m) ] | false ↦ Free ]

  over_own : (b : ℕ) (m : Name) → host_of m ≡ b → (c d : Bool) → OverBy Vats' c d b m ≡ OverBy Vats c d b m
  over_own b m e true false = leads_own b m e
  over_own b m e other another = refl

  abbrev WayOf : List (Vat Name) → ℕ → Name → Option Link → Place
  WayOf vs b m o = elim o [ Some l ↦ over script honest vs Links b m l | None ↦ Nowhere ]

  way_own : (b : ℕ) (m : Name) → host_of m ≡ b → (o : Option Link) → WayOf Vats' b m o ≡ WayOf Vats b m o
  unfolding over
  way_own b m e (Some l) = over_own b m e (is_honest script honest l) l.cut
  way_own b m e None = refl

  links_own : (a b : ℕ) (m : Name) → host_of m ≡ b → onward_at script honest Vats' Links (Way a b) m ≡ onward_at script honest Vats Links (Way a b) m
  unfolding onward_at
  links_own a b m e = way_own b m e (world.link_at a b Links)

  -- ---- the hosts that are known then

  told_hosts : HostsAreTold K t
  told_hosts m k e = go (is_name m n)
    where
      go : (m ≡ n) ⊎ (m ≡ n → ⊥) → k.host ≡ host_of m
      go (inl q) = ap (λ z. z.host) (some_same k g.only.after (sym e ∙ subst (λ z. refs.entry_of K t.known z ≡ Some g.only.after) (sym q) g.only.found_then)) ∙ g.only.host ∙ mine n g.only.before g.only.found ∙ ap (λ z. host_of z) (sym q)
      go (inr i) = let j = some_back (refs.entry_of K s.known m) (refs.entry_of K t.known m) k (g.only.others m i) e in j.2 ∙ mine m j.0 j.1

  pub hosts_then : Hosts Vats'
  hosts_then u q e = go (found v s t w.vats u)
    where
      go : Found v s t w.vats u → HostsAreTold (names script u) q
      go (here a i j) = subst (λ z. HostsAreTold (names script z) q) (sym a) (subst (λ z. HostsAreTold K z) (some_same t q (sym j ∙ e)) told_hosts)
      go (apart a i) = hosts u q (sym i ∙ e)
      go (none i j) = none_some q (sym j ∙ e)

  -- ---- the ways

  pub onward_is : (l : Lane) (m : Name) → W.onward l m ≡ onward_at script honest Vats Links l m
  unfolding ways ways_of amid
  onward_is l m = refl

  pub onward_then : (l : Lane) (m : Name) → U.onward l m ≡ onward_at script honest Vats' Links l m
  unfolding ways ways_of amid
  onward_then l m = ap (λ ps. onward_at script honest Vats' (world.push_all v ps w.links) l m) g.only.outbox

  stands_is : (l : Lane) → W.stands l ≡ stands_at script honest Vats Links l
  unfolding ways ways_of amid
  stands_is l = refl

  stands_then : (l : Lane) → U.stands l ≡ stands_at script honest Vats' Links l
  unfolding ways ways_of amid
  stands_then l = ap (λ ps. stands_at script honest Vats' (world.push_all v ps w.links) l) g.only.outbox

  held_same : (m : Name) → (m ≡ n) ⊎ (m ≡ n → ⊥) → held_in m (refs.entry_of K t.known m) ≡ held_in m (refs.entry_of K s.known m)
  unfolding held_in
  held_same m (inl q) = subst (λ z. held_in m (refs.entry_of K t.known z) ≡ held_in m (refs.entry_of K s.known z)) (sym q) (ap (λ o. held_in m o) g.only.found_then ∙ ap (λ ms. held_on m ms) g.only.held ∙ sym (ap (λ o. held_in m o) g.only.found))
  held_same m (inr i) = held_so m (refs.entry_of K s.known m) (refs.entry_of K t.known m) (g.only.others m i)

  more : (l : Lane) → More W U l
  more (Queue u) = queue_more script honest w v s t u (λ e. ([], ap (λ q. queued q) g.only.queue ∙ sym (append-nil (queued s.queue))))
  more (Held u m) = held_more script honest w v s t u m (λ e. ([], held_same m (is_name m n) ∙ sym (append-nil (held_in m (refs.entry_of K s.known m)))))
  more (Way a b) = way_more script honest w v s t [] (g.only.outbox ∙ sym (append-nil s.outbox)) a b

  module _ (reroute : Reroutes W U (End (Way v h) n) E) where
    way_turns : (a b : ℕ) (m : Name) (c : Bool) → Test v n a m ≡ c → owned (Way a b) m ≡ true → Reroutes W U (End (Way a b) m) (elim c [ true ↦ E | false ↦ End (Way a b) m ])
    unfolding owned
    way_turns a b m true e i =
        let k = test_is v n a m e in
        let to : b ≡ h = sym (eqb-true (host_of m) b i) ∙ ap (λ z. host_of z) k.1 ∙ g.host in
        subst (λ z. Reroutes W U (End (Way z b) m) E) (sym k.0) (subst (λ z. Reroutes W U (End (Way v z) m) E) (sym to) (subst (λ z. Reroutes W U (End (Way v h) z) E) (sym k.1) reroute))
    way_turns a b m false e i = stays_so

    place_turns : (c : Place) → IsGood c → Reroutes W U c (F c)
    unfolding told_by
    place_turns (End (Way a b) m) i = way_turns a b m (Test v n a m) refl i
    place_turns other i = stays_so

    pub leads_turn : (u : ℕ) (x : Value Name) → Reroutes W U (leads script honest Vats Links u x) (leads script honest Vats' Links u x)
    leads_turn u x = subst (λ d. Reroutes W U (leads script honest Vats Links u x) d) (sym (leads_told u x)) (place_turns (leads script honest Vats Links u x) (leads_good script honest Vats Links hosts bring u x))

    released_turns : (u : ℕ) (q : Name) (gs : List (GiftEntry Name)) (z : Standing Name) → Reroutes W U (released script honest Vats Links u q gs z) (released script honest Vats' Links u q gs z)
    unfolding released
    released_turns u q gs Unsettled = subst (λ d. Reroutes W U (unsettled script honest Vats Links u q gs) d) (waiting_same script honest Vats Vats' Links u q gs) stays_so
    released_turns u q gs (WaitsOn z) = leads_turn u (Ref z)
    released_turns u q gs (Viewed z) = leads_turn u (Ref z)
    released_turns u q gs (Settled z) = leads_turn u z

    loose : (m : Name) → host_of m ≡ h → (gs : List (GiftEntry Name)) → unsettled script honest Vats Links v m gs ≡ Free
    unfolding unsettled host_of
    loose (Gift d i) e gs = ap (λ c. elim (c && not (opened_there (Gift d i) gs)) [ true ↦ gift_place script honest d i Links | false ↦ Free ]) (ne_eqb d v (λ q. g.other (sym e ∙ q)))
    loose other e gs = refl

    loose_there : released script honest Vats Links v n s.gifts (refs.standing_of K s.known n) ≡ Free
    unfolding released
    loose_there = ap (λ z. released script honest Vats Links v n s.gifts z) (stood script honest v h s t n y mine g) ∙ loose n g.host s.gifts

    here_turns : (q : Name) → (q ≡ n) ⊎ (q ≡ n → ⊥) → Reroutes W U (released_at script honest Vats Links v q (Some s)) (released_at script honest Vats' Links v q (Some t))
    unfolding released_at
    here_turns q (inl e) = subst (λ z. Reroutes W U (released script honest Vats Links v z s.gifts (refs.standing_of K s.known z)) (released script honest Vats' Links v z t.gifts (refs.standing_of K t.known z))) (sym e) (subst (λ c. Reroutes W U c (released script honest Vats' Links v n t.gifts (refs.standing_of K t.known n))) (sym loose_there) said_now)
    here_turns q (inr i) = let c = released script honest Vats Links v q s.gifts (refs.standing_of K s.known q) in
        subst (λ gs. Reroutes W U c (released script honest Vats' Links v q gs (refs.standing_of K t.known q))) (sym g.only.gifts)
        (subst (λ z. Reroutes W U c (released script honest Vats' Links v q s.gifts z)) (sym (others_stand script honest v h s t n y mine g q i)) (released_turns v q s.gifts (refs.standing_of K s.known q)))

    vat_turns : (u : ℕ) (q : Name) (o : Option (Vat Name)) → Reroutes W U (released_at script honest Vats Links u q o) (released_at script honest Vats' Links u q o)
    unfolding released_at
    vat_turns u q (Some z) = released_turns u q z.gifts (refs.standing_of (names script u) z.known q)
    vat_turns u q None = stays_so

    held_turns : (u : ℕ) (q : Name) → Found v s t w.vats u → Reroutes W U (released_at script honest Vats Links u q (slice_get Vats u)) (released_at script honest Vats' Links u q (slice_get Vats' u))
    held_turns u q (here e i j) = subst (λ o. Reroutes W U (released_at script honest Vats Links u q o) (released_at script honest Vats' Links u q (slice_get Vats' u))) (sym i)
        (subst (λ o. Reroutes W U (released_at script honest Vats Links u q (Some s)) (released_at script honest Vats' Links u q o)) (sym j)
        (subst (λ z. Reroutes W U (released_at script honest Vats Links z q (Some s)) (released_at script honest Vats' Links z q (Some t))) (sym e) (here_turns q (is_name q n))))
    held_turns u q (apart e i) = subst (λ o. Reroutes W U (released_at script honest Vats Links u q (slice_get Vats u)) (released_at script honest Vats' Links u q o)) (sym i) (vat_turns u q (slice_get Vats u))
    held_turns u q (none i j) = subst (λ o. Reroutes W U (released_at script honest Vats Links u q o) (released_at script honest Vats' Links u q (slice_get Vats' u))) (sym i)
        (subst (λ o. Reroutes W U (released_at script honest Vats Links u q None) (released_at script honest Vats' Links u q o)) (sym j) (vat_turns u q None))

    over_turns : (b : ℕ) (m : Name) (c d : Bool) → Reroutes W U (OverBy Vats c d b m) (OverBy Vats' c d b m)
    over_turns b m true false = leads_turn b (Ref m)
    over_turns b m other another = stays_so

    way_of_turns : (b : ℕ) (m : Name) (o : Option Link) → Reroutes W U (WayOf Vats b m o) (WayOf Vats' b m o)
    unfolding over
    way_of_turns b m (Some l) = over_turns b m (is_honest script honest l) l.cut
    way_of_turns b m None = stays_so

    -- what a lane leads to by any name
    pub onward_turns : (l : Lane) (m : Name) → Reroutes W U (onward_at script honest Vats Links l m) (onward_at script honest Vats' Links l m)
    unfolding onward_at
    onward_turns (Queue u) m = stays_so
    onward_turns (Held u q) m = held_turns u q (found v s t w.vats u)
    onward_turns (Way a b) m = way_of_turns b m (world.link_at a b Links)

    one_owned : (l : Lane) (m : Name) → IsOneWay l → owned l m ≡ true
    unfolding owned
    one_owned (Way a b) m i = absurd i
    one_owned other m i = refl

    way_is : (a b : ℕ) (m : Name) → owned (Way a b) m ≡ true → host_of m ≡ b
    unfolding owned
    way_is a b m e = eqb-true (host_of m) b e

    pub retold : IsRetold owned W U
    retold = record {
      stands = λ l. let j = more l in within_more (W.stands l) (U.stands l) j.0 j.1;
      links = λ a b m e. onward_then (Way a b) m ∙ links_own a b m (way_is a b m e) ∙ sym (onward_is (Way a b) m);
      lanes = λ l m i. subst (λ c. Reroutes W U c (U.onward l m)) (sym (onward_is l m)) (subst (λ d. Reroutes W U (onward_at script honest Vats Links l m) d) (sym (onward_then l m)) (onward_turns l m));
      one_way = λ l m i. one_owned l m i;
      places = λ l m e. subst (λ c. IsGood c) (sym (onward_is l m)) (onward_good script honest Vats Links hosts bring l m);
      places_then = λ l m e. subst (λ c. IsGood c) (sym (onward_then l m)) (onward_good script honest Vats' Links hosts_then bring l m);
      items = λ l i e. items_good script honest Vats Links hosts bring l i (subst (λ js. IsIn i js) (stands_is l) e);
      items_then = λ l i e. items_good script honest Vats' Links hosts_then bring l i (subst (λ js. IsIn i js) (stands_then l) e);
    }

    references_keep : (u : ℕ) (x : Value Name) → StaysBehind W U (LeadsAmid script honest w v s u x) (LeadsAmid script honest w v t u x)
    unfolding leads amid
    references_keep u x = retelling_keeps owned W U retold (leads script honest Vats Links u x) (leads script honest Vats' Links u x) (leads_good script honest Vats Links hosts bring u x) (leads_good script honest Vats' Links hosts_then bring u x) (leads_turn u x)

    pub kept : KeepsTold script honest w v s t
    kept = record {
      references = λ u x. references_keep u x;
      places = λ l b m i. retelling_keeps owned W U retold (Mid l b m) (Mid l b m) i i stays_so;
      stands = λ m l b o i. stands_more W U m l b o (more l) i;
    }

pub told_names_lead : ToldNamesLead
told_names_lead = λ script honest w v h r s t n y at tidy g u x. leads_amid script honest w v h r s t n y at tidy g u x

pub told_names_keep : ToldNamesKeep
told_names_keep = λ script honest w v h r s t n y at tidy g e. kept script honest w v h r s t n y at tidy g e
