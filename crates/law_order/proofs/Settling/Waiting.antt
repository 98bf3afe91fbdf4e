-- Two vats that know the same, but for one name that waits in both: each value is followed to the same in both, and leads to the same place.
use Rattle.std.proofs.Common.{◌≡◌, ℕ, zero, suc, Bool, true, false, List, Option, Some, None, length, refl, sym, ap, subst, ◌∙◌, ◌⊎◌, inl, inr}
use Rattle.std.specs.Prelude.{slice_get, codes, ◌==◌}
use Rattle.def_machine.specs.Values.{Value, Broken, Ref, Name, Root, Object, Naming, Spot, Own, Foreign, NoObject, host_of}
use Rattle.def_machine.specs.State.{Standing, Unsettled, WaitsOn, Viewed, Settled, Known, GiftEntry, Vat, is_in}
use Rattle.def_machine.specs.Refs as refs
use Rattle.def_machine.specs.Refs.{entry_of, standing_of, standing_in}
use Rattle.def_run.specs.World as world
use Rattle.def_run.specs.World.{Script, Link, World, names}
use Rattle.law_order.specs.Ordering.Ways.{Lane, Queue, Held, Way, Place, Nowhere, Free, End}
use Rattle.law_order.specs.Ordering.Places.{aimed, by_host, by_follow, of_name, leads_in, leads_at, leads, released, released_at, over, is_honest, onward_at, ways_of, ways, amid}
use Rattle.law_order.specs.Ordering.Steps.{WaysAmid, LeadsAmid}
use Rattle.law_order.specs.Ordering.Worlds.{IsObject, IsWaiting}
use Rattle.law_order.proofs.Ordering.Amid.{put_either}
use Rattle.law_order.proofs.Ordering.OrderPassing.{waiting_same}
use Rattle.law_order.proofs.Views.Quiet.{is_name}

-- From s to t name p waits otherwise. It is no object.
pub record WaitsElse (K : Naming Name Name) (p : Name) (s t : Vat Name) : Type 0 where
  pub number : t.number ≡ s.number
  pub gifts : t.gifts ≡ s.gifts
  pub noticed : t.noticed ≡ s.noticed
  pub names_known : length t.known ≡ length s.known
  pub plain : IsObject p → ⊥
  pub before : Known Name
  pub found : entry_of K s.known p ≡ Some before
  pub waits : IsWaiting before.standing
  pub after : Known Name
  pub found_then : entry_of K t.known p ≡ Some after
  pub waits_then : IsWaiting after.standing
  pub host : after.host ≡ before.host
  pub others : (n : Name) → (n ≡ p → ⊥) → entry_of K t.known n ≡ entry_of K s.known n

-- where each name has the same host
module _ (script : Script) (v : ℕ) (s t : Vat Name) (number : t.number ≡ s.number) where
  abbrev N : Naming Name Name
  N = names script v

  module _ (noticed : t.noticed ≡ s.noticed) (hosts : (n : Name) → refs.host_at N t.number t.known n ≡ refs.host_at N s.number s.known n) where
    severs : (h : ℕ) (n : Name) → refs.severed_by N h t n ≡ refs.severed_by N h s n
    unfolding refs.severed_by
    severs h n = ap (λ q. elim (is_in h q) [ true ↦ Broken (codes "partition") | false ↦ Ref n ]) noticed

    severed_spot : (n : Name) (q : Spot) → refs.severed_at N t n q ≡ refs.severed_at N s n q
    unfolding refs.severed_at
    severed_spot n (Own i) = refl
    severed_spot n (Foreign h) = severs h n
    severed_spot n NoObject = severs (refs.host_at N t.number t.known n) n ∙ ap (λ h. refs.severed_by N h s n) (hosts n)

    pub severed_same : (z : Value Name) → refs.severed N t z ≡ refs.severed N s z
    unfolding refs.severed
    severed_same (Ref n) = severed_spot n (N.spot n)
    severed_same other = refl

  module _ (hosts : (n : Name) → refs.host_at N t.number t.known n ≡ refs.host_at N s.number s.known n) where
    spotted_same : (n : Name) (q : Spot) → refs.spotted N t n q ≡ refs.spotted N s n q
    unfolding refs.spotted
    spotted_same n NoObject = ap (λ w. refs.hosted N w n (refs.host_at N t.number t.known n)) number ∙ ap (λ h. refs.hosted N s.number n h) (hosts n)
    spotted_same n other = refl

    pub placed_same : (z : Value Name) → refs.place N t z ≡ refs.place N s z
    unfolding refs.place
    placed_same (Ref n) = spotted_same n (N.spot n)
    placed_same other = refl

module _ (script : Script) (honest : ℕ → Bool) (v : ℕ) (p : Name) (s t : Vat Name) (g : WaitsElse (names script v) p s t) where
  abbrev K : Naming Name Name
  K = names script v

  waits_led : (f : Value Name → Value Name) (n : Name) (q : Standing Name) → IsWaiting q → refs.led K f n q ≡ Ref n
  unfolding refs.led
  waits_led f n (Viewed q) h = absurd h
  waits_led f n (Settled z) h = absurd h
  waits_led f n other h = refl

  stands_there : (ks : List (Known Name)) (k : Known Name) → entry_of K ks p ≡ Some k → IsWaiting k.standing → IsWaiting (standing_of K ks p)
  unfolding standing_of standing_in
  stands_there ks k e w = subst (λ o. IsWaiting (standing_in o)) (sym e) w

  pub stands_other : (n : Name) → (n ≡ p → ⊥) → standing_of K t.known n ≡ standing_of K s.known n
  unfolding standing_of
  stands_other n f = ap (λ o. standing_in o) (g.others n f)

  led_by : (a b : Value Name → Value Name) → ((z : Value Name) → a z ≡ b z) → (n : Name) (q : Standing Name) → refs.led K a n q ≡ refs.led K b n q
  unfolding refs.led
  led_by a b f n (Settled z) = f z
  led_by a b f n (Viewed q) = f (Ref q)
  led_by a b f n other = refl

  name_same : (d : ℕ) (n : Name) → ((z : Value Name) → refs.follow_at K d t.known z ≡ refs.follow_at K d s.known z) → (n ≡ p) ⊎ (n ≡ p → ⊥) → refs.follow_at K (suc d) t.known (Ref n) ≡ refs.follow_at K (suc d) s.known (Ref n)
  unfolding refs.follow_at
  name_same d n f (inl e) = subst (λ z. refs.led K (λ y. refs.follow_at K d t.known y) z (standing_of K t.known z) ≡ refs.led K (λ y. refs.follow_at K d s.known y) z (standing_of K s.known z)) (sym e)
      (waits_led (λ y. refs.follow_at K d t.known y) p (standing_of K t.known p) (stands_there t.known g.after g.found_then g.waits_then) ∙ sym (waits_led (λ y. refs.follow_at K d s.known y) p (standing_of K s.known p) (stands_there s.known g.before g.found g.waits)))
  name_same d n f (inr i) = ap (λ q. refs.led K (λ y. refs.follow_at K d t.known y) n q) (stands_other n i) ∙ led_by (λ y. refs.follow_at K d t.known y) (λ y. refs.follow_at K d s.known y) f n (standing_of K s.known n)

  pub follows_same : (d : ℕ) (x : Value Name) → refs.follow_at K d t.known x ≡ refs.follow_at K d s.known x
  unfolding refs.follow_at
  follows_same zero x = refl
  follows_same (suc d) (Ref n) = name_same d n (λ z. follows_same d z) (is_name n p)
  follows_same (suc d) other = refl

  host_some : (u : ℕ) (o : Option (Known Name)) (k : Known Name) → o ≡ Some k → refs.host_in u o ≡ k.host
  unfolding refs.host_in
  host_some u o k e = ap (λ z. refs.host_in u z) e

  hosts : (n : Name) → refs.host_at K t.number t.known n ≡ refs.host_at K s.number s.known n
  unfolding refs.host_at
  hosts n = go (is_name n p)
    where
      go : (n ≡ p) ⊎ (n ≡ p → ⊥) → refs.host_in t.number (entry_of K t.known n) ≡ refs.host_in s.number (entry_of K s.known n)
      go (inl e) = subst (λ z. refs.host_in t.number (entry_of K t.known z) ≡ refs.host_in s.number (entry_of K s.known z)) (sym e)
          (host_some t.number (entry_of K t.known p) g.after g.found_then ∙ g.host ∙ sym (host_some s.number (entry_of K s.known p) g.before g.found))
      go (inr f) = ap (λ u. refs.host_in u (entry_of K t.known n)) g.number ∙ ap (λ o. refs.host_in s.number o) (g.others n f)

  pub place_same : (z : Value Name) → refs.place K t z ≡ refs.place K s z
  place_same z = placed_same script v s t g.number hosts z

  pub follow_same : (x : Value Name) → refs.follow K t x ≡ refs.follow K s x
  unfolding refs.follow
  follow_same x = ap (refs.severed K t) (follows_same (suc (length t.known)) x ∙ ap (λ d. refs.follow_at K (suc d) s.known x) g.names_known) ∙ severed_same script v s t g.number g.noticed hosts (refs.follow_at K (suc (length s.known)) s.known x)

  by_follow_same : (x : Value Name) → by_follow script honest v t x ≡ by_follow script honest v s x
  unfolding by_follow
  by_follow_same x = ap (λ y. aimed v y (refs.place K t y)) (follow_same x) ∙ ap (λ q. aimed v (refs.follow K s x) q) (place_same (refs.follow K s x))

  by_host_same : (n : Name) (h : ℕ) → by_host v t n h ≡ by_host v s n h
  unfolding by_host
  by_host_same n h = ap (λ q. elim (is_in h q) [ true ↦ Nowhere | false ↦ elim (v == h) [ true ↦ End (Held v n) n | false ↦ End (Way v h) n ] ]) g.noticed

  of_same : (n : Name) (o : Option (Known Name)) → of_name script honest v t n o ≡ of_name script honest v s n o
  unfolding of_name
  of_same (Object h i) o = by_follow_same (Ref (Object h i))
  of_same other (Some k) = by_follow_same (Ref other)
  of_same other None = by_host_same other (host_of other)

  of_some : (r : Vat Name) (m : Name) (k : Known Name) → of_name script honest v r m (Some k) ≡ by_follow script honest v r (Ref m)
  unfolding of_name
  of_some r (Root h) k = refl
  of_some r other k = refl

  leads_in_same : (x : Value Name) → leads_in script honest v t x ≡ leads_in script honest v s x
  unfolding leads_in
  leads_in_same (Ref n) = go (is_name n p)
    where
      go : (n ≡ p) ⊎ (n ≡ p → ⊥) → of_name script honest v t n (entry_of K t.known n) ≡ of_name script honest v s n (entry_of K s.known n)
      go (inl e) = subst (λ z. of_name script honest v t z (entry_of K t.known z) ≡ of_name script honest v s z (entry_of K s.known z)) (sym e)
          (ap (λ o. of_name script honest v t p o) g.found_then ∙ of_some t p g.after ∙ by_follow_same (Ref p) ∙ sym (ap (λ o. of_name script honest v s p o) g.found ∙ of_some s p g.before))
      go (inr f) = ap (λ o. of_name script honest v t n o) (g.others n f) ∙ of_same n (entry_of K s.known n)
  leads_in_same other = by_follow_same other

  -- ---- in the middle of a step

  module _ (w : World) where
    pub leads_same : (u : ℕ) (x : Value Name) → LeadsAmid script honest w v t u x ≡ LeadsAmid script honest w v s u x
    unfolding leads leads_at amid
    leads_same u x = elim (put_either v s t w.vats u) [
      | inl e ↦ ap (λ o. leads_at script honest u o x) e.2 ∙ at_leads e.0 ∙ sym (ap (λ o. leads_at script honest u o x) e.1)
      | inr e ↦ ap (λ o. leads_at script honest u o x) e
    ]
      where
        at_leads : u ≡ v → leads_at script honest u (Some t) x ≡ leads_at script honest u (Some s) x
        at_leads e = subst (λ z. leads_at script honest z (Some t) x ≡ leads_at script honest z (Some s) x) (sym e) (leads_in_same x)

    abbrev Vs : Vat Name → List (Vat Name)
    Vs q = world.put_at v q w.vats

    released_same : (ls : List Link) (u : ℕ) (m : Name) (gs : List (GiftEntry Name)) (q : Standing Name) → released script honest (Vs t) ls u m gs q ≡ released script honest (Vs s) ls u m gs q
    unfolding released leads amid
    released_same ls u m gs Unsettled = waiting_same script honest (Vs t) (Vs s) ls u m gs
    released_same ls u m gs (WaitsOn z) = leads_same u (Ref z)
    released_same ls u m gs (Viewed z) = leads_same u (Ref z)
    released_same ls u m gs (Settled z) = leads_same u z

    released_vat : (ls : List Link) (u : ℕ) (m : Name) (o : Option (Vat Name)) → released_at script honest (Vs t) ls u m o ≡ released_at script honest (Vs s) ls u m o
    unfolding released_at
    released_vat ls u m (Some q) = released_same ls u m q.gifts (standing_of (names script u) q.known m)
    released_vat ls u m None = refl

    held_same : (ls : List Link) (u : ℕ) (m : Name) → (Held u m ≡ Held v p → ⊥) → released_at script honest (Vs t) ls u m (slice_get (Vs t) u) ≡ released_at script honest (Vs s) ls u m (slice_get (Vs s) u)
    unfolding released_at
    held_same ls u m f = elim (put_either v s t w.vats u) [
      | inl e ↦ ap (λ o. released_at script honest (Vs t) ls u m o) e.2 ∙ here e.0 ∙ sym (ap (λ o. released_at script honest (Vs s) ls u m o) e.1)
      | inr e ↦ ap (λ o. released_at script honest (Vs t) ls u m o) e ∙ released_vat ls u m (slice_get (Vs s) u)
    ]
      where
        other : m ≡ p → u ≡ v → ⊥
        other i e = f (ap (λ z. Held z m) e ∙ ap (λ z. Held v z) i)

        stood : u ≡ v → standing_of (names script u) t.known m ≡ standing_of (names script u) s.known m
        stood e = subst (λ z. standing_of (names script z) t.known m ≡ standing_of (names script z) s.known m) (sym e) (stands_other m (λ i. other i e))

        here : u ≡ v → released_at script honest (Vs t) ls u m (Some t) ≡ released_at script honest (Vs s) ls u m (Some s)
        here e = released_same ls u m t.gifts (standing_of (names script u) t.known m) ∙ ap (λ gs. released script honest (Vs s) ls u m gs (standing_of (names script u) t.known m)) g.gifts ∙ ap (λ q. released script honest (Vs s) ls u m s.gifts q) (stood e)

    over_same : (ls : List Link) (b : ℕ) (m : Name) (l : Link) → over script honest (Vs t) ls b m l ≡ over script honest (Vs s) ls b m l
    unfolding over leads amid
    over_same ls b m l = ap (λ c. elim (is_honest script honest l) [ true ↦ elim l.cut [ true ↦ Nowhere | false ↦ c ] | false ↦ Free ]) (leads_same b (Ref m))

    way_same : (ls : List Link) (b : ℕ) (m : Name) (o : Option Link) → ◌≡◌ {A = Place} (elim o [ Some l ↦ over script honest (Vs t) ls b m l | None ↦ Nowhere ]) (elim o [ Some l ↦ over script honest (Vs s) ls b m l | None ↦ Nowhere ])
    way_same ls b m (Some l) = over_same ls b m l
    way_same ls b m None = refl

    lane_same : (ls : List Link) (l : Lane) (m : Name) → (l ≡ Held v p → ⊥) → onward_at script honest (Vs t) ls l m ≡ onward_at script honest (Vs s) ls l m
    unfolding onward_at
    lane_same ls (Queue u) m f = refl
    lane_same ls (Held u q) m f = held_same ls u q f
    lane_same ls (Way a b) m f = way_same ls b m (world.link_at a b ls)

    -- each lane leads where it led, but what the name holds
    pub onward_same : t.outbox ≡ s.outbox → (l : Lane) (m : Name) → (l ≡ Held v p → ⊥) → (WaysAmid script honest w v t).onward l m ≡ (WaysAmid script honest w v s).onward l m
    unfolding ways ways_of amid
    onward_same e l m f = ap (λ ps. onward_at script honest (Vs t) (world.push_all v ps w.links) l m) e ∙ lane_same (world.push_all v s.outbox w.links) l m f
