-- In the middle of a step the ways only grow by what only adds.
use Rattle.std.proofs.Common.{◌≡◌, ℕ, zero, suc, Bool, true, false, Option, Some, None, length, refl, ap, ◌∙◌}
use Rattle.std.specs.Prelude.{codes, ◌==◌}
use Rattle.def_machine.specs.Values.{Value, Broken, Ref, Name, Object, Naming, Spot, Own, Foreign, NoObject, host_of}
use Rattle.def_machine.specs.State.{Standing, Viewed, Settled, Known, Vat, is_in}
use Rattle.def_machine.specs.Refs as refs
use Rattle.def_run.specs.World.{Script, names}
use Rattle.law_order.specs.Ordering.Ways.{Held, Way, Nowhere, End}
use Rattle.law_order.specs.Ordering.Turns.{Within}
use Rattle.law_order.specs.Ordering.Places.{held_in, aimed, by_host, by_follow, of_name, leads_in}
use Rattle.law_order.specs.Ordering.Worlds.{StandsAlike, RefersAlike}

-- ---- following

module _ (K : Naming Name Name) (s t : Vat Name) (g : RefersAlike K s t) where
  standing_alike : (n : Name) (o p : Option (Known Name)) → StandsAlike n o p → refs.standing_in p ≡ refs.standing_in o
  unfolding refs.standing_in
  standing_alike n None None h = refl
  standing_alike n (Some j) (Some k) h = h.0
  standing_alike n other another h = absurd h

  pub standings : (n : Name) → refs.standing_of K t.known n ≡ refs.standing_of K s.known n
  unfolding refs.standing_of
  standings n = standing_alike n (refs.entry_of K s.known n) (refs.entry_of K t.known n) (g.entries n)

  host_alike : (v : ℕ) (n : Name) (o p : Option (Known Name)) → StandsAlike n o p → refs.host_in v p ≡ refs.host_in v o
  unfolding refs.host_in
  host_alike v n None None h = refl
  host_alike v n (Some j) (Some k) h = h.1
  host_alike v n other another h = absurd h

  hosts : (n : Name) → refs.host_at K t.number t.known n ≡ refs.host_at K s.number s.known n
  unfolding refs.host_at
  hosts n = host_alike t.number n (refs.entry_of K s.known n) (refs.entry_of K t.known n) (g.entries n) ∙ ap (λ v. refs.host_in v (refs.entry_of K s.known n)) g.number

  led_alike : (f h : Value Name → Value Name) → ((x : Value Name) → f x ≡ h x) → (n : Name) (q : Standing Name) → refs.led K f n q ≡ refs.led K h n q
  unfolding refs.led
  led_alike f h e n (Settled y) = e y
  led_alike f h e n (Viewed q) = e (Ref q)
  led_alike f h e n other = refl

  pub follows_alike : (d : ℕ) (x : Value Name) → refs.follow_at K d t.known x ≡ refs.follow_at K d s.known x
  unfolding refs.follow_at
  follows_alike zero x = refl
  follows_alike (suc d) (Ref n) = led_alike (λ y. refs.follow_at K d t.known y) (λ y. refs.follow_at K d s.known y) (λ y. follows_alike d y) n (refs.standing_of K t.known n) ∙ ap (λ q. refs.led K (λ y. refs.follow_at K d s.known y) n q) (standings n)
  follows_alike (suc d) other = refl

  severs : (h : ℕ) (n : Name) → refs.severed_by K h t n ≡ refs.severed_by K h s n
  unfolding refs.severed_by
  severs h n = ap (λ q. elim (is_in h q) [ true ↦ Broken (codes "partition") | false ↦ Ref n ]) g.noticed

  severed_spot : (n : Name) (p : Spot) → refs.severed_at K t n p ≡ refs.severed_at K s n p
  unfolding refs.severed_at
  severed_spot n (Own i) = refl
  severed_spot n (Foreign h) = severs h n
  severed_spot n NoObject = severs (refs.host_at K t.number t.known n) n ∙ ap (λ h. refs.severed_by K h s n) (hosts n)

  severed_alike : (y : Value Name) → refs.severed K t y ≡ refs.severed K s y
  unfolding refs.severed
  severed_alike (Ref n) = severed_spot n (K.spot n)
  severed_alike other = refl

  pub follow_alike : (x : Value Name) → refs.follow K t x ≡ refs.follow K s x
  unfolding refs.follow
  follow_alike x = severed_alike (refs.follow_at K (suc (length t.known)) t.known x) ∙ ap (λ y. refs.severed K s y) (follows_alike (suc (length t.known)) x ∙ ap (λ d. refs.follow_at K (suc d) s.known x) g.names_known)

  spot_alike : (n : Name) (p : Spot) → refs.spotted K t n p ≡ refs.spotted K s n p
  unfolding refs.spotted
  spot_alike n NoObject = ap (λ v. refs.hosted K v n (refs.host_at K t.number t.known n)) g.number ∙ ap (λ h. refs.hosted K s.number n h) (hosts n)
  spot_alike n other = refl

  place_alike : (y : Value Name) → refs.place K t y ≡ refs.place K s y
  unfolding refs.place
  place_alike (Ref n) = spot_alike n (K.spot n)
  place_alike other = refl

-- ---- where a reference leads

module _ (script : Script) (honest : ℕ → Bool) (v : ℕ) (s t : Vat Name) (g : RefersAlike (names script v) s t) where
  K : Naming Name Name
  K = names script v

  by_follow_alike : (x : Value Name) → by_follow script honest v t x ≡ by_follow script honest v s x
  unfolding by_follow K
  by_follow_alike x = ap (λ y. aimed v y (refs.place K t y)) (follow_alike K s t g x) ∙ ap (λ p. aimed v (refs.follow K s x) p) (place_alike K s t g (refs.follow K s x))

  by_host_alike : (n : Name) (h : ℕ) → by_host v t n h ≡ by_host v s n h
  unfolding by_host
  by_host_alike n h = ap (λ q. elim (is_in h q) [ true ↦ Nowhere | false ↦ elim (v == h) [ true ↦ End (Held v n) n | false ↦ End (Way v h) n ] ]) g.noticed

  of_name_alike : (n : Name) (o p : Option (Known Name)) → StandsAlike n o p → of_name script honest v t n p ≡ of_name script honest v s n o
  unfolding of_name
  of_name_alike (Object h i) o p e = by_follow_alike (Ref (Object h i))
  of_name_alike n None (Some k) e = absurd e
  of_name_alike n (Some j) None e = absurd e
  of_name_alike other None None e = by_host_alike other (host_of other)
  of_name_alike other (Some j) (Some k) e = by_follow_alike (Ref other)

  pub leads_alike : (x : Value Name) → leads_in script honest v t x ≡ leads_in script honest v s x
  unfolding leads_in
  leads_alike (Ref n) = of_name_alike n (refs.entry_of (names script v) s.known n) (refs.entry_of (names script v) t.known n) (g.entries n)
  leads_alike other = by_follow_alike other

  held_alike : (n : Name) (o p : Option (Known Name)) → StandsAlike n o p → Within (held_in n o) (held_in n p)
  unfolding held_in
  held_alike n None None e = λ i h. h
  held_alike n (Some j) (Some k) e = e.2
  held_alike n other another e = absurd e

  pub held_within : (n : Name) → Within (held_in n (refs.entry_of (names script v) s.known n)) (held_in n (refs.entry_of (names script v) t.known n))
  held_within n = held_alike n (refs.entry_of (names script v) s.known n) (refs.entry_of (names script v) t.known n) (g.entries n)

-- ---- what the ways see of a vat

-- In s and t references lead to the same places, and what names hold in s they hold in t.
pub record RefersSame (script : Script) (honest : ℕ → Bool) (v : ℕ) (s t : Vat Name) : Type 0 where
  pub leading : (x : Value Name) → leads_in script honest v t x ≡ leads_in script honest v s x
  pub gifts : t.gifts ≡ s.gifts
  pub standing : (n : Name) → refs.standing_of (names script v) t.known n ≡ refs.standing_of (names script v) s.known n
  pub holding : (n : Name) → Within (held_in n (refs.entry_of (names script v) s.known n)) (held_in n (refs.entry_of (names script v) t.known n))

pub refers_same : (script : Script) (honest : ℕ → Bool) (v : ℕ) (s t : Vat Name) → RefersAlike (names script v) s t → RefersSame script honest v s t
refers_same script honest v s t g = record { leading = λ x. leads_alike script honest v s t g x; gifts = g.gifts; standing = λ n. standings (names script v) s t g n; holding = λ n. held_within script honest v s t g n }
