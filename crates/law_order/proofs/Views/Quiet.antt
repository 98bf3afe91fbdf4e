-- Where one name of a vat stands otherwise, and each value is aimed where it was, each reference leads where it led.
use Rattle.std.proofs.Common.{◌≡◌, ℕ, Bool, true, false, List, [], Option, Some, None, refl, sym, ap, subst, ◌∙◌, ◌⊎◌, inl, inr, codes}
use Rattle.std.proofs.lemmas.List.{append-nil}
use Rattle.std.specs.Prelude.{slice_get, ◌≤◌, ◌==◌}
use Rattle.def_machine.specs.Values.{Value, Broken, Ref, Name, Object, Promise, Answer, Naming, Spot, Own, Foreign, NoObject, host_of, same_name}
use Rattle.def_machine.specs.State.{Known, Vat, is_in}
use Rattle.def_machine.specs.Refs as refs
use Rattle.def_machine.specs.Refs.{entry_of, standing_of, standing_in}
use Rattle.def_run.specs.World as world
use Rattle.def_run.specs.World.{Script, Link, World, names}
use Rattle.law_order.specs.Ordering.Ways.{Lane, Queue, Held, Way, Place, Nowhere, End, IsOneWay}
use Rattle.law_order.specs.Ordering.Messages.{More}
use Rattle.law_order.specs.Ordering.Places.{queued, held_on, held_in, aimed, by_follow, by_host, of_name, leads_in, leads, released_at, onward_at, ways_of, ways, amid}
use Rattle.law_order.specs.Ordering.Steps.{AllDrawn, Ready}
use Rattle.law_order.specs.Ordering.Worlds.{IsFixed, FollowsEnd}
use Rattle.law_order.proofs.Ordering.Named.{false_true, same_is, same_self}
use Rattle.law_order.proofs.Ordering.Standing.{queue_more, held_more, way_more}
use Rattle.law_order.specs.Views.Led.{StandsOtherwise}
use Rattle.law_order.proofs.Views.Alike.{SameOr, leads_same, onward_same_or}

found_apart : (k : Known Name) → ◌≡◌ {A = Option (Known Name)} None (Some k) → ⊥
found_apart k e = cc

pub is_name : (n p : Name) → (n ≡ p) ⊎ (n ≡ p → ⊥)
is_name n p = go (same_name n p) refl
  where
    go : (c : Bool) → same_name n p ≡ c → (n ≡ p) ⊎ (n ≡ p → ⊥)
    go true e = inl (same_is n p e)
    go false e = inr (λ i. false_true (sym e ∙ ap (λ m. same_name m p) i ∙ same_self p))

module _ (script : Script) (honest : ℕ → Bool) (v : ℕ) (s t : Vat Name) (p : Name) {old now : Known Name} (g : StandsOtherwise (names script v) s t p old now) where
  abbrev K : Naming Name Name
  K = names script v

  pub stays : (n : Name) → (n ≡ p → ⊥) → standing_of K t.known n ≡ standing_of K s.known n
  unfolding standing_of
  stays n f = ap (λ o. standing_in o) (g.others n f)

  -- what is not known is not p
  pub unknown_other : (n : Name) → entry_of K s.known n ≡ None → n ≡ p → ⊥
  unknown_other n e i = found_apart old (sym e ∙ ap (λ m. entry_of K s.known m) i ∙ g.found)

  ref_is : (n : Name) → n ≡ p → Ref n ≡ Ref p
  ref_is n e = ap (λ m. Ref m) e

  -- what is followed to an end that is not p ends there still
  pub fixed_then : (z : Value Name) → IsFixed K s z → (z ≡ Ref p → ⊥) → IsFixed K t z
  fixed_then (Ref n) (inl o) f = inl o
  fixed_then (Ref n) (inr h) f = inr (h.0, g.others n (λ e. f (ref_is n e)) ∙ h.1, h.2)
  fixed_then other h f = tt

  hosts_same : (n : Name) → refs.host_at K t.number t.known n ≡ refs.host_at K s.number s.known n
  unfolding refs.host_at refs.host_in
  hosts_same n = go (is_name n p)
    where
      go : (n ≡ p) ⊎ (n ≡ p → ⊥) → refs.host_in t.number (entry_of K t.known n) ≡ refs.host_in s.number (entry_of K s.known n)
      go (inl e) = ap (λ m. refs.host_in t.number (entry_of K t.known m)) e ∙ ap (λ o. refs.host_in t.number o) g.found_then ∙ g.host ∙ sym (ap (λ m. refs.host_in s.number (entry_of K s.known m)) e ∙ ap (λ o. refs.host_in s.number o) g.found)
      go (inr f) = ap (λ u. refs.host_in u (entry_of K t.known n)) g.number ∙ ap (λ o. refs.host_in s.number o) (g.others n f)

  severs : (h : ℕ) (n : Name) → refs.severed_by K h t n ≡ refs.severed_by K h s n
  unfolding refs.severed_by
  severs h n = ap (λ q. elim (is_in h q) [ true ↦ Broken (codes "partition") | false ↦ Ref n ]) g.noticed

  severed_spot : (n : Name) (q : Spot) → refs.severed_at K t n q ≡ refs.severed_at K s n q
  unfolding refs.severed_at
  severed_spot n (Own i) = refl
  severed_spot n (Foreign h) = severs h n
  severed_spot n NoObject = severs (refs.host_at K t.number t.known n) n ∙ ap (λ h. refs.severed_by K h s n) (hosts_same n)

  severed_same : (z : Value Name) → refs.severed K t z ≡ refs.severed K s z
  unfolding refs.severed
  severed_same (Ref n) = severed_spot n (K.spot n)
  severed_same other = refl

  spotted_same : (n : Name) (q : Spot) → refs.spotted K t n q ≡ refs.spotted K s n q
  unfolding refs.spotted
  spotted_same n NoObject = ap (λ u. refs.hosted K u n (refs.host_at K t.number t.known n)) g.number ∙ ap (λ h. refs.hosted K s.number n h) (hosts_same n)
  spotted_same n other = refl

  place_same : (z : Value Name) → refs.place K t z ≡ refs.place K s z
  unfolding refs.place
  place_same (Ref n) = spotted_same n (K.spot n)
  place_same other = refl

  -- the same value, as it is followed no further, is aimed at one place
  pub aims_same : (z : Value Name) → aimed v (refs.severed K t z) (refs.place K t (refs.severed K t z)) ≡ aimed v (refs.severed K s z) (refs.place K s (refs.severed K s z))
  aims_same z = ap (λ y. aimed v y (refs.place K t y)) (severed_same z) ∙ ap (λ q. aimed v (refs.severed K s z) q) (place_same (refs.severed K s z))

  by_host_same : (n : Name) (h : ℕ) → by_host v t n h ≡ by_host v s n h
  unfolding by_host
  by_host_same n h = ap (λ q. elim (is_in h q) [ true ↦ Nowhere | false ↦ elim (v == h) [ true ↦ End (Held v n) n | false ↦ End (Way v h) n ] ]) g.noticed

  pub of_known : (r : Vat Name) (n : Name) (k : Known Name) → of_name script honest v r n (Some k) ≡ by_follow script honest v r (Ref n)
  unfolding of_name
  of_known r (Object h i) k = refl
  of_known r other k = refl

  -- ---- where references lead

  module _ (follows_on : (x : Value Name) → by_follow script honest v t x ≡ by_follow script honest v s x) where
    of_unknown : (n : Name) → of_name script honest v t n None ≡ of_name script honest v s n None
    unfolding of_name
    of_unknown (Object h i) = follows_on (Ref (Object h i))
    of_unknown other = by_host_same other (host_of other)

    known_on : (n : Name) (j k : Known Name) → entry_of K t.known n ≡ Some j → entry_of K s.known n ≡ Some k → leads_in script honest v t (Ref n) ≡ leads_in script honest v s (Ref n)
    unfolding leads_in
    known_on n j k e f = ap (λ o. of_name script honest v t n o) e ∙ of_known t n j ∙ follows_on (Ref n) ∙ sym (ap (λ o. of_name script honest v s n o) f ∙ of_known s n k)

    other_on : (n : Name) (o : Option (Known Name)) → entry_of K t.known n ≡ o → entry_of K s.known n ≡ o → leads_in script honest v t (Ref n) ≡ leads_in script honest v s (Ref n)
    unfolding leads_in
    other_on n (Some k) e f = known_on n k k e f
    other_on n None e f = ap (λ o. of_name script honest v t n o) e ∙ of_unknown n ∙ sym (ap (λ o. of_name script honest v s n o) f)

    name_on : (n : Name) → leads_in script honest v t (Ref n) ≡ leads_in script honest v s (Ref n)
    name_on n = go (is_name n p)
      where
        go : (n ≡ p) ⊎ (n ≡ p → ⊥) → leads_in script honest v t (Ref n) ≡ leads_in script honest v s (Ref n)
        go (inl e) = known_on n now old (ap (λ m. entry_of K t.known m) e ∙ g.found_then) (ap (λ m. entry_of K s.known m) e ∙ g.found)
        go (inr f) = other_on n (entry_of K s.known n) (g.others n f) refl

    pub leads_on : (x : Value Name) → leads_in script honest v t x ≡ leads_in script honest v s x
    unfolding leads_in
    leads_on (Ref n) = name_on n
    leads_on other = follows_on other

-- ---- in the middle of a step

module _ (script : Script) (honest : ℕ → Bool) (w : World) (v : ℕ) (s t : Vat Name) (p : Name) {old now : Known Name} (g : StandsOtherwise (names script v) s t p old now) where
  abbrev N : Naming Name Name
  N = names script v

  pub links_then : world.push_all v t.outbox w.links ≡ world.push_all v s.outbox w.links
  links_then = ap (λ o. world.push_all v o w.links) g.outbox

  empty_held : (n : Name) (k : Known Name) → k.held ≡ [] → held_in n (Some k) ≡ []
  unfolding held_in held_on
  empty_held n k e = ap (λ ms. held_on n ms) e

  held_same : (n : Name) → held_in n (entry_of N t.known n) ≡ held_in n (entry_of N s.known n)
  held_same n = go (is_name n p)
    where
      go : (n ≡ p) ⊎ (n ≡ p → ⊥) → held_in n (entry_of N t.known n) ≡ held_in n (entry_of N s.known n)
      go (inl e) = ap (λ o. held_in n o) (ap (λ m. entry_of N t.known m) e ∙ g.found_then) ∙ empty_held n now g.empty_then ∙ sym (ap (λ o. held_in n o) (ap (λ m. entry_of N s.known m) e ∙ g.found) ∙ empty_held n old g.empty)
      go (inr f) = ap (λ o. held_in n o) (g.others n f)

  pub more : (l : Lane) → More (ways script honest (amid v s w)) (ways script honest (amid v t w)) l
  more (Queue u) = queue_more script honest w v s t u (λ e. ([], ap (λ ms. queued ms) g.queue ∙ sym (append-nil (queued s.queue))))
  more (Held u n) = held_more script honest w v s t u n (λ e. ([], held_same n ∙ sym (append-nil (held_in n (entry_of N s.known n)))))
  more (Way a b) = way_more script honest w v s t [] (g.outbox ∙ sym (append-nil s.outbox)) a b

  none_then : (n : Name) → entry_of N s.known n ≡ None → entry_of N t.known n ≡ None
  none_then n e = g.others n (unknown_other script honest v s t p g n e) ∙ e

  -- who is ready stays so where all is followed to an end
  pub ready_then : FollowsEnd N t → Ready script honest w v s → Ready script honest w v t
  ready_then ends r = record {
    number = g.number ∙ r.number;
    ends = ends;
    draws = subst (λ ds. AllDrawn ds (world.push_all v t.outbox w.links)) (sym g.drawn) (subst (λ ls. AllDrawn s.drawn ls) (sym links_then) r.draws);
    answers = λ h i l. none_then (Answer h (record { sender = v; number = i })) (r.answers h i (subst (λ k. k ≤ i) g.messages l));
    promises = λ i l. none_then (Promise v i) (r.promises i (subst (λ k. k ≤ i) g.promises l));
  }

  -- ---- where each reference leads where it led

  module _ (same : (x : Value Name) → leads_in script honest v t x ≡ leads_in script honest v s x) where
    pub leading : (u : ℕ) (x : Value Name) → leads script honest (amid v t w).vats (amid v t w).links u x ≡ leads script honest (amid v s w).vats (amid v s w).links u x
    unfolding amid
    leading u x = ap (λ ls. leads script honest (world.put_at v t w.vats) ls u x) links_then ∙ leads_same script honest v s t same w.vats (world.push_all v s.outbox w.links) u x

    module _ (P : Place → Place → Type 0) (mine : (vs : List (Vat Name)) (ls : List Link) → slice_get (world.put_at v s vs) v ≡ Some s → (q : Name) → SameOr P (released_at script honest (world.put_at v s vs) ls v q (Some s)) (released_at script honest (world.put_at v s vs) ls v q (Some t))) where
      abbrev Was : Lane → Name → Place
      Was l n = onward_at script honest (world.put_at v s w.vats) (world.push_all v s.outbox w.links) l n

      pub onward_or : (l : Lane) (n : Name) → ((ways script honest (amid v t w)).onward l n ≡ (ways script honest (amid v s w)).onward l n) ⊎ (IsOneWay l × P ((ways script honest (amid v s w)).onward l n) ((ways script honest (amid v t w)).onward l n))
      unfolding ways ways_of amid
      onward_or l n = subst (λ ls. (onward_at script honest (world.put_at v t w.vats) ls l n ≡ Was l n) ⊎ (IsOneWay l × P (Was l n) (onward_at script honest (world.put_at v t w.vats) ls l n))) (sym links_then)
          (onward_same_or script honest v s t same w.vats (world.push_all v s.outbox w.links) P (mine w.vats (world.push_all v s.outbox w.links)) l n)
