-- A name that is broken leads nowhere, nor does a link that is cut, or a name of a vat that is not there.
use Rattle.std.proofs.Common.{◌≡◌, ℕ, zero, suc, Bool, true, false, List, [], ◌∷◌, Option, Some, None, length, refl, sym, ap, subst, ◌∙◌, ◌==◌, eqb-true}
use Rattle.def_machine.specs.Values.{Broken, Ref, Name, Object, Gift, Naming, host_of}
use Rattle.def_machine.specs.State.{Known, Settled, Note, Put, Vat, is_in}
use Rattle.def_machine.specs.Refs as refs
use Rattle.def_run.specs.World as world
use Rattle.def_run.specs.World.{Script, Link, World, names}
use Rattle.law_order.specs.Ordering.Ways.{Held, Way, Nowhere, End, Ways, nowhere, by_end, Doom, Ahead, doomed_there}
use Rattle.law_order.specs.Ordering.Places.{aimed, by_follow, of_name, by_host, leads_in, leads_at, ways, ways_of, amid}
use Rattle.law_order.specs.Ordering.Steps.{WaysAmid}
use Rattle.law_order.proofs.Ordering.Arrived.{all_there}
use Rattle.law_order.proofs.Ordering.Comings.{shut_nowhere, both_honest}
use Rattle.law_order.proofs.Ordering.Sends.{pushed_ends, link_behind, found_ends}
use Rattle.law_order.specs.History.Passings.{IsBrokenAt, IsCutFrom, IsNoVat}

-- ---- a name that is broken

module _ (script : Script) (honest : ℕ → Bool) (h : ℕ) (r : Vat Name) (n : Name) (o : IsBrokenAt script h r n) where
  abbrev K : Naming Name Name
  K = names script h

  broken_at : (d : ℕ) (ks : List (Known Name)) → refs.follow_at K d ks (Broken o.problem) ≡ Broken o.problem
  unfolding refs.follow_at
  broken_at zero ks = refl
  broken_at (suc d) ks = refl

  stands : refs.standing_of K r.known n ≡ Settled (Broken o.problem)
  unfolding refs.standing_of refs.standing_in
  stands = ap (λ z. refs.standing_in z) o.found ∙ o.broken

  followed : refs.follow K r (Ref n) ≡ Broken o.problem
  unfolding refs.follow refs.follow_at refs.led refs.severed
  followed = ap (λ t. refs.severed K r (refs.led K (λ y. refs.follow_at K (length r.known) r.known y) n t)) stands ∙ ap (λ y. refs.severed K r y) (broken_at (length r.known) r.known)

  aimed_nowhere : by_follow script honest h r (Ref n) ≡ Nowhere
  unfolding by_follow aimed refs.place
  aimed_nowhere = ap (λ y. aimed h y (refs.place K r y)) followed

  by_name : (m : Name) (k : Known Name) → of_name script honest h r m (Some k) ≡ by_follow script honest h r (Ref m)
  unfolding of_name
  by_name (Object g i) k = refl
  by_name other k = refl

  pub broken_leads : leads_at script honest h (Some r) (Ref n) ≡ Nowhere
  unfolding leads_at leads_in
  broken_leads = ap (λ z. of_name script honest h r n z) o.found ∙ by_name n o.known ∙ aimed_nowhere

-- ---- a link that is cut

pub cut_leads : (script : Script) (honest : ℕ → Bool) → ((u : ℕ) → honest u ≡ true) → (w : World) (v h : ℕ) (q : Vat Name) (n : Name) → IsCutFrom w v h → (WaysAmid script honest w v q).onward (Way v h) n ≡ Nowhere
unfolding ways ways_of amid
cut_leads script honest everyone w v h q n o =
    let ls = world.push_all v q.outbox w.links in
    let t = all_there true v h v q.outbox w.links (o.link, o.found, o.cut) in
    let f = found_ends v h ls t.0 t.1 in
    shut_nowhere script honest v h n (world.put_at v q w.vats) ls (Some t.0) t.1 (t.2, both_honest script honest v h (everyone v) (everyone h) t.0 f.0 f.1)

-- ---- a vat that is not there

none_still : (a b v h : ℕ) (n : Note Name) (ls : List Link) → world.link_at a b ls ≡ None → world.link_at a b (world.with_link (world.pushed n) v h ls) ≡ None
unfolding world.with_link world.link_at
none_still a b v h n [] e = e
none_still a b v h n (k ∷ ls) e = go (world.is_link a b k) (world.is_link v h k) refl (none_still a b v h n ls) e
  where
    go : (c d : Bool) → world.is_link a b k ≡ c → (world.link_at a b ls ≡ None → world.link_at a b (world.with_link (world.pushed n) v h ls) ≡ None) → ◌≡◌ {A = Option Link} (elim c [ true ↦ Some k | false ↦ world.link_at a b ls ]) None
        → world.link_at a b (elim d [ true ↦ world.pushed n k ∷ ls | false ↦ k ∷ world.with_link (world.pushed n) v h ls ]) ≡ None
    go true d f g i = absurd (cc)
    go false true f g i = link_behind a b (world.pushed n k) ls (pushed_ends k.cut n k a b refl ∙ f) ∙ i
    go false false f g i = link_behind a b k (world.with_link (world.pushed n) v h ls) f ∙ g i

none_pushed : (a b v : ℕ) (ps : List (Put Name)) (ls : List Link) → world.link_at a b ls ≡ None → world.link_at a b (world.push_all v ps ls) ≡ None
unfolding world.push_all
none_pushed a b v [] ls e = e
none_pushed a b v (p ∷ ps) ls e = none_pushed a b v ps (world.with_link (world.pushed p.note) v p.to ls) (none_still a b v p.to p.note ls e)

-- of a gift at such a vat, which the vat h does not know, all is ahead
pub nobody_leads : (script : Script) (honest : ℕ → Bool) (w : World) (v h : ℕ) (t r : Vat Name) (g i : ℕ) (a : Name) → (h ≡ g → ⊥) → IsNoVat w g → refs.entry_of (names script h) r.known (Gift g i) ≡ None → Ahead (WaysAmid script honest w v t) a (leads_at script honest h (Some r) (Ref (Gift g i)))
unfolding leads_at leads_in of_name by_host host_of ways ways_of amid
nobody_leads script honest w v h t r g i a other none new = subst (λ z. Ahead U a (of_name script honest h r (Gift g i) z)) (sym new) (go (is_in g r.noticed) (h == g) refl)
  where
    U : Ways
    U = ways script honest (amid v t w)

    go : (b c : Bool) → (h == g) ≡ c → Ahead U a (elim b [ true ↦ Nowhere | false ↦ elim c [ true ↦ End (Held h (Gift g i)) (Gift g i) | false ↦ End (Way h g) (Gift g i) ] ])
    go true c e = doomed_there nowhere
    go false true e = absurd (other (eqb-true h g e))
    go false false e = let ls = world.push_all v t.outbox w.links in
        doomed_there (by_end (subst (Doom U) (sym (shut_nowhere script honest h g (Gift g i) (world.put_at v t w.vats) ls None (none_pushed h g v t.outbox w.links (none.none h)) tt)) nowhere))
