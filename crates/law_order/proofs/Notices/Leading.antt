-- As names of a vat break, each of its references leads where it led, or nowhere.
use Rattle.std.proofs.Common.{◌≡◌, ℕ, zero, suc, Bool, true, false, Option, Some, None, length, refl, sym, ap, subst, ◌∙◌, ◌⊎◌, inl, inr, codes}
use Rattle.std.specs.Prelude.{◌==◌, ◌&&◌}
use Rattle.def_machine.specs.Values.{Words, Value, Broken, Ref, Name, Object, Naming, Spot, Own, Foreign, NoObject, host_of}
use Rattle.def_machine.specs.State.{Message, Standing, Viewed, Settled, Known, Vat, is_in}
use Rattle.def_machine.specs.Refs as refs
use Rattle.def_machine.specs.Refs.{entry_of, standing_of, follow_at}
use Rattle.def_run.specs.World.{Script, names}
use Rattle.law_order.specs.Ordering.Ways.{Queue, Held, Way, Place, Nowhere, End}
use Rattle.law_order.specs.Ordering.Places.{aimed, by_follow, by_host, of_name, leads_in}
use Rattle.law_order.proofs.Runs.Truths.{data_self}
use Rattle.law_order.specs.Notices.Marks.{past_link}
use Rattle.law_order.proofs.Notices.Sinking.{Broke, Sank, stayed, broke, Sinks, stands_then}

-- where it led, or nowhere
abbrev pub SameOrGone : Place → Place → Type 0
SameOrGone c d = (d ≡ c) ⊎ (d ≡ Nowhere)

pub gone_then : (c d e : Place) → SameOrGone c d → SameOrGone d e → SameOrGone c e
gone_then c d e (inl f) (inl g) = inl (g ∙ f)
gone_then c d e (inr f) (inl g) = inr (g ∙ f)
gone_then c d e h (inr g) = inr g

-- past a link that leads nowhere
pub past_same : (a b : ℕ) (c : Place) → SameOrGone c (past_link a b c)
unfolding past_link
past_same a b (End (Way c d) n) = go ((c == a) && (d == b))
  where
    go : (q : Bool) → SameOrGone (End (Way c d) n) (elim q [ true ↦ Nowhere | false ↦ End (Way c d) n ])
    go true = inr refl
    go false = inl refl
past_same a b (End (Queue v) n) = inl refl
past_same a b (End (Held v p) n) = inl refl
past_same a b other = inl refl

module _ (script : Script) (honest : ℕ → Bool) (P : Message Name → Type 0) (v : ℕ) (problem : Words) (s t : Vat Name) (g : Sinks (names script v) P (Broken problem) s t) where
  abbrev K : Naming Name Name
  K = names script v

  abbrev Y : Value Name
  Y = Broken problem

  abbrev In : ℕ → Value Name → Value Name
  In d z = follow_at K d s.known z

  abbrev Then : ℕ → Value Name → Value Name
  Then d z = follow_at K d t.known z

  -- it ends where it ended, or at what is broken
  abbrev Meets : Value Name → Value Name → Type 0
  Meets a b = (b ≡ a) ⊎ (b ≡ Y)

  by_standing : (d : ℕ) (n : Name) (q : Standing Name) → ((z : Value Name) → Meets (In d z) (Then d z)) → Meets (refs.led K (λ z. In d z) n q) (refs.led K (λ z. Then d z) n q)
  unfolding refs.led
  by_standing d n (Viewed q) f = f (Ref q)
  by_standing d n (Settled z) f = f z
  by_standing d n other f = inl refl

  broken_led : (d : ℕ) (n : Name) → refs.led K (λ z. Then d z) n (Settled Y) ≡ Y
  unfolding refs.led
  broken_led d n = data_self script v d t.known Y tt

  by_name : (d : ℕ) (n : Name) → ((z : Value Name) → Meets (In d z) (Then d z)) → (standing_of K t.known n ≡ standing_of K s.known n) ⊎ (standing_of K t.known n ≡ Settled Y)
      → Meets (refs.led K (λ z. In d z) n (standing_of K s.known n)) (refs.led K (λ z. Then d z) n (standing_of K t.known n))
  by_name d n f (inl e) = subst (λ q. Meets (refs.led K (λ z. In d z) n (standing_of K s.known n)) (refs.led K (λ z. Then d z) n q)) (sym e) (by_standing d n (standing_of K s.known n) f)
  by_name d n f (inr e) = inr (ap (λ q. refs.led K (λ z. Then d z) n q) e ∙ broken_led d n)

  meets : (d : ℕ) (x : Value Name) → Meets (In d x) (Then d x)
  unfolding follow_at
  meets zero x = inl refl
  meets (suc d) (Ref n) = by_name d n (λ z. meets d z) (stands_then K P Y s t g n)
  meets (suc d) other = inl refl

  -- ---- the same value is aimed at the same place

  host_by : (u : ℕ) (a b : Option (Known Name)) → Sank Y a b → refs.host_in u b ≡ refs.host_in u a
  unfolding refs.host_in
  host_by u a b (stayed e) = ap (λ o. refs.host_in u o) e
  host_by u a b (broke k e f) = ap (λ o. refs.host_in u o) f ∙ sym (ap (λ o. refs.host_in u o) e)

  hosts_same : (n : Name) → refs.host_at K t.number t.known n ≡ refs.host_at K s.number s.known n
  unfolding refs.host_at
  hosts_same n = ap (λ u. refs.host_in u (entry_of K t.known n)) g.number ∙ host_by s.number (entry_of K s.known n) (entry_of K t.known n) (g.entries n)

  severs : (h : ℕ) (n : Name) → refs.severed_by K h t n ≡ refs.severed_by K h s n
  unfolding refs.severed_by
  severs h n = ap (λ q. elim (is_in h q) [ true ↦ Broken (codes "partition") | false ↦ Ref n ]) g.noticed

  severed_spot : (n : Name) (q : Spot) → refs.severed_at K t n q ≡ refs.severed_at K s n q
  unfolding refs.severed_at
  severed_spot n (Own i) = refl
  severed_spot n (Foreign h) = severs h n
  severed_spot n NoObject = severs (refs.host_at K t.number t.known n) n ∙ ap (λ h. refs.severed_by K h s n) (hosts_same n)

  severed_same : (z : Value Name) → refs.severed K t z ≡ refs.severed K s z
  unfolding refs.severed
  severed_same (Ref n) = severed_spot n (K.spot n)
  severed_same other = refl

  spotted_same : (n : Name) (q : Spot) → refs.spotted K t n q ≡ refs.spotted K s n q
  unfolding refs.spotted
  spotted_same n NoObject = ap (λ u. refs.hosted K u n (refs.host_at K t.number t.known n)) g.number ∙ ap (λ h. refs.hosted K s.number n h) (hosts_same n)
  spotted_same n other = refl

  place_same : (z : Value Name) → refs.place K t z ≡ refs.place K s z
  unfolding refs.place
  place_same (Ref n) = spotted_same n (K.spot n)
  place_same other = refl

  abbrev Aim : Vat Name → Value Name → Place
  Aim q z = aimed v (refs.severed K q z) (refs.place K q (refs.severed K q z))

  aims_same : (z : Value Name) → Aim t z ≡ Aim s z
  aims_same z = ap (λ y. aimed v y (refs.place K t y)) (severed_same z) ∙ ap (λ q. aimed v (refs.severed K s z) q) (place_same (refs.severed K s z))

  broken_aim : Aim t Y ≡ Nowhere
  unfolding aimed refs.severed refs.place
  broken_aim = refl

  aims_on : (a b : Value Name) → Meets a b → SameOrGone (Aim s a) (Aim t b)
  aims_on a b (inl e) = inl (ap (λ z. Aim t z) e ∙ aims_same a)
  aims_on a b (inr e) = inr (ap (λ z. Aim t z) e ∙ broken_aim)

  -- ---- where references lead

  follows_on : (x : Value Name) → SameOrGone (by_follow script honest v s x) (by_follow script honest v t x)
  unfolding by_follow refs.follow
  follows_on x = aims_on (follow_at K (suc (length s.known)) s.known x) (follow_at K (suc (length t.known)) t.known x)
      (subst (λ d. Meets (In (suc (length s.known)) x) (Then (suc d) x)) (sym g.names_known) (meets (suc (length s.known)) x))

  by_host_same : (n : Name) (h : ℕ) → by_host v t n h ≡ by_host v s n h
  unfolding by_host
  by_host_same n h = ap (λ q. elim (is_in h q) [ true ↦ Nowhere | false ↦ elim (v == h) [ true ↦ End (Held v n) n | false ↦ End (Way v h) n ] ]) g.noticed

  of_unknown : (n : Name) → SameOrGone (of_name script honest v s n None) (of_name script honest v t n None)
  unfolding of_name
  of_unknown (Object h i) = follows_on (Ref (Object h i))
  of_unknown other = inl (by_host_same other (host_of other))

  of_known : (q : Vat Name) (n : Name) (k : Known Name) → of_name script honest v q n (Some k) ≡ by_follow script honest v q (Ref n)
  unfolding of_name
  of_known q (Object h i) k = refl
  of_known q other k = refl

  of_both : (n : Name) (a b : Option (Known Name)) → Sank Y a b → SameOrGone (of_name script honest v s n a) (of_name script honest v t n b)
  of_both n None b (stayed e) = subst (λ o. SameOrGone (of_name script honest v s n None) (of_name script honest v t n o)) (sym e) (of_unknown n)
  of_both n (Some k) b (stayed e) = subst (λ o. SameOrGone (of_name script honest v s n (Some k)) (of_name script honest v t n o)) (sym e)
      (subst (λ c. SameOrGone c (of_name script honest v t n (Some k))) (sym (of_known s n k)) (subst (λ c. SameOrGone (by_follow script honest v s (Ref n)) c) (sym (of_known t n k)) (follows_on (Ref n))))
  of_both n a b (broke k e f) = subst (λ o. SameOrGone (of_name script honest v s n o) (of_name script honest v t n b)) (sym e) (subst (λ o. SameOrGone (of_name script honest v s n (Some k)) (of_name script honest v t n o)) (sym f)
      (subst (λ c. SameOrGone c (of_name script honest v t n (Some (Broke Y k)))) (sym (of_known s n k)) (subst (λ c. SameOrGone (by_follow script honest v s (Ref n)) c) (sym (of_known t n (Broke Y k))) (follows_on (Ref n)))))

  pub leads_on : (x : Value Name) → SameOrGone (leads_in script honest v s x) (leads_in script honest v t x)
  unfolding leads_in
  leads_on (Ref n) = of_both n (entry_of K s.known n) (entry_of K t.known n) (g.entries n)
  leads_on other = follows_on other
