-- As a vat is told of a name of another vat, each reference leads where it led, or to where the name leads on.
use Rattle.std.proofs.Common.{◌≡◌, ℕ, zero, suc, Bool, true, false, Option, Some, None, length, refl, sym, ap, subst, ◌∙◌, ◌⊎◌, inl, inr}
use Rattle.std.proofs.lemmas.Bool.{ne_eqb}
use Rattle.std.specs.Prelude.{codes, ◌==◌}
use Rattle.def_machine.specs.Values.{Value, Broken, Ref, Name, Root, Object, Naming, Spot, Own, Foreign, NoObject, host_of, spot_of, naming, same_name}
use Rattle.def_machine.specs.State.{Standing, Unsettled, WaitsOn, Viewed, Settled, Known, Vat, is_in}
use Rattle.def_machine.specs.Refs as refs
use Rattle.def_machine.specs.Refs.{Mine, Away}
use Rattle.def_run.specs.World.{Script, names}
use Rattle.law_order.specs.Ordering.Ways.{Place, Nowhere, End, Queue, Held, Way}
use Rattle.law_order.specs.Ordering.Places.{aimed, by_host, by_follow, of_name, leads_in}
use Rattle.law_order.specs.Ordering.Worlds.{IsWaiting, IsObject, IsFixed}
use Rattle.law_order.specs.Ordering.Settle.{aimed_at}
use Rattle.law_order.proofs.Ordering.Sends.{some_same}
use Rattle.law_order.proofs.Ordering.Named.{Test, test_self, test_is, same_is, same_self, false_true}
use Rattle.law_order.proofs.Ordering.Settled.{ref_same, is_object}
use Rattle.law_order.specs.Arrivals.Tellings.{HostsAreTold, told_by, LeadsOnTo, StandsSo, IsToldOf}
use Rattle.law_order.proofs.Arrivals.Reaching.{severed_has, by_host_has, leads_has}

-- ---- what becomes of places

module _ (v : ℕ) (n : Name) (e : Place) where
  pub tells_here : (b : ℕ) → told_by v n e (End (Way v b) n) ≡ e
  unfolding told_by
  tells_here b = ap (λ c. elim c [ true ↦ e | false ↦ End (Way v b) n ]) (test_self v n)

  pub tells_other : (a b : ℕ) (m : Name) → (a ≡ v → m ≡ n → ⊥) → told_by v n e (End (Way a b) m) ≡ End (Way a b) m
  unfolding told_by
  tells_other a b m away = go (Test v n a m) refl
    where
      go : (c : Bool) → Test v n a m ≡ c → elim c [ true ↦ e | false ↦ End (Way a b) m ] ≡ End (Way a b) m
      go true i = let h = test_is v n a m i in absurd (away h.0 h.1)
      go false i = refl

  pub tells_queue : (u : ℕ) (m : Name) → told_by v n e (End (Queue u) m) ≡ End (Queue u) m
  unfolding told_by
  tells_queue u m = refl

  pub tells_held : (u : ℕ) (q m : Name) → told_by v n e (End (Held u q) m) ≡ End (Held u q) m
  unfolding told_by
  tells_held u q m = refl

  pub tells_nowhere : told_by v n e Nowhere ≡ Nowhere
  unfolding told_by
  tells_nowhere = refl

abbrev IsRef : Value Name → Type 0
IsRef (Ref n) = Unit {0}
IsRef other = ⊥

no_ref : (x : Value Name) (n : Name) → (IsRef x → ⊥) → x ≡ Ref n → ⊥
no_ref x n f e = f (subst IsRef (sym e) tt)

pub spot_plain : (script : Script) (u : ℕ) (m : Name) → (IsObject m → ⊥) → (names script u).spot m ≡ NoObject
unfolding names naming spot_of
spot_plain script u (Object h i) e = absurd (e tt)
spot_plain script u other e = refl

-- whether it is that name
pub is_name : (m n : Name) → (m ≡ n) ⊎ (m ≡ n → ⊥)
is_name m n = go (same_name m n) refl
  where
    go : (c : Bool) → same_name m n ≡ c → (m ≡ n) ⊎ (m ≡ n → ⊥)
    go true e = inl (same_is m n e)
    go false e = inr (λ i. false_true (sym e ∙ subst (λ z. same_name z n ≡ true) (sym i) (same_self n)))

-- ---- the vat that is told

module _ (script : Script) (honest : ℕ → Bool) (v h : ℕ) (s t : Vat Name) (n : Name) (y : Value Name) (hosts : HostsAreTold (names script v) s) (g : IsToldOf script v h s t n y) where
  abbrev K : Naming Name Name
  K = names script v

  standing_so : (a b : Option (Known Name)) → StandsSo a b → refs.standing_in b ≡ refs.standing_in a
  unfolding refs.standing_in
  standing_so None None i = refl
  standing_so (Some j) (Some k) i = i.0
  standing_so other another i = absurd i

  pub others_stand : (m : Name) → (m ≡ n → ⊥) → refs.standing_of K t.known m ≡ refs.standing_of K s.known m
  unfolding refs.standing_of
  others_stand m i = standing_so (refs.entry_of K s.known m) (refs.entry_of K t.known m) (g.only.others m i)

  pub stood : refs.standing_of K s.known n ≡ Unsettled
  unfolding refs.standing_of refs.standing_in
  stood = ap (λ o. refs.standing_in o) g.only.found ∙ g.only.waits

  pub stands : refs.standing_of K t.known n ≡ g.only.after.standing
  unfolding refs.standing_of refs.standing_in
  stands = ap (λ o. refs.standing_in o) g.only.found_then

  led_on : (f : Value Name → Value Name) (q : Standing Name) → LeadsOnTo y q → refs.led K f n q ≡ f y
  unfolding refs.led
  led_on f (WaitsOn z) i = absurd i
  led_on f Unsettled i = absurd i
  led_on f other i = ap f i

  -- what is followed in s and in t: not far enough, to n and on to y, or past n
  data Meets : Value Name → Value Name → Type 0 where
    stuck : {a : Value Name} → Meets a (Ref n)
    met : Meets (Ref n) y
    missed : {a : Value Name} → (a ≡ Ref n → ⊥) → Meets a a

  told_met : (f j : Value Name → Value Name) → j y ≡ y → Meets (refs.led K f n (refs.standing_of K s.known n)) (refs.led K j n (refs.standing_of K t.known n))
  unfolding refs.led
  told_met f j e = subst (λ q. Meets (refs.led K f n q) (refs.led K j n (refs.standing_of K t.known n))) (sym stood)
      (subst (λ z. Meets (Ref n) z) (sym (ap (λ q. refs.led K j n q) stands ∙ led_on j g.only.after.standing g.only.leads ∙ e)) met)

  other_met : (f j : Value Name → Value Name) → ((z : Value Name) → Meets (f z) (j z)) → (m : Name) → (m ≡ n → ⊥) → (q : Standing Name) → Meets (refs.led K f m q) (refs.led K j m q)
  unfolding refs.led
  other_met f j i m away (Settled z) = i z
  other_met f j i m away (Viewed q) = i (Ref q)
  other_met f j i m away other = missed (λ e. away (ref_same m n e))

  data_met : (x : Value Name) → (IsRef x → ⊥) → Meets x x
  data_met x i = missed (λ e. no_ref x n i e)

  zero_met : (m : Name) → (m ≡ n) ⊎ (m ≡ n → ⊥) → Meets (Ref m) (Ref m)
  zero_met m (inl e) = subst (λ z. Meets (Ref z) (Ref z)) (sym e) stuck
  zero_met m (inr i) = missed (λ e. i (ref_same m n e))

  name_met : (f j : Value Name → Value Name) → ((z : Value Name) → Meets (f z) (j z)) → j y ≡ y → (m : Name) → (m ≡ n) ⊎ (m ≡ n → ⊥) → Meets (refs.led K f m (refs.standing_of K s.known m)) (refs.led K j m (refs.standing_of K t.known m))
  name_met f j i e m (inl q) = subst (λ z. Meets (refs.led K f z (refs.standing_of K s.known z)) (refs.led K j z (refs.standing_of K t.known z))) (sym q) (told_met f j e)
  name_met f j i e m (inr q) = subst (λ z. Meets (refs.led K f m (refs.standing_of K s.known m)) (refs.led K j m z)) (sym (others_stand m q)) (other_met f j i m q (refs.standing_of K s.known m))

  meets : (d : ℕ) (x : Value Name) → Meets (refs.follow_at K d s.known x) (refs.follow_at K d t.known x)
  unfolding refs.follow_at
  meets zero (Ref m) = zero_met m (is_name m n)
  meets (suc d) (Ref m) = name_met (λ z. refs.follow_at K d s.known z) (λ z. refs.follow_at K d t.known z) (λ z. meets d z) (g.ended d) m (is_name m n)
  meets zero other = data_met other (λ i. i)
  meets (suc d) other = data_met other (λ i. i)

  -- n is no end any more
  not_led : (q : Standing Name) → LeadsOnTo y q → IsWaiting q → ⊥
  not_led (WaitsOn z) i j = i
  not_led Unsettled i j = i
  not_led other i j = j

  not_fixed : IsFixed K t (Ref n) → ⊥
  not_fixed (inl i) = g.plain i
  not_fixed (inr i) = not_led g.only.after.standing g.only.leads (subst (λ k. IsWaiting k.standing) (some_same i.0 g.only.after (sym i.1 ∙ g.only.found_then)) i.2)

  known_goes : (m : Name) (k : Known Name) → refs.entry_of K t.known m ≡ Some k → refs.follow_at K (suc (length t.known)) t.known (Ref m) ≡ Ref n → ⊥
  known_goes m k e q = not_fixed (subst (IsFixed K t) q (g.follows.fixed m (k, e)))

  pub object_there : (d : ℕ) (ks : _) (m : Name) → refs.entry_of K ks m ≡ None → refs.follow_at K d ks (Ref m) ≡ Ref m
  unfolding refs.follow_at refs.standing_of refs.standing_in refs.led
  object_there zero ks m e = refl
  object_there (suc d) ks m e = ap (λ o. refs.led K (λ z. refs.follow_at K d ks z) m (refs.standing_in o)) e

  object_goes : (m : Name) → IsObject m → refs.follow_at K (suc (length t.known)) t.known (Ref m) ≡ Ref n → ⊥
  object_goes m i q = g.plain (subst IsObject (ref_same m n (sym (object_there (suc (length t.known)) t.known m (g.follows.objects m i)) ∙ q)) i)

  -- ---- followed values are where they were

  host_so : (d : ℕ) (a b : Option (Known Name)) → StandsSo a b → refs.host_in d b ≡ refs.host_in d a
  unfolding refs.host_in
  host_so d None None i = refl
  host_so d (Some j) (Some k) i = i.1
  host_so d other another i = absurd i

  entries_host : (d : ℕ) (m : Name) → (m ≡ n) ⊎ (m ≡ n → ⊥) → refs.host_in d (refs.entry_of K t.known m) ≡ refs.host_in d (refs.entry_of K s.known m)
  unfolding refs.host_in
  entries_host d m (inl q) = subst (λ z. refs.host_in d (refs.entry_of K t.known z) ≡ refs.host_in d (refs.entry_of K s.known z)) (sym q) (ap (λ o. refs.host_in d o) g.only.found_then ∙ g.only.host ∙ sym (ap (λ o. refs.host_in d o) g.only.found))
  entries_host d m (inr i) = host_so d (refs.entry_of K s.known m) (refs.entry_of K t.known m) (g.only.others m i)

  hosts_same : (m : Name) → refs.host_at K t.number t.known m ≡ refs.host_at K s.number s.known m
  unfolding refs.host_at
  hosts_same m = ap (λ d. refs.host_in d (refs.entry_of K t.known m)) g.only.number ∙ entries_host s.number m (is_name m n)

  severs : (d : ℕ) (m : Name) → refs.severed_by K d t m ≡ refs.severed_by K d s m
  unfolding refs.severed_by
  severs d m = ap (λ q. elim (is_in d q) [ true ↦ Broken (codes "partition") | false ↦ Ref m ]) g.only.noticed

  severed_spot : (m : Name) (q : Spot) → refs.severed_at K t m q ≡ refs.severed_at K s m q
  unfolding refs.severed_at
  severed_spot m (Own i) = refl
  severed_spot m (Foreign d) = severs d m
  severed_spot m NoObject = severs (refs.host_at K t.number t.known m) m ∙ ap (λ d. refs.severed_by K d s m) (hosts_same m)

  severed_same : (z : Value Name) → refs.severed K t z ≡ refs.severed K s z
  unfolding refs.severed
  severed_same (Ref m) = severed_spot m (K.spot m)
  severed_same other = refl

  spotted_same : (m : Name) (q : Spot) → refs.spotted K t m q ≡ refs.spotted K s m q
  unfolding refs.spotted
  spotted_same m NoObject = ap (λ w. refs.hosted K w m (refs.host_at K t.number t.known m)) g.only.number ∙ ap (λ d. refs.hosted K s.number m d) (hosts_same m)
  spotted_same m other = refl

  place_same : (z : Value Name) → refs.place K t z ≡ refs.place K s z
  unfolding refs.place
  place_same (Ref m) = spotted_same m (K.spot m)
  place_same other = refl

  abbrev E : Place
  E = aimed_at script v t y

  abbrev F : Place → Place
  F = told_by v n E

  abbrev Aim : Vat Name → Value Name → Place
  Aim r z = aimed v z (refs.place K r z)

  pub aims_same : (z : Value Name) → Aim t (refs.severed K t z) ≡ Aim s (refs.severed K s z)
  aims_same z = ap (λ q. Aim t q) (severed_same z) ∙ ap (λ q. aimed v (refs.severed K s z) q) (place_same (refs.severed K s z))

  host_before : refs.host_at K s.number s.known n ≡ h
  unfolding refs.host_at refs.host_in
  host_before = ap (λ o. refs.host_in s.number o) g.only.found ∙ hosts n g.only.before g.only.found ∙ g.host

  abbrev SeveredBy : Bool → Value Name
  SeveredBy c = elim c [ true ↦ Broken (codes "partition") | false ↦ Ref n ]

  severed_before : (c : Bool) → is_in h s.noticed ≡ c → refs.severed K s (Ref n) ≡ SeveredBy c
  unfolding refs.severed refs.severed_at refs.severed_by
  severed_before c e = ap (λ q. refs.severed_at K s n q) (spot_plain script v n g.plain) ∙ ap (λ d. SeveredBy (is_in d s.noticed)) host_before ∙ ap (λ q. SeveredBy q) e

  away_there : refs.place K s (Ref n) ≡ Away h n false
  unfolding refs.place refs.spotted refs.hosted
  away_there = ap (λ q. refs.spotted K s n q) (spot_plain script v n g.plain)
      ∙ ap (λ d. elim (s.number == d) [ true ↦ Mine n | false ↦ Away d n false ]) host_before
      ∙ ap (λ c. elim c [ true ↦ Mine n | false ↦ Away h n false ]) (ne_eqb s.number h (λ e. g.other (sym e ∙ g.own)))

  -- what was sent on n went to its host, or was lost where that is noticed
  abbrev AimedBy : Bool → Place
  AimedBy c = elim c [ true ↦ Nowhere | false ↦ End (Way v h) n ]

  aimed_before : (c : Bool) → is_in h s.noticed ≡ c → Aim s (refs.severed K s (Ref n)) ≡ AimedBy c
  unfolding aimed refs.place
  aimed_before true e = ap (λ z. Aim s z) (severed_before true e)
  aimed_before false e = ap (λ z. Aim s z) (severed_before false e) ∙ ap (λ q. aimed v (Ref n) q) away_there

  pub value_stays : (z : Value Name) → (z ≡ Ref n → ⊥) → F (Aim s (refs.severed K s z)) ≡ Aim s (refs.severed K s z)
  value_stays z away = severed_has script honest v s hosts (λ c. F c ≡ c) (λ m. m ≡ n → ⊥) (tells_nowhere v n E) (λ m. tells_queue v n E v m) (λ m. tells_held v n E v m m) (λ b m i e. tells_other v n E v b m (λ a. i)) z (λ m e i. away (e ∙ ap (λ q. Ref q) i))

  met_by : (c : Bool) → is_in h s.noticed ≡ c → (is_in h s.noticed ≡ false) ⊎ (E ≡ Nowhere) → E ≡ F (Aim s (refs.severed K s (Ref n)))
  met_by false e i = sym (ap F (aimed_before false e) ∙ tells_here v n E h)
  met_by true e (inl i) = false_true (sym i ∙ e)
  met_by true e (inr i) = i ∙ sym (ap F (aimed_before true e) ∙ tells_nowhere v n E)

  aims_on : (a b : Value Name) → Meets a b → (b ≡ Ref n → ⊥) → Aim t (refs.severed K t b) ≡ F (Aim s (refs.severed K s a))
  unfolding aimed_at
  aims_on a b stuck i = absurd (i refl)
  aims_on a b met i = met_by (is_in h s.noticed) refl g.reached
  aims_on a b (missed j) i = aims_same a ∙ sym (value_stays a j)

  follows_on : (x : Value Name) → (refs.follow_at K (suc (length t.known)) t.known x ≡ Ref n → ⊥) → by_follow script honest v t x ≡ F (by_follow script honest v s x)
  unfolding by_follow refs.follow
  follows_on x i = aims_on (refs.follow_at K (suc (length s.known)) s.known x) (refs.follow_at K (suc (length t.known)) t.known x) (subst (λ d. Meets (refs.follow_at K (suc d) s.known x) (refs.follow_at K (suc (length t.known)) t.known x)) g.only.names_known (meets (suc (length t.known)) x)) i

  pub of_some : (r : Vat Name) (m : Name) (k : Known Name) → of_name script honest v r m (Some k) ≡ by_follow script honest v r (Ref m)
  unfolding of_name
  of_some r (Root d) k = refl
  of_some r other k = refl

  pub of_object : (r : Vat Name) (m : Name) (o : Option (Known Name)) → IsObject m → of_name script honest v r m o ≡ by_follow script honest v r (Ref m)
  unfolding of_name
  of_object r (Object d i) o e = refl
  of_object r other o e = absurd e

  pub of_none : (r : Vat Name) (m : Name) → (IsObject m → ⊥) → of_name script honest v r m None ≡ by_host v r m (host_of m)
  unfolding of_name
  of_none r (Object d i) e = absurd (e tt)
  of_none r other e = refl

  -- known in both, or in neither
  abbrev Paired : Name → Option (Known Name) → Option (Known Name) → Type 0
  Paired m None None = m ≡ n → ⊥
  Paired m (Some j) (Some k) = Unit {0}
  Paired m other another = ⊥

  so_paired : (m : Name) (a b : Option (Known Name)) → (m ≡ n → ⊥) → StandsSo a b → Paired m a b
  so_paired m None None i e = i
  so_paired m (Some j) (Some k) i e = tt
  so_paired m other another i e = e

  paired : (m : Name) → (m ≡ n) ⊎ (m ≡ n → ⊥) → Paired m (refs.entry_of K s.known m) (refs.entry_of K t.known m)
  paired m (inl q) = subst (λ z. Paired z (refs.entry_of K s.known z) (refs.entry_of K t.known z)) (sym q) (subst (λ a. Paired n a (refs.entry_of K t.known n)) (sym g.only.found) (subst (λ b. Paired n (Some g.only.before) b) (sym g.only.found_then) tt))
  paired m (inr i) = so_paired m (refs.entry_of K s.known m) (refs.entry_of K t.known m) i (g.only.others m i)

  by_host_same : (m : Name) (d : ℕ) → by_host v t m d ≡ by_host v s m d
  unfolding by_host
  by_host_same m d = ap (λ q. elim (is_in d q) [ true ↦ Nowhere | false ↦ elim (v == d) [ true ↦ End (Held v m) m | false ↦ End (Way v d) m ] ]) g.only.noticed

  pub unknown_stays : (m : Name) → (m ≡ n → ⊥) → F (by_host v s m (host_of m)) ≡ by_host v s m (host_of m)
  unknown_stays m i = by_host_has script honest v s hosts (λ c. F c ≡ c) (λ q. q ≡ n → ⊥) (tells_nowhere v n E) (λ q. tells_queue v n E v q) (λ q. tells_held v n E v q q) (λ b q j e. tells_other v n E v b q (λ a. j)) m i

  name_on : (m : Name) (a b : Option (Known Name)) → refs.entry_of K t.known m ≡ b → Paired m a b → IsObject m ⊎ (IsObject m → ⊥) → of_name script honest v t m b ≡ F (of_name script honest v s m a)
  name_on m a b e i (inl o) = of_object t m b o ∙ follows_on (Ref m) (object_goes m o) ∙ ap F (sym (of_object s m a o))
  name_on m (Some j) (Some k) e i (inr o) = of_some t m k ∙ follows_on (Ref m) (known_goes m k e) ∙ ap F (sym (of_some s m j))
  name_on m None None e i (inr o) = of_none t m o ∙ by_host_same m (host_of m) ∙ sym (ap F (of_none s m o) ∙ unknown_stays m i)
  name_on m None (Some k) e i (inr o) = absurd i
  name_on m (Some j) None e i (inr o) = absurd i

  data_on : (x : Value Name) → (IsRef x → ⊥) → refs.follow_at K (suc (length t.known)) t.known x ≡ x → by_follow script honest v t x ≡ F (by_follow script honest v s x)
  data_on x i e = follows_on x (λ q. no_ref x n i (sym e ∙ q))

  pub leads_on : (x : Value Name) → leads_in script honest v t x ≡ F (leads_in script honest v s x)
  unfolding leads_in refs.follow_at
  leads_on (Ref m) = name_on m (refs.entry_of K s.known m) (refs.entry_of K t.known m) refl (paired m (is_name m n)) (is_object m)
  leads_on other = data_on other (λ i. i) refl

-- ---- another vat

-- at another vat each reference leads where it led
pub far_stays : (script : Script) (honest : ℕ → Bool) (v : ℕ) (n : Name) (e : Place) (u : ℕ) (r : Vat Name) → HostsAreTold (names script u) r → (u ≡ v → ⊥) → (x : Value Name) → told_by v n e (leads_in script honest u r x) ≡ leads_in script honest u r x
far_stays script honest v n e u r hosts away x = leads_has script honest u r hosts (λ c. told_by v n e c ≡ c) (λ m. Unit {0}) (tells_nowhere v n e) (λ m. tells_queue v n e u m) (λ m. tells_held v n e u m m) (λ b m i q. tells_other v n e u b m (λ a. absurd (away a))) (λ m. tt) x
