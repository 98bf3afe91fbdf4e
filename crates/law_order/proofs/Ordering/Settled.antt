-- As a name settles, each reference leads where it led, or where what it settled to leads.
use Rattle.std.proofs.Common.{◌≡◌, ℕ, zero, suc, Bool, true, false, Option, Some, None, length, refl, sym, ap, subst, ◌∙◌, ◌⊎◌, inl, inr, eq-eqb}
use Rattle.std.specs.Prelude.{codes, ◌==◌}
use Rattle.def_machine.specs.Values.{Value, Broken, Ref, Name, Root, Object, Promise, Gift, Naming, Spot, Own, Foreign, NoObject, host_of, spot_of, naming}
use Rattle.def_machine.specs.State.{Standing, Viewed, Settled, Known, Vat, is_in}
use Rattle.def_machine.specs.Refs as refs
use Rattle.def_machine.specs.Refs.{Mine, Away}
use Rattle.def_run.specs.World.{Script, names}
use Rattle.law_order.specs.Ordering.Ways.{Place, Nowhere, Free, End, Mid, Queue, Held, Way}
use Rattle.law_order.specs.Ordering.Turns.{IsDefinite}
use Rattle.law_order.specs.Ordering.Places.{aimed, by_host, by_follow, of_name, leads_in}
use Rattle.law_order.specs.Ordering.Worlds.{IsWaiting, IsObject, IsFixed, StandsAlike, FollowsEnd}
use Rattle.law_order.specs.Ordering.Settle.{passed_by, IsEnded, OnlySettles, SettlesHere, aimed_at}
use Rattle.law_order.proofs.Ordering.Sends.{some_same}
use Rattle.law_order.proofs.Ordering.Named.{passes_here, passes_other, passes_queue, passes_way, passes_nowhere}

abbrev IsData : Value Name → Type 0
IsData (Ref n) = ⊥
IsData other = Unit {0}

pub ref_same : (n m : Name) → Ref n ≡ Ref m → n ≡ m
ref_same n m e = ap (λ y. elim y [ Ref k ↦ k | _ ↦ n ]) e

pub is_object : (m : Name) → IsObject m ⊎ (IsObject m → ⊥)
is_object (Object h i) = inl tt
is_object other = inr (λ e. e)

module _ (K : Naming Name Name) (s t : Vat Name) (p : Name) (y : Value Name) (o : OnlySettles K s t p y) (plain : IsObject p → ⊥) (ended : IsEnded y) (g : FollowsEnd K t) where
  standing_alike : (n : Name) (a b : Option (Known Name)) → StandsAlike n a b → refs.standing_in b ≡ refs.standing_in a
  unfolding refs.standing_in
  standing_alike n None None h = refl
  standing_alike n (Some j) (Some k) h = h.0
  standing_alike n other another h = absurd h

  pub others_stand : (n : Name) → StandsAlike n (refs.entry_of K s.known n) (refs.entry_of K t.known n) → refs.standing_of K t.known n ≡ refs.standing_of K s.known n
  unfolding refs.standing_of
  others_stand n h = standing_alike n (refs.entry_of K s.known n) (refs.entry_of K t.known n) h

  pub stood : IsWaiting (refs.standing_of K s.known p)
  unfolding refs.standing_of refs.standing_in
  stood = subst (λ q. IsWaiting (refs.standing_in q)) (sym o.before.1) o.before.2

  pub stands : refs.standing_of K t.known p ≡ Settled y
  unfolding refs.standing_of refs.standing_in
  stands = ap (λ q. refs.standing_in q) o.after.1 ∙ o.after.2

  waits_here : (f : Value Name → Value Name) (n : Name) (q : Standing Name) → IsWaiting q → refs.led K f n q ≡ Ref n
  unfolding refs.led
  waits_here f n (Viewed q) h = absurd h
  waits_here f n (Settled z) h = absurd h
  waits_here f n other h = refl

  object_waits : (m : Name) → IsObject m → IsWaiting (refs.standing_of K t.known m)
  unfolding refs.standing_of refs.standing_in
  object_waits m i = subst (λ q. IsWaiting (refs.standing_in q)) (sym (g.objects m i)) tt

  object_there : (d : ℕ) (m : Name) → IsObject m → refs.follow_at K d t.known (Ref m) ≡ Ref m
  unfolding refs.follow_at
  object_there zero m i = refl
  object_there (suc d) m i = waits_here (λ z. refs.follow_at K d t.known z) m (refs.standing_of K t.known m) (object_waits m i)

  ended_there : (d : ℕ) (z : Value Name) → IsEnded z → refs.follow_at K d t.known z ≡ z
  unfolding refs.follow_at
  ended_there d (Ref m) i = object_there d m i
  ended_there zero other i = refl
  ended_there (suc d) other i = refl

  -- what is followed in s and in t: not far enough, to p and on to y, or past p
  data Meets : Value Name → Value Name → Type 0 where
    stuck : {a : Value Name} → Meets a (Ref p)
    met : Meets (Ref p) y
    missed : {a : Value Name} → (a ≡ Ref p → ⊥) → Meets a a

  settled_met : (f h : Value Name → Value Name) → h y ≡ y → Meets (refs.led K f p (refs.standing_of K s.known p)) (refs.led K h p (refs.standing_of K t.known p))
  unfolding refs.led
  settled_met f h e = subst (λ a. Meets a (refs.led K h p (refs.standing_of K t.known p))) (sym (waits_here f p (refs.standing_of K s.known p) stood)) (subst (λ q. Meets (Ref p) (refs.led K h p q)) (sym stands) (subst (Meets (Ref p)) (sym e) met))

  other_met : (f h : Value Name → Value Name) → ((z : Value Name) → Meets (f z) (h z)) → (n : Name) → (n ≡ p → ⊥) → (q : Standing Name) → Meets (refs.led K f n q) (refs.led K h n q)
  unfolding refs.led
  other_met f h i n away (Settled z) = i z
  other_met f h i n away (Viewed q) = i (Ref q)
  other_met f h i n away other = missed (λ e. away (ref_same n p e))

  data_met : (x : Value Name) → IsData x → Meets x x
  data_met x i = missed (λ e. subst IsData e i)

  zero_met : (n : Name) → (n ≡ p) ⊎ ((n ≡ p → ⊥) × StandsAlike n (refs.entry_of K s.known n) (refs.entry_of K t.known n)) → Meets (Ref n) (Ref n)
  zero_met n (inl e) = subst (λ z. Meets (Ref z) (Ref z)) (sym e) stuck
  zero_met n (inr h) = missed (λ e. h.0 (ref_same n p e))

  name_met : (f h : Value Name → Value Name) → ((z : Value Name) → Meets (f z) (h z)) → h y ≡ y → (n : Name) → (n ≡ p) ⊎ ((n ≡ p → ⊥) × StandsAlike n (refs.entry_of K s.known n) (refs.entry_of K t.known n)) → Meets (refs.led K f n (refs.standing_of K s.known n)) (refs.led K h n (refs.standing_of K t.known n))
  name_met f h i e n (inl q) = subst (λ z. Meets (refs.led K f z (refs.standing_of K s.known z)) (refs.led K h z (refs.standing_of K t.known z))) (sym q) (settled_met f h e)
  name_met f h i e n (inr q) = subst (λ z. Meets (refs.led K f n (refs.standing_of K s.known n)) (refs.led K h n z)) (sym (others_stand n q.1)) (other_met f h i n q.0 (refs.standing_of K s.known n))

  meets : (d : ℕ) (x : Value Name) → Meets (refs.follow_at K d s.known x) (refs.follow_at K d t.known x)
  unfolding refs.follow_at
  meets zero (Ref n) = zero_met n (o.others n)
  meets (suc d) (Ref n) = name_met (λ z. refs.follow_at K d s.known z) (λ z. refs.follow_at K d t.known z) (λ z. meets d z) (ended_there d y ended) n (o.others n)
  meets zero other = data_met other tt
  meets (suc d) other = data_met other tt

  -- p is no end any more
  not_fixed : IsFixed K t (Ref p) → ⊥
  not_fixed (inl i) = plain i
  not_fixed (inr h) = subst IsWaiting (ap (λ k. k.standing) (some_same h.0 o.after.0 (sym h.1 ∙ o.after.1)) ∙ o.after.2) h.2

  -- what is followed to an end
  abbrev Goes : Value Name → Type 0
  Goes x = refs.follow_at K (suc (length t.known)) t.known x ≡ Ref p → ⊥

  known_goes : (n : Name) (k : Known Name) → refs.entry_of K t.known n ≡ Some k → Goes (Ref n)
  known_goes n k e q = not_fixed (subst (IsFixed K t) q (g.fixed n (k, e)))

  object_goes : (n : Name) → IsObject n → Goes (Ref n)
  object_goes n i q = plain (subst IsObject (ref_same n p (sym (object_there (suc (length t.known)) n i) ∙ q)) i)

  hosts_alike : (n : Name) (v : ℕ) (a b : Option (Known Name)) → StandsAlike n a b → refs.host_in v b ≡ refs.host_in v a
  unfolding refs.host_in
  hosts_alike n v None None h = refl
  hosts_alike n v (Some j) (Some k) h = h.1
  hosts_alike n v other another h = absurd h

-- ---- places that stay

-- what would not be held for name p of vat v
module _ (K : Naming Name Name) (v : ℕ) (p : Name) (e : Place) (u : ℕ) (r : Vat Name) where
  abbrev Stays : Place → Type 0
  Stays c = passed_by v p e c ≡ c

  hosted_stays : (n : Name) → (u ≡ v → n ≡ p → ⊥) → (a h : ℕ) (c : Bool) → Stays (aimed u (Ref n) (elim c [ true ↦ Mine n | false ↦ Away h n false ]))
  unfolding aimed
  hosted_stays n away a h true = passes_other v p e u n n away
  hosted_stays n away a h false = passes_way v p e u h n

  spot_stays : (n : Name) → (u ≡ v → n ≡ p → ⊥) → (q : Spot) → Stays (aimed u (Ref n) (refs.spotted K r n q))
  unfolding aimed refs.spotted refs.hosted
  spot_stays n away (Own i) = passes_queue v p e u n
  spot_stays n away (Foreign h) = passes_way v p e u h n
  spot_stays n away NoObject = hosted_stays n away r.number (refs.host_at K r.number r.known n) (r.number == refs.host_at K r.number r.known n)

  value_stays : (z : Value Name) → (u ≡ v → z ≡ Ref p → ⊥) → Stays (aimed u z (refs.place K r z))
  unfolding aimed refs.place
  value_stays (Ref n) away = spot_stays n (λ i j. away i (ap (λ m. Ref m) j)) (K.spot n)
  value_stays other away = passes_nowhere v p e

  broken_or : (n : Name) → (u ≡ v → Ref n ≡ Ref p → ⊥) → (c : Bool) → Stays (aimed u (elim c [ true ↦ Broken (codes "partition") | false ↦ Ref n ]) (refs.place K r (elim c [ true ↦ Broken (codes "partition") | false ↦ Ref n ])))
  broken_or n away true = value_stays (Broken (codes "partition")) (λ i j. subst IsData j tt)
  broken_or n away false = value_stays (Ref n) away

  severed_spot_stays : (n : Name) → (u ≡ v → Ref n ≡ Ref p → ⊥) → (q : Spot) → Stays (aimed u (refs.severed_at K r n q) (refs.place K r (refs.severed_at K r n q)))
  unfolding refs.severed_at refs.severed_by
  severed_spot_stays n away (Own i) = value_stays (Ref n) away
  severed_spot_stays n away (Foreign h) = broken_or n away (is_in h r.noticed)
  severed_spot_stays n away NoObject = broken_or n away (is_in (refs.host_at K r.number r.known n) r.noticed)

  severed_stays : (z : Value Name) → (u ≡ v → z ≡ Ref p → ⊥) → Stays (aimed u (refs.severed K r z) (refs.place K r (refs.severed K r z)))
  unfolding refs.severed
  severed_stays (Ref n) away = severed_spot_stays n away (K.spot n)
  severed_stays other away = value_stays other away

  by_bools : (n : Name) (h : ℕ) → (u ≡ v → n ≡ p → ⊥) → (c d : Bool) → Stays (elim c [ true ↦ Nowhere | false ↦ elim d [ true ↦ End (Held u n) n | false ↦ End (Way u h) n ] ])
  by_bools n h away true d = passes_nowhere v p e
  by_bools n h away false true = passes_other v p e u n n away
  by_bools n h away false false = passes_way v p e u h n

  by_host_stays : (n : Name) (h : ℕ) → (u ≡ v → n ≡ p → ⊥) → Stays (by_host u r n h)
  unfolding by_host
  by_host_stays n h away = by_bools n h away (is_in h r.noticed) (u == h)

module _ (script : Script) (honest : ℕ → Bool) (v : ℕ) (p : Name) (e : Place) (u : ℕ) (r : Vat Name) (away : u ≡ v → ⊥) where
  follow_stays : (x : Value Name) → passed_by v p e (by_follow script honest u r x) ≡ by_follow script honest u r x
  unfolding by_follow refs.follow
  follow_stays x = severed_stays (names script u) v p e u r (refs.follow_at (names script u) (suc (length r.known)) r.known x) (λ i j. away i)

  name_stays : (n : Name) (o : Option (Known Name)) → passed_by v p e (of_name script honest u r n o) ≡ of_name script honest u r n o
  unfolding of_name
  name_stays (Object h i) o = follow_stays (Ref (Object h i))
  name_stays (Promise h i) None = by_host_stays (names script u) v p e u r (Promise h i) (host_of (Promise h i)) (λ i j. away i)
  name_stays (Gift h i) None = by_host_stays (names script u) v p e u r (Gift h i) (host_of (Gift h i)) (λ i j. away i)
  name_stays other (Some k) = follow_stays (Ref other)
  name_stays other None = by_host_stays (names script u) v p e u r other (host_of other) (λ i j. away i)

  -- at another vat each reference leads where it led
  pub far_stays : (x : Value Name) → passed_by v p e (leads_in script honest u r x) ≡ leads_in script honest u r x
  unfolding leads_in
  far_stays (Ref n) = name_stays n (refs.entry_of (names script u) r.known n)
  far_stays other = follow_stays other

-- ---- the vat in which the name settles

module _ (script : Script) (honest : ℕ → Bool) (v : ℕ) (s t : Vat Name) (p : Name) (y : Value Name) (g : SettlesHere (names script v) s t p y v) where
  abbrev K : Naming Name Name
  K = names script v

  abbrev E : Place
  E = aimed_at script v t y

  abbrev F : Place → Place
  F = passed_by v p E

  host_some : (k : Known Name) (o : Option (Known Name)) (w : ℕ) → o ≡ Some k → k.host ≡ v → refs.host_in w o ≡ v
  unfolding refs.host_in
  host_some k o w e f = subst (λ q. refs.host_in w q ≡ v) (sym e) f

  host_before : refs.host_at K s.number s.known p ≡ v
  unfolding refs.host_at
  host_before = host_some g.only.before.0 (refs.entry_of K s.known p) s.number g.only.before.1 (g.host g.only.before.0 g.only.before.1)

  host_then : refs.host_at K t.number t.known p ≡ v
  unfolding refs.host_at
  host_then = host_some g.only.after.0 (refs.entry_of K t.known p) t.number g.only.after.1 (g.host_after g.only.after.0 g.only.after.1)

  hosts_by : (n : Name) → (n ≡ p) ⊎ ((n ≡ p → ⊥) × StandsAlike n (refs.entry_of K s.known n) (refs.entry_of K t.known n)) → refs.host_at K t.number t.known n ≡ refs.host_at K s.number s.known n
  unfolding refs.host_at
  hosts_by n (inl q) = subst (λ z. refs.host_at K t.number t.known z ≡ refs.host_at K s.number s.known z) (sym q) (host_then ∙ sym host_before)
  hosts_by n (inr h) = hosts_alike K s t p y g.only g.plain g.ended g.follows n t.number (refs.entry_of K s.known n) (refs.entry_of K t.known n) h.1 ∙ ap (λ w. refs.host_in w (refs.entry_of K s.known n)) g.only.number

  hosts : (n : Name) → refs.host_at K t.number t.known n ≡ refs.host_at K s.number s.known n
  hosts n = hosts_by n (g.only.others n)

  severs : (h : ℕ) (n : Name) → refs.severed_by K h t n ≡ refs.severed_by K h s n
  unfolding refs.severed_by
  severs h n = ap (λ q. elim (is_in h q) [ true ↦ Broken (codes "partition") | false ↦ Ref n ]) g.only.noticed

  severed_spot : (n : Name) (q : Spot) → refs.severed_at K t n q ≡ refs.severed_at K s n q
  unfolding refs.severed_at
  severed_spot n (Own i) = refl
  severed_spot n (Foreign h) = severs h n
  severed_spot n NoObject = severs (refs.host_at K t.number t.known n) n ∙ ap (λ h. refs.severed_by K h s n) (hosts n)

  severed_same : (z : Value Name) → refs.severed K t z ≡ refs.severed K s z
  unfolding refs.severed
  severed_same (Ref n) = severed_spot n (K.spot n)
  severed_same other = refl

  spotted_same : (n : Name) (q : Spot) → refs.spotted K t n q ≡ refs.spotted K s n q
  unfolding refs.spotted
  spotted_same n NoObject = ap (λ w. refs.hosted K w n (refs.host_at K t.number t.known n)) g.only.number ∙ ap (λ h. refs.hosted K s.number n h) (hosts n)
  spotted_same n other = refl

  place_same : (z : Value Name) → refs.place K t z ≡ refs.place K s z
  unfolding refs.place
  place_same (Ref n) = spotted_same n (K.spot n)
  place_same other = refl

  abbrev Aim : Vat Name → Value Name → Place
  Aim r z = aimed v z (refs.place K r z)

  aims_same : (z : Value Name) → Aim t (refs.severed K t z) ≡ Aim s (refs.severed K s z)
  aims_same z = ap (λ q. Aim t q) (severed_same z) ∙ ap (λ q. aimed v (refs.severed K s z) q) (place_same (refs.severed K s z))

  spot_plain : (m : Name) → (IsObject m → ⊥) → K.spot m ≡ NoObject
  unfolding names naming spot_of
  spot_plain (Object h i) e = absurd (e tt)
  spot_plain other e = refl

  not_severed : refs.severed K s (Ref p) ≡ Ref p
  unfolding refs.severed refs.severed_at refs.severed_by
  not_severed = ap (λ q. refs.severed_at K s p q) (spot_plain p g.plain)
      ∙ ap (λ h. elim (is_in h s.noticed) [ true ↦ Broken (codes "partition") | false ↦ Ref p ]) host_before
      ∙ ap (λ c. elim c [ true ↦ Broken (codes "partition") | false ↦ Ref p ]) g.itself

  mine_there : refs.place K s (Ref p) ≡ Mine p
  unfolding refs.place refs.spotted refs.hosted
  mine_there = ap (λ q. refs.spotted K s p q) (spot_plain p g.plain)
      ∙ ap (λ h. elim (s.number == h) [ true ↦ Mine p | false ↦ Away h p false ]) (host_before ∙ sym g.own)
      ∙ ap (λ c. elim c [ true ↦ Mine p | false ↦ Away s.number p false ]) (eq-eqb s.number s.number refl)

  held_before : Aim s (refs.severed K s (Ref p)) ≡ End (Held v p) p
  unfolding aimed
  held_before = ap (λ z. Aim s z) not_severed ∙ ap (λ q. aimed v (Ref p) q) mine_there

  aims_on : (a b : Value Name) → Meets K s t p y g.only g.plain g.ended g.follows a b → (b ≡ Ref p → ⊥) → Aim t (refs.severed K t b) ≡ F (Aim s (refs.severed K s a))
  unfolding aimed_at
  aims_on a b stuck h = absurd (h refl)
  aims_on a b met h = sym (ap F held_before ∙ passes_here v p E p)
  aims_on a b (missed i) h = aims_same a ∙ sym (severed_stays K v p E v s a (λ q. i))

  abbrev Ends : Value Name → Type 0
  Ends x = refs.follow_at K (suc (length t.known)) t.known x ≡ Ref p → ⊥

  follows_on : (x : Value Name) → Ends x → by_follow script honest v t x ≡ F (by_follow script honest v s x)
  unfolding by_follow refs.follow
  follows_on x h = aims_on (refs.follow_at K (suc (length s.known)) s.known x) (refs.follow_at K (suc (length t.known)) t.known x) (subst (λ d. Meets K s t p y g.only g.plain g.ended g.follows (refs.follow_at K (suc d) s.known x) (refs.follow_at K (suc (length t.known)) t.known x)) g.only.names_known (meets K s t p y g.only g.plain g.ended g.follows (suc (length t.known)) x)) h

  of_some : (r : Vat Name) (m : Name) (k : Known Name) → of_name script honest v r m (Some k) ≡ by_follow script honest v r (Ref m)
  unfolding of_name
  of_some r (Root h) k = refl
  of_some r other k = refl

  of_object : (r : Vat Name) (m : Name) (o : Option (Known Name)) → IsObject m → of_name script honest v r m o ≡ by_follow script honest v r (Ref m)
  unfolding of_name
  of_object r (Object h i) o e = refl
  of_object r other o e = absurd e

  of_none : (r : Vat Name) (m : Name) → (IsObject m → ⊥) → of_name script honest v r m None ≡ by_host v r m (host_of m)
  unfolding of_name
  of_none r (Object h i) e = absurd (e tt)
  of_none r other e = refl

  -- known in both, or in neither
  abbrev Paired : Name → Option (Known Name) → Option (Known Name) → Type 0
  Paired n None None = n ≡ p → ⊥
  Paired n (Some j) (Some k) = Unit {0}
  Paired n other another = ⊥

  alike_paired : (n : Name) (a b : Option (Known Name)) → (n ≡ p → ⊥) → StandsAlike n a b → Paired n a b
  alike_paired n None None i h = i
  alike_paired n (Some j) (Some k) i h = tt
  alike_paired n other another i h = h

  paired_by : (n : Name) → (n ≡ p) ⊎ ((n ≡ p → ⊥) × StandsAlike n (refs.entry_of K s.known n) (refs.entry_of K t.known n)) → Paired n (refs.entry_of K s.known n) (refs.entry_of K t.known n)
  paired_by n (inl q) = subst (λ z. Paired z (refs.entry_of K s.known z) (refs.entry_of K t.known z)) (sym q) (subst (λ a. Paired p a (refs.entry_of K t.known p)) (sym g.only.before.1) (subst (λ b. Paired p (Some g.only.before.0) b) (sym g.only.after.1) tt))
  paired_by n (inr h) = alike_paired n (refs.entry_of K s.known n) (refs.entry_of K t.known n) h.0 h.1

  by_host_same : (n : Name) (h : ℕ) → by_host v t n h ≡ by_host v s n h
  unfolding by_host
  by_host_same n h = ap (λ q. elim (is_in h q) [ true ↦ Nowhere | false ↦ elim (v == h) [ true ↦ End (Held v n) n | false ↦ End (Way v h) n ] ]) g.only.noticed

  name_on : (n : Name) (a b : Option (Known Name)) → refs.entry_of K t.known n ≡ b → Paired n a b → IsObject n ⊎ (IsObject n → ⊥) → of_name script honest v t n b ≡ F (of_name script honest v s n a)
  name_on n a b e h (inl i) = of_object t n b i ∙ follows_on (Ref n) (object_goes K s t p y g.only g.plain g.ended g.follows n i) ∙ ap F (sym (of_object s n a i))
  name_on n (Some j) (Some k) e h (inr i) = of_some t n k ∙ follows_on (Ref n) (known_goes K s t p y g.only g.plain g.ended g.follows n k e) ∙ ap F (sym (of_some s n j))
  name_on n None None e h (inr i) = of_none t n i ∙ by_host_same n (host_of n) ∙ sym (ap F (of_none s n i) ∙ by_host_stays K v p E v s n (host_of n) (λ q. h))
  name_on n None (Some k) e h (inr i) = absurd h
  name_on n (Some j) None e h (inr i) = absurd h

  data_on : (x : Value Name) → IsData x → by_follow script honest v t x ≡ F (by_follow script honest v s x)
  data_on x i = follows_on x (λ q. subst IsData (sym (data_there (suc (length t.known)) x i) ∙ q) i)
    where
      data_there : (d : ℕ) (x : Value Name) → IsData x → refs.follow_at K d t.known x ≡ x
      data_there d (Ref n) i = absurd i
      data_there d other i = ended_there K s t p y g.only g.plain g.ended g.follows d other tt

  -- each reference leads where it led, but p to the place of what it settled to
  pub leads_on : (x : Value Name) → leads_in script honest v t x ≡ F (leads_in script honest v s x)
  unfolding leads_in
  leads_on (Ref n) = name_on n (refs.entry_of K s.known n) (refs.entry_of K t.known n) refl (paired_by n (g.only.others n)) (is_object n)
  leads_on other = data_on other tt

  ended_leads : (x : Value Name) → IsEnded x → leads_in script honest v t x ≡ aimed_at script v t x
  unfolding leads_in aimed_at by_follow refs.follow refs.follow_at
  ended_leads (Ref n) i = of_object t n (refs.entry_of K t.known n) i ∙ ap (λ z. Aim t (refs.severed K t z)) (ended_there K s t p y g.only g.plain g.ended g.follows (suc (length t.known)) (Ref n) i)
  ended_leads other i = refl

  -- and so does what it settled to
  pub settled_leads : leads_in script honest v t y ≡ E
  settled_leads = ended_leads y g.ended

  pub settled_stands : refs.standing_of K t.known p ≡ Settled y
  settled_stands = stands K s t p y g.only g.plain g.ended g.follows

  pub follows_settled : (d : ℕ) → refs.follow_at K (suc d) t.known (Ref p) ≡ y
  unfolding refs.follow_at refs.led
  follows_settled d = subst (λ q. refs.led K (λ z. refs.follow_at K d t.known z) p q ≡ y) (sym settled_stands) (ended_there K s t p y g.only g.plain g.ended g.follows d y g.ended)

  pub others_standing : (n : Name) → (n ≡ p → ⊥) → refs.standing_of K t.known n ≡ refs.standing_of K s.known n
  others_standing n i = go (g.only.others n)
    where
      go : (n ≡ p) ⊎ ((n ≡ p → ⊥) × StandsAlike n (refs.entry_of K s.known n) (refs.entry_of K t.known n)) → refs.standing_of K t.known n ≡ refs.standing_of K s.known n
      go (inl q) = absurd (i q)
      go (inr h) = others_stand K s t p y g.only g.plain g.ended g.follows n h.1

  -- nowhere, or the end of a queue or of a link
  abbrev Outside : Place → Type 0
  Outside Free = ⊥
  Outside (End (Held u q) n) = ⊥
  Outside (Mid l b n) = ⊥
  Outside other = Unit {0}

  abbrev IsThing : Spot → Type 0
  IsThing NoObject = ⊥
  IsThing other = Unit {0}

  thing_spot : (m : Name) → IsObject m → IsThing (K.spot m)
  unfolding names naming spot_of
  thing_spot (Object h i) e = go (v == h)
    where
      go : (c : Bool) → IsThing (elim c [ true ↦ Own i | false ↦ Foreign h ])
      go true = tt
      go false = tt
  thing_spot other e = absurd e

  spot_outside : (m : Name) (q : Spot) → IsThing q → Outside (aimed v (Ref m) (refs.spotted K t m q))
  unfolding aimed refs.spotted
  spot_outside m NoObject h = absurd h
  spot_outside m other h = tt

  value_outside : (z : Value Name) → IsEnded z → Outside (Aim t z)
  unfolding aimed refs.place
  value_outside (Ref m) i = spot_outside m (K.spot m) (thing_spot m i)
  value_outside other i = tt

  broken_ended : (m : Name) → IsObject m → (c : Bool) → IsEnded (elim c [ true ↦ Broken (codes "partition") | false ↦ Ref m ])
  broken_ended m i true = tt
  broken_ended m i false = i

  spot_ended : (m : Name) → IsObject m → (q : Spot) → IsEnded (refs.severed_at K t m q)
  unfolding refs.severed_at refs.severed_by
  spot_ended m i (Own j) = i
  spot_ended m i (Foreign h) = broken_ended m i (is_in h t.noticed)
  spot_ended m i NoObject = broken_ended m i (is_in (refs.host_at K t.number t.known m) t.noticed)

  severed_ended : (z : Value Name) → IsEnded z → IsEnded (refs.severed K t z)
  unfolding refs.severed
  severed_ended (Ref m) i = spot_ended m i (K.spot m)
  severed_ended other i = tt

  settled_outside : Outside E
  unfolding aimed_at
  settled_outside = value_outside (refs.severed K t y) (severed_ended y g.ended)

  outside_definite : (c : Place) → Outside c → IsDefinite c
  outside_definite Free h = h
  outside_definite (End (Held u q) n) h = absurd h
  outside_definite (Mid l b n) h = h
  outside_definite other h = tt

  outside_stays : (e c : Place) → Outside c → passed_by v p e c ≡ c
  outside_stays e Nowhere h = passes_nowhere v p e
  outside_stays e (End (Queue u) n) h = passes_queue v p e u n
  outside_stays e (End (Way a b) n) h = passes_way v p e a b n
  outside_stays e other h = absurd h

  pub settled_definite : IsDefinite E
  settled_definite = outside_definite E settled_outside

  pub settled_stays : F E ≡ E
  settled_stays = outside_stays E E settled_outside
