-- As a name comes to be known the ways only grow.
use Rattle.std.proofs.Common.{◌≡◌, ℕ, zero, suc, Bool, true, false, List, [], ◌∷◌, ◌++◌, Option, Some, None, length, refl, sym, ap, subst, ◌∙◌, ◌⊎◌, inl, inr, eqb-true}
use Rattle.std.specs.Prelude.{codes, ◌==◌, ◌&&◌}
use Rattle.def_machine.specs.Values.{Value, Broken, Ref, Name, Root, Object, Promise, Answer, Gift, Naming, Spot, Own, Foreign, NoObject, host_of, spot_of, naming, same_name, same_reference}
use Rattle.def_machine.specs.State.{Standing, Unsettled, WaitsOn, Viewed, Settled, Known, Vat, is_in, begun}
use Rattle.def_machine.specs.Refs as refs
use Rattle.def_machine.specs.Refs.{Mine, Away}
use Rattle.def_run.specs.World.{Script, World, names}
use Rattle.def_run.specs.World as world
use Rattle.law_order.specs.Ordering.Ways.{Nowhere, End, Held, Way, IsIn}
use Rattle.law_order.specs.Ordering.Turns.{Within}
use Rattle.law_order.specs.Ordering.Places.{held_in, aimed, by_host, by_follow, of_name, leads_in, ways_of, ways, amid}
use Rattle.law_order.specs.Ordering.Worlds.{IsWaiting, IsObject, IsFixed, FollowsEnd, ComingGrows}
use Rattle.law_order.specs.Ordering.Changes.{Grows}
use Rattle.law_order.proofs.Ordering.Sends.{none_some}
use Rattle.law_order.proofs.Ordering.Adding.{RefersSame}
use Rattle.law_order.proofs.Ordering.Pushing.{all_same}
use Rattle.law_order.proofs.Ordering.Amid.{stands_grow, onward_same}

pub length_more : {A : Type 0} (xs : List A) (x : A) → length (xs ++ x ∷ []) ≡ suc (length xs)
length_more [] x = refl
length_more (y ∷ xs) x = ap suc (length_more xs x)

abbrev Or : Bool → Known Name → Option (Known Name) → Option (Known Name)
Or c j o = elim c [ true ↦ Some j | false ↦ o ]

module _ (K : Naming Name Name) where
  -- what was known is known
  pub old_entry : (ks : List (Known Name)) (b k : Known Name) (m : Name) → refs.entry_of K ks m ≡ Some k → refs.entry_of K (ks ++ b ∷ []) m ≡ Some k
  unfolding refs.entry_of
  old_entry [] b k m e = none_some k e
  old_entry (j ∷ ks) b k m e = go (λ q. old_entry ks b k m q) (K.same j.name m) e
    where
      go : (refs.entry_of K ks m ≡ Some k → refs.entry_of K (ks ++ b ∷ []) m ≡ Some k) → (c : Bool) → elim c [ true ↦ Some j | false ↦ refs.entry_of K ks m ] ≡ Some k → elim c [ true ↦ Some j | false ↦ refs.entry_of K (ks ++ b ∷ []) m ] ≡ Some k
      go f true q = q
      go f false q = f q

  -- and what was not is the new one or none
  pub new_entry : (ks : List (Known Name)) (b : Known Name) (m : Name) → refs.entry_of K ks m ≡ None → refs.entry_of K (ks ++ b ∷ []) m ≡ refs.entry_of K (b ∷ []) m
  unfolding refs.entry_of
  new_entry [] b m e = refl
  new_entry (j ∷ ks) b m e = go (λ q. new_entry ks b m q) (K.same j.name m) e
    where
      go : (refs.entry_of K ks m ≡ None → refs.entry_of K (ks ++ b ∷ []) m ≡ refs.entry_of K (b ∷ []) m) → (c : Bool) → Or c j (refs.entry_of K ks m) ≡ None → Or c j (refs.entry_of K (ks ++ b ∷ []) m) ≡ refs.entry_of K (b ∷ []) m
      go f true q = none_some j (sym q)
      go f false q = f q

  fresh_standing : (n m : Name) (h : ℕ) → refs.standing_in (refs.entry_of K (begun n h ∷ []) m) ≡ Unsettled
  unfolding refs.standing_in refs.entry_of begun
  fresh_standing n m h = go (K.same n m)
    where
      go : (c : Bool) → refs.standing_in (elim c [ true ↦ Some (begun n h) | false ↦ None ]) ≡ Unsettled
      go true = refl
      go false = refl

  same_standing : (ks : List (Known Name)) (n m : Name) (h : ℕ) (o : Option (Known Name)) → refs.entry_of K ks m ≡ o → refs.standing_of K (ks ++ begun n h ∷ []) m ≡ refs.standing_of K ks m
  unfolding refs.standing_of refs.standing_in
  same_standing ks n m h (Some k) e = ap (λ q. refs.standing_in q) (old_entry ks (begun n h) k m e ∙ sym e)
  same_standing ks n m h None e = ap (λ q. refs.standing_in q) (new_entry ks (begun n h) m e) ∙ fresh_standing n m h ∙ sym (ap (λ q. refs.standing_in q) e ∙ none_standing)
    where
      none_standing : refs.standing_in {N = Name} None ≡ Unsettled
      none_standing = refl

  led_alike : (f h : Value Name → Value Name) → ((x : Value Name) → f x ≡ h x) → (n : Name) (q : Standing Name) → refs.led K f n q ≡ refs.led K h n q
  unfolding refs.led
  led_alike f h e n (Settled y) = e y
  led_alike f h e n (Viewed q) = e (Ref q)
  led_alike f h e n other = refl

  follows_by : (ks ls : List (Known Name)) → ((m : Name) → refs.standing_of K ls m ≡ refs.standing_of K ks m) → (d : ℕ) (x : Value Name) → refs.follow_at K d ls x ≡ refs.follow_at K d ks x
  unfolding refs.follow_at
  follows_by ks ls f zero x = refl
  follows_by ks ls f (suc d) (Ref n) = led_alike (λ y. refs.follow_at K d ls y) (λ y. refs.follow_at K d ks y) (λ y. follows_by ks ls f d y) n (refs.standing_of K ls n) ∙ ap (λ q. refs.led K (λ y. refs.follow_at K d ks y) n q) (f n)
  follows_by ks ls f (suc d) other = refl

  -- it leads nowhere further
  abbrev Ended : List (Known Name) → Value Name → Type 0
  Ended ks y = (n : Name) → y ≡ Ref n → IsWaiting (refs.standing_of K ks n)

  pub waits_here : (f : Value Name → Value Name) (n : Name) (q : Standing Name) → IsWaiting q → refs.led K f n q ≡ Ref n
  unfolding refs.led
  waits_here f n (Viewed q) h = absurd h
  waits_here f n (Settled y) h = absurd h
  waits_here f n other h = refl

  -- from where it leads nowhere further it is not followed on
  further : (ks : List (Known Name)) (d : ℕ) (x : Value Name) → Ended ks (refs.follow_at K d ks x) → refs.follow_at K (suc d) ks x ≡ refs.follow_at K d ks x
  unfolding refs.follow_at refs.led
  further ks zero (Ref n) h = waits_here (λ y. y) n (refs.standing_of K ks n) (h n refl)
  further ks (suc d) (Ref n) h = go (λ y i. further ks d y i) (refs.standing_of K ks n) h
    where
      go : ((y : Value Name) → Ended ks (refs.follow_at K d ks y) → refs.follow_at K (suc d) ks y ≡ refs.follow_at K d ks y) → (q : Standing Name) → Ended ks (refs.led K (λ y. refs.follow_at K d ks y) n q) → refs.led K (λ y. refs.follow_at K (suc d) ks y) n q ≡ refs.led K (λ y. refs.follow_at K d ks y) n q
      go f (Settled y) i = f y i
      go f (Viewed q) i = f (Ref q) i
      go f (WaitsOn q) i = refl
      go f Unsettled i = refl
  further ks zero other h = refl
  further ks (suc d) other h = refl

abbrev IsData : Value Name → Type 0
IsData (Ref n) = ⊥
IsData other = Unit {0}

abbrev IsTrue' : Bool → Type 0
IsTrue' true = Unit {0}
IsTrue' false = ⊥

first_of_both : (a b : Bool) → (a && b) ≡ true → a ≡ true
first_of_both true b e = refl
first_of_both false b e = e

-- names that are the same have one host
same_host : (n m : Name) → same_reference n m ≡ true → host_of n ≡ host_of m
unfolding same_reference same_name host_of
same_host (Root v) (Root w) e = eqb-true v w e
same_host (Object v i) (Object w j) e = eqb-true v w (first_of_both (v == w) (i == j) e)
same_host (Promise v i) (Promise w j) e = eqb-true v w (first_of_both (v == w) (i == j) e)
same_host (Answer v a) (Answer w b) e = eqb-true v w (first_of_both (v == w) ((a.sender == b.sender) && (a.number == b.number)) e)
same_host (Gift v i) (Gift w j) e = eqb-true v w (first_of_both (v == w) (i == j) e)
same_host _ _ e = absurd (subst IsTrue' (sym e) tt)

module _ (script : Script) (honest : ℕ → Bool) (v : ℕ) (s : Vat Name) (n : Name) (g : FollowsEnd (names script v) s) (no : IsObject n → ⊥) where
  abbrev K : Naming Name Name
  K = names script v

  abbrev T : Vat Name
  T = record s { known = s.known ++ begun n (host_of n) ∷ [] }

  standing : (m : Name) → refs.standing_of K T.known m ≡ refs.standing_of K s.known m
  standing m = same_standing K s.known n m (host_of n) (refs.entry_of K s.known m) refl

  object_waits : (m : Name) → IsObject m → IsWaiting (refs.standing_of K s.known m)
  unfolding refs.standing_of refs.standing_in
  object_waits m i = subst (λ o. IsWaiting (refs.standing_in o)) (sym (g.objects m i)) tt

  known_waits : (m : Name) (k : Known Name) → refs.entry_of K s.known m ≡ Some k → IsWaiting k.standing → IsWaiting (refs.standing_of K s.known m)
  unfolding refs.standing_of refs.standing_in
  known_waits m k e i = subst (λ o. IsWaiting (refs.standing_in o)) (sym e) i

  fixed_waits : (m : Name) → IsFixed K s (Ref m) → IsWaiting (refs.standing_of K s.known m)
  fixed_waits m (inl i) = object_waits m i
  fixed_waits m (inr h) = known_waits m h.0 h.1 h.2

  pub followed : (m : Name) → IsFixed K s (refs.follow_at K (suc (length s.known)) s.known (Ref m)) → refs.follow_at K (suc (length T.known)) T.known (Ref m) ≡ refs.follow_at K (suc (length s.known)) s.known (Ref m)
  followed m i =
      follows_by K s.known T.known standing (suc (length T.known)) (Ref m)
      ∙ ap (λ d. refs.follow_at K (suc d) s.known (Ref m)) (length_more s.known (begun n (host_of n)))
      ∙ further K s.known (suc (length s.known)) (Ref m) (λ q e. fixed_waits q (subst (IsFixed K s) e i))

  object_fixed : (m : Name) → IsObject m → refs.follow_at K (suc (length s.known)) s.known (Ref m) ≡ Ref m
  unfolding refs.follow_at
  object_fixed m i = waits_here K (λ y. refs.follow_at K (length s.known) s.known y) m (refs.standing_of K s.known m) (object_waits m i)

  host_known : (m : Name) (k : Known Name) → refs.entry_of K s.known m ≡ Some k → refs.host_at K s.number T.known m ≡ refs.host_at K s.number s.known m
  unfolding refs.host_at
  host_known m k e = ap (λ o. refs.host_in s.number o) (old_entry K s.known (begun n (host_of n)) k m e ∙ sym e)

  severed_spot : (m : Name) (p : Spot) → refs.host_at K s.number T.known m ≡ refs.host_at K s.number s.known m → refs.severed_at K T m p ≡ refs.severed_at K s m p
  unfolding refs.severed_at refs.severed_by
  severed_spot m NoObject e = ap (λ h. elim (is_in h s.noticed) [ true ↦ Broken (codes "partition") | false ↦ Ref m ]) e
  severed_spot m other e = refl

  severed_object : (m : Name) → IsObject m → refs.severed_at K T m (K.spot m) ≡ refs.severed_at K s m (K.spot m)
  unfolding names naming spot_of refs.severed_at refs.severed_by
  severed_object (Object h i) o = go (v == h)
    where
      go : (c : Bool) → refs.severed_at K T (Object h i) (elim c [ true ↦ Own i | false ↦ Foreign h ]) ≡ refs.severed_at K s (Object h i) (elim c [ true ↦ Own i | false ↦ Foreign h ])
      go true = refl
      go false = refl
  severed_object other o = absurd o

  severed_fixed : (y : Value Name) → IsFixed K s y → refs.severed K T y ≡ refs.severed K s y
  unfolding refs.severed
  severed_fixed (Ref m) (inl i) = severed_object m i
  severed_fixed (Ref m) (inr h) = severed_spot m (K.spot m) (host_known m h.0 h.1)
  severed_fixed other i = refl

  fixed_by : (m : Name) (c : Bool) → IsFixed K s (Ref m) → IsFixed K s (elim c [ true ↦ Broken (codes "partition") | false ↦ Ref m ])
  fixed_by m true i = tt
  fixed_by m false i = i

  fixed_spot : (m : Name) (p : Spot) → IsFixed K s (Ref m) → IsFixed K s (refs.severed_at K s m p)
  unfolding refs.severed_at refs.severed_by
  fixed_spot m (Own i) h = h
  fixed_spot m (Foreign g) h = fixed_by m (is_in g s.noticed) h
  fixed_spot m NoObject h = fixed_by m (is_in (refs.host_at K s.number s.known m) s.noticed) h

  fixed_after : (y : Value Name) → IsFixed K s y → IsFixed K s (refs.severed K s y)
  unfolding refs.severed
  fixed_after (Ref m) i = fixed_spot m (K.spot m) i
  fixed_after other i = tt

  spotted_object : (m : Name) → IsObject m → refs.spotted K T m (K.spot m) ≡ refs.spotted K s m (K.spot m)
  unfolding names naming spot_of refs.spotted
  spotted_object (Object h i) o = go (v == h)
    where
      go : (c : Bool) → refs.spotted K T (Object h i) (elim c [ true ↦ Own i | false ↦ Foreign h ]) ≡ refs.spotted K s (Object h i) (elim c [ true ↦ Own i | false ↦ Foreign h ])
      go true = refl
      go false = refl
  spotted_object other o = absurd o

  spotted_known : (m : Name) (p : Spot) → refs.host_at K s.number T.known m ≡ refs.host_at K s.number s.known m → refs.spotted K T m p ≡ refs.spotted K s m p
  unfolding refs.spotted
  spotted_known m NoObject e = ap (λ h. refs.hosted K s.number m h) e
  spotted_known m other e = refl

  place_fixed : (y : Value Name) → IsFixed K s y → refs.place K T y ≡ refs.place K s y
  unfolding refs.place
  place_fixed (Ref m) (inl i) = spotted_object m i
  place_fixed (Ref m) (inr h) = spotted_known m (K.spot m) (host_known m h.0 h.1)
  place_fixed other i = refl

  follow_fixed : (m : Name) → IsFixed K s (refs.follow_at K (suc (length s.known)) s.known (Ref m)) → refs.follow K T (Ref m) ≡ refs.follow K s (Ref m)
  unfolding refs.follow
  follow_fixed m i = ap (λ y. refs.severed K T y) (followed m i) ∙ severed_fixed (refs.follow_at K (suc (length s.known)) s.known (Ref m)) i

  after_follow : (m : Name) → IsFixed K s (refs.follow_at K (suc (length s.known)) s.known (Ref m)) → IsFixed K s (refs.follow K s (Ref m))
  unfolding refs.follow
  after_follow m i = fixed_after (refs.follow_at K (suc (length s.known)) s.known (Ref m)) i

  by_follow_fixed : (m : Name) → IsFixed K s (refs.follow_at K (suc (length s.known)) s.known (Ref m)) → by_follow script honest v T (Ref m) ≡ by_follow script honest v s (Ref m)
  unfolding by_follow
  by_follow_fixed m i = ap (λ y. aimed v y (refs.place K T y)) (follow_fixed m i) ∙ ap (λ p. aimed v (refs.follow K s (Ref m)) p) (place_fixed (refs.follow K s (Ref m)) (after_follow m i))

  by_follow_object : (m : Name) → IsObject m → by_follow script honest v T (Ref m) ≡ by_follow script honest v s (Ref m)
  by_follow_object m i = by_follow_fixed m (subst (IsFixed K s) (sym (object_fixed m i)) (inl i))

  by_follow_data : (x : Value Name) → ((m : Name) → x ≡ Ref m → ⊥) → by_follow script honest v T x ≡ by_follow script honest v s x
  unfolding by_follow refs.follow refs.follow_at refs.severed refs.place aimed
  by_follow_data (Ref m) h = absurd (h m refl)
  by_follow_data other h = refl

  of_some : (r : Vat Name) (m : Name) (k : Known Name) → of_name script honest v r m (Some k) ≡ by_follow script honest v r (Ref m)
  unfolding of_name
  of_some r (Root h) k = refl
  of_some r other k = refl

  of_object : (r : Vat Name) (m : Name) (o : Option (Known Name)) → IsObject m → of_name script honest v r m o ≡ by_follow script honest v r (Ref m)
  unfolding of_name
  of_object r (Object h i) o e = refl
  of_object r other o e = absurd e

  of_none : (r : Vat Name) (m : Name) → (IsObject m → ⊥) → of_name script honest v r m None ≡ by_host v r m (host_of m)
  unfolding of_name
  of_none r (Object h i) e = absurd (e tt)
  of_none r other e = refl

  spot_plain : (m : Name) → (IsObject m → ⊥) → K.spot m ≡ NoObject
  unfolding names naming spot_of
  spot_plain (Object h i) e = absurd (e tt)
  spot_plain other e = refl

  pub is_object : (m : Name) → IsObject m ⊎ (IsObject m → ⊥)
  is_object (Object h i) = inl tt
  is_object other = inr (λ e. e)

  module _ (here : s.number ≡ v) where
    -- a name that is followed to itself, and has that host
    new_follow : (m : Name) (h : ℕ) → (IsObject m → ⊥) → refs.standing_of K T.known m ≡ Unsettled → refs.host_at K s.number T.known m ≡ h → refs.follow K T (Ref m) ≡ elim (is_in h s.noticed) [ true ↦ Broken (codes "partition") | false ↦ Ref m ]
    unfolding refs.follow refs.follow_at refs.severed refs.severed_at refs.severed_by
    new_follow m h e f i =
        ap (λ y. refs.severed K T y) (waits_here K (λ y. refs.follow_at K (length T.known) T.known y) m (refs.standing_of K T.known m) (subst IsWaiting (sym f) tt))
        ∙ ap (λ p. refs.severed_at K T m p) (spot_plain m e)
        ∙ ap (λ g. elim (is_in g s.noticed) [ true ↦ Broken (codes "partition") | false ↦ Ref m ]) i

    new_place : (m : Name) (h : ℕ) → (IsObject m → ⊥) → refs.host_at K s.number T.known m ≡ h → refs.place K T (Ref m) ≡ elim (v == h) [ true ↦ Mine m | false ↦ Away h m false ]
    unfolding refs.place refs.spotted refs.hosted
    new_place m h e i =
        ap (λ p. refs.spotted K T m p) (spot_plain m e)
        ∙ ap (λ g. elim (s.number == g) [ true ↦ Mine m | false ↦ Away g m false ]) i
        ∙ ap (λ g. elim (g == h) [ true ↦ Mine m | false ↦ Away h m false ]) here

    aimed_by : (m : Name) (h : ℕ) (c : Bool) → aimed v (Ref m) (elim c [ true ↦ Mine m | false ↦ Away h m false ]) ≡ elim c [ true ↦ End (Held v m) m | false ↦ End (Way v h) m ]
    unfolding aimed
    aimed_by m h true = refl
    aimed_by m h false = refl

    noticed_by : (m : Name) (h : ℕ) (c : Bool) → (IsObject m → ⊥) → refs.host_at K s.number T.known m ≡ h → aimed v (elim c [ true ↦ Broken (codes "partition") | false ↦ Ref m ]) (refs.place K T (elim c [ true ↦ Broken (codes "partition") | false ↦ Ref m ])) ≡ elim c [ true ↦ Nowhere | false ↦ elim (v == h) [ true ↦ End (Held v m) m | false ↦ End (Way v h) m ] ]
    unfolding aimed refs.place
    noticed_by m h true e i = refl
    noticed_by m h false e i = ap (λ p. aimed v (Ref m) p) (new_place m h e i) ∙ aimed_by m h (v == h)

    new_leads : (m : Name) (h : ℕ) → (IsObject m → ⊥) → refs.standing_of K T.known m ≡ Unsettled → refs.host_at K s.number T.known m ≡ h → by_follow script honest v T (Ref m) ≡ by_host v s m h
    unfolding by_follow by_host
    new_leads m h e f i = ap (λ y. aimed v y (refs.place K T y)) (new_follow m h e f i) ∙ noticed_by m h (is_in h s.noticed) e i

    abbrev New : Known Name
    New = begun n (host_of n)

    entry_new : (m : Name) → refs.entry_of K s.known m ≡ None → refs.entry_of K T.known m ≡ Or (K.same n m) New None
    unfolding refs.entry_of begun
    entry_new m e = new_entry K s.known New m e

    standing_new : (m : Name) → refs.entry_of K s.known m ≡ None → refs.standing_of K T.known m ≡ Unsettled
    unfolding refs.standing_of refs.standing_in
    standing_new m e = standing m ∙ ap (λ o. refs.standing_in o) e

    host_new : (m : Name) → refs.entry_of K s.known m ≡ None → K.same n m ≡ true → refs.host_at K s.number T.known m ≡ host_of m
    unfolding refs.host_at refs.host_in names naming begun
    host_new m e q = ap (λ o. refs.host_in s.number o) (entry_new m e ∙ ap (λ c. Or c New None) q) ∙ same_host n m q

    by_host_same : (m : Name) (h : ℕ) → by_host v T m h ≡ by_host v s m h
    unfolding by_host
    by_host_same m h = refl

    unknown_by : (m : Name) → (IsObject m → ⊥) → refs.entry_of K s.known m ≡ None → (c : Bool) → K.same n m ≡ c → of_name script honest v T m (Or c New None) ≡ by_host v s m (host_of m)
    unknown_by m o e true q = of_some T m New ∙ new_leads m (host_of m) o (standing_new m e) (host_new m e q)
    unknown_by m o e false q = of_none T m o ∙ by_host_same m (host_of m)

    leads_by_entry : (m : Name) (p : Option (Known Name)) → refs.entry_of K s.known m ≡ p → IsObject m ⊎ (IsObject m → ⊥) → of_name script honest v T m (refs.entry_of K T.known m) ≡ of_name script honest v s m p
    leads_by_entry m p e (inl i) = of_object T m (refs.entry_of K T.known m) i ∙ by_follow_object m i ∙ sym (of_object s m p i)
    leads_by_entry m (Some k) e (inr i) =
        ap (λ o. of_name script honest v T m o) (old_entry K s.known New k m e)
        ∙ of_some T m k
        ∙ by_follow_fixed m (g.fixed m (k, e))
        ∙ sym (of_some s m k)
    leads_by_entry m None e (inr i) =
        ap (λ o. of_name script honest v T m o) (entry_new m e)
        ∙ unknown_by m i e (K.same n m) refl
        ∙ sym (of_none s m i)

    leading : (x : Value Name) → leads_in script honest v T x ≡ leads_in script honest v s x
    unfolding leads_in
    leading (Ref m) = leads_by_entry m (refs.entry_of K s.known m) refl (is_object m)
    leading other = by_follow_data other (λ m e. subst IsData e tt)

    holding_by : (m : Name) (p : Option (Known Name)) → refs.entry_of K s.known m ≡ p → Within (held_in m p) (held_in m (refs.entry_of K T.known m))
    unfolding held_in
    holding_by m None e = λ i h. absurd h
    holding_by m (Some k) e = λ i h. subst (λ o. IsIn i (held_in m o)) (sym (old_entry K s.known New k m e)) h

    pub comes_same : RefersSame script honest v s T
    comes_same = record { leading = λ x. leading x; gifts = refl; standing = λ m. standing m; holding = λ m. holding_by m (refs.entry_of K s.known m) refl }

    pub coming : (w : World) → Grows (ways script honest (amid v s w)) (ways script honest (amid v T w))
    unfolding ways ways_of amid
    coming w = let ls = world.push_all v s.outbox w.links in record {
      stands = λ l i j. stands_grow script honest w.vats ls ls (all_same ls) v s T comes_same (λ q h. h) l i j;
      onward = λ l m. inl (onward_same script honest w.vats ls ls (all_same ls) v s T comes_same l m);
    }

pub coming_grows : ComingGrows
coming_grows = λ script honest w v s n g here no e. coming script honest v s n g no here w
