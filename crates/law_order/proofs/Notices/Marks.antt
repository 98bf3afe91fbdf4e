-- As a vat marks another as cut off, what led over the link to that leads nowhere, and nothing else changes.
use Rattle.std.proofs.Common.{◌≡◌, ℕ, suc, Bool, true, false, List, [], ◌∷◌, ◌++◌, Option, Some, None, length, refl, sym, ap, subst, ◌∙◌, ◌⊎◌, inl, inr, codes, eqb-true, eq-eqb}
use Rattle.std.proofs.lemmas.List.{append-nil}
use Rattle.std.specs.Prelude.{slice_get, not, ◌==◌, ◌&&◌}
use Rattle.def_machine.specs.Values.{Value, Broken, Ref, Name, Object, Gift, Naming, Spot, Own, Foreign, NoObject, host_of}
use Rattle.def_machine.specs.State.{Standing, Unsettled, WaitsOn, Viewed, Settled, Known, Note, GiftEntry, Vat, is_in}
use Rattle.def_machine.specs.Refs as refs
use Rattle.def_machine.specs.Refs.{Near, Mine, Away, Gone}
use Rattle.def_run.specs.World.{Script, Link, World, names}
use Rattle.def_run.specs.World as world
use Rattle.law_order.specs.Ordering.Ways.{Lane, Queue, Held, Way, Item, Place, Nowhere, Free, End, Mid, Ways}
use Rattle.law_order.specs.Ordering.Messages.{More}
use Rattle.law_order.specs.Ordering.Places.{queued, held_in, delivered, opens, shortens, subject, in_lane, note_place, first_place, opened_there, is_honest, open_place, shorten_place, was_put, or_never, gift_place, aimed, by_host, by_follow, of_name, leads_in, leads_at, leads, unsettled, released, released_at, over, onward_at, ways_of, ways, amid}
use Rattle.law_order.specs.Ordering.Steps.{WaysAmid, LeadsAmid, Ready}
use Rattle.law_order.specs.Ordering.Turns.{IsNoticed}
use Rattle.law_order.proofs.Ordering.OrderPassing.{Found, here, apart, none, found, waiting_same}
use Rattle.law_order.proofs.Ordering.Pushing.{within_more}
use Rattle.law_order.proofs.Ordering.Standing.{queue_more, held_more, way_more}
use Rattle.law_order.proofs.Ordering.Turned.{noticing_keeps}
use Rattle.law_order.specs.Notices.Marks.{past_link, marked, MarkKeeps, MarksKeep}

-- ---- what a gift waits for is in a lane, or nothing

module _ (P : Place → Type 0) (mids : (l : Lane) (b : List Item) (n : Name) → P (Mid l b n)) (nowhere : P Nowhere) (free : P Free) where
  abbrev IfSome : Option Place → Type 0
  IfSome None = Unit {0}
  IfSome (Some c) = P c

  lane_is : (l : Lane) (b : List Item) (o : Option Name) → IfSome (in_lane l b o)
  unfolding in_lane
  lane_is l b (Some n) = mids l b n
  lane_is l b None = tt

  note_is : (f : Note Name → Bool) (l : Lane) (b : List Item) (ns : List (Note Name)) → IfSome (note_place f l b ns)
  unfolding note_place
  note_is f l b [] = tt
  note_is f l b (n ∷ ns) = go (note_is f l (b ++ delivered (n ∷ [])) ns) (f n)
    where
      go : IfSome (note_place f l (b ++ delivered (n ∷ [])) ns) → (c : Bool) → IfSome (elim c [ true ↦ in_lane l b (subject n) | false ↦ note_place f l (b ++ delivered (n ∷ [])) ns ])
      go h true = lane_is l b (subject n)
      go h false = h

  first_is : (a b : Option Place) → IfSome a → IfSome b → IfSome (first_place a b)
  unfolding first_place
  first_is (Some c) b h i = h
  first_is None b h i = i

  chosen_is : (c : Bool) (a b : Option Place) → IfSome a → IfSome b → IfSome (elim c [ true ↦ first_place a b | false ↦ b ])
  chosen_is true a b h i = first_is a b h i
  chosen_is false a b h i = i

  module _ (script : Script) (honest : ℕ → Bool) where
    never_is : (c : Bool) (o : Option Place) → IfSome o → P (or_never script honest c o)
    unfolding or_never
    never_is c (Some d) h = h
    never_is true None h = nowhere
    never_is false None h = free

    open_is : (h i : ℕ) (ls : List Link) → IfSome (open_place script honest h i ls)
    unfolding open_place
    open_is h i [] = tt
    open_is h i (l ∷ ls) = chosen_is (is_honest script honest l && (l.to == h)) (note_place (opens i) (Way l.from l.to) [] l.notes) (open_place script honest h i ls) (note_is (opens i) (Way l.from l.to) [] l.notes) (open_is h i ls)

    shorten_is : (h i : ℕ) (ls : List Link) → IfSome (shorten_place script honest h i ls)
    unfolding shorten_place
    shorten_is h i [] = tt
    shorten_is h i (l ∷ ls) = chosen_is (is_honest script honest l) (note_place (shortens h i) (Way l.from l.to) [] l.notes) (shorten_place script honest h i ls) (note_is (shortens h i) (Way l.from l.to) [] l.notes) (shorten_is h i ls)

    gift_is : (h i : ℕ) (ls : List Link) → P (gift_place script honest h i ls)
    unfolding gift_place
    gift_is h i ls = never_is (was_put script honest h i ls) (first_place (open_place script honest h i ls) (shorten_place script honest h i ls)) (first_is (open_place script honest h i ls) (shorten_place script honest h i ls) (open_is h i ls) (shorten_is h i ls))

    pub waiting_is : (vs : List (Vat Name)) (ls : List Link) (z : ℕ) (n : Name) (gs : List (GiftEntry Name)) → P (unsettled script honest vs ls z n gs)
    unfolding unsettled
    waiting_is vs ls z (Gift h i) gs = go ((h == z) && not (opened_there (Gift h i) gs))
      where
        go : (c : Bool) → P (elim c [ true ↦ gift_place script honest h i ls | false ↦ Free ])
        go true = gift_is h i ls
        go false = free
    waiting_is vs ls z other gs = free

-- ---- places

true_false : true ≡ false → ⊥
true_false e = cc

both_true : (a b : Bool) → a ≡ true → b ≡ true → (a && b) ≡ true
both_true true b e f = f
both_true false b e f = absurd (true_false (sym e))

second_false : (a b : Bool) → b ≡ false → (a && b) ≡ false
second_false true b e = e
second_false false b e = refl

module _ (v u : ℕ) where
  abbrev F : Place → Place
  F = past_link v u

  abbrev Past : ℕ → ℕ → Name → Bool → Place
  Past c d n b = elim b [ true ↦ Nowhere | false ↦ End (Way c d) n ]

  to_shut : (h : ℕ) (n : Name) → (h == u) ≡ true → F (End (Way v h) n) ≡ Nowhere
  unfolding past_link
  to_shut h n e = ap (λ b. Past v h n b) (both_true (v == v) (h == u) (eq-eqb v v refl) e)

  to_open : (h : ℕ) (n : Name) → (h == u) ≡ false → F (End (Way v h) n) ≡ End (Way v h) n
  unfolding past_link
  to_open h n e = ap (λ b. Past v h n b) (second_false (v == v) (h == u) e)

  from_other : (z h : ℕ) (n : Name) → (z ≡ v → ⊥) → F (End (Way z h) n) ≡ End (Way z h) n
  unfolding past_link
  from_other z h n f = go (z == v) refl
    where
      go : (c : Bool) → (z == v) ≡ c → Past z h n (c && (h == u)) ≡ End (Way z h) n
      go true e = absurd (f (eqb-true z v e))
      go false e = refl

  at_queue : (z : ℕ) (n : Name) → F (End (Queue z) n) ≡ End (Queue z) n
  unfolding past_link
  at_queue z n = refl

  at_held : (z : ℕ) (p n : Name) → F (End (Held z p) n) ≡ End (Held z p) n
  unfolding past_link
  at_held z p n = refl

  at_mid : (l : Lane) (b : List Item) (n : Name) → F (Mid l b n) ≡ Mid l b n
  unfolding past_link
  at_mid l b n = refl

  at_nowhere : F Nowhere ≡ Nowhere
  unfolding past_link
  at_nowhere = refl

  at_free : F Free ≡ Free
  unfolding past_link
  at_free = refl

  -- an end stays, or it is that of the link
  end_stays : (l : Lane) → ((n : Name) → F (End l n) ≡ End l n) ⊎ (l ≡ Way v u)
  end_stays (Queue z) = inl (λ n. at_queue z n)
  end_stays (Held z p) = inl (λ n. at_held z p n)
  end_stays (Way a b) = go (a == v) (b == u) refl refl
    where
      go : (c d : Bool) → (a == v) ≡ c → (b == u) ≡ d → ((n : Name) → F (End (Way a b) n) ≡ End (Way a b) n) ⊎ (Way a b ≡ Way v u)
      go true true e f = inr (ap (λ z. Way z b) (eqb-true a v e) ∙ ap (λ z. Way v z) (eqb-true b u f))
      go true false e f = inl (λ n. subst (λ z. F (End (Way z b) n) ≡ End (Way z b) n) (sym (eqb-true a v e)) (to_open b n f))
      go false d e f = inl (λ n. from_other a b n (λ i. true_false (sym (eq-eqb a v i) ∙ e)))

-- ---- the vat that marks

module _ (script : Script) (honest : ℕ → Bool) (v u : ℕ) (s : Vat Name) (own : s.number ≡ v) (other : v ≡ u → ⊥) where
  abbrev K : Naming Name Name
  K = names script v

  abbrev T : Vat Name
  T = marked s u

  abbrev G : Place → Place
  G = past_link v u

  abbrev Either : Bool → Bool → Bool
  Either c d = elim c [ true ↦ true | false ↦ d ]

  same_bool : (c : Bool) → elim c [ true ↦ true | false ↦ false ] ≡ c
  same_bool true = refl
  same_bool false = refl

  pub marked_in : (h : ℕ) (xs : List ℕ) → is_in h (xs ++ u ∷ []) ≡ Either (is_in h xs) (h == u)
  unfolding is_in
  marked_in h [] = same_bool (h == u)
  marked_in h (x ∷ xs) = go (h == x) (marked_in h xs)
    where
      go : (c : Bool) → is_in h (xs ++ u ∷ []) ≡ Either (is_in h xs) (h == u) → Either c (is_in h (xs ++ u ∷ [])) ≡ Either (Either c (is_in h xs)) (h == u)
      go true e = refl
      go false e = e

  abbrev Aim : Vat Name → Value Name → Place
  Aim r z = aimed v z (refs.place K r z)

  spotted_same : (n : Name) (q : Spot) → refs.spotted K T n q ≡ refs.spotted K s n q
  unfolding refs.spotted refs.hosted
  spotted_same n (Own i) = refl
  spotted_same n other = refl

  named_same : (n : Name) → Aim T (Ref n) ≡ Aim s (Ref n)
  unfolding refs.place
  named_same n = ap (λ p. aimed v (Ref n) p) (spotted_same n (K.spot n))

  broken_aim : (r : Vat Name) → Aim r (Broken (codes "partition")) ≡ Nowhere
  unfolding aimed refs.place
  broken_aim r = refl

  abbrev Cut : Name → Bool → Value Name
  Cut n c = elim c [ true ↦ Broken (codes "partition") | false ↦ Ref n ]

  module _ (h : ℕ) (n : Name) (shut : (h == u) ≡ true → G (Aim s (Ref n)) ≡ Nowhere) (open_still : (h == u) ≡ false → G (Aim s (Ref n)) ≡ Aim s (Ref n)) where
    cut_by : (c d : Bool) → (h == u) ≡ d → Aim T (Cut n (Either c d)) ≡ G (Aim s (Cut n c))
    cut_by true d e = broken_aim T ∙ sym (ap G (broken_aim s) ∙ at_nowhere v u)
    cut_by false true e = broken_aim T ∙ sym (shut e)
    cut_by false false e = named_same n ∙ sym (open_still e)

    severed_by_marks : Aim T (refs.severed_by K h T n) ≡ G (Aim s (refs.severed_by K h s n))
    unfolding refs.severed_by
    severed_by_marks = ap (λ c. Aim T (Cut n c)) (marked_in h s.noticed) ∙ cut_by (is_in h s.noticed) (h == u) refl

  not_number : (h : ℕ) → (h == u) ≡ true → (s.number == h) ≡ true → ⊥
  not_number h e f = other (sym own ∙ eqb-true s.number h f ∙ eqb-true h u e)

  abbrev Hosted : ℕ → Name → Bool → Place
  Hosted h n c = elim c [ true ↦ End (Held v n) n | false ↦ End (Way v h) n ]

  hosted_shut : (h : ℕ) (n : Name) (c : Bool) → (s.number == h) ≡ c → (h == u) ≡ true → G (Hosted h n c) ≡ Nowhere
  hosted_shut h n true f e = absurd (not_number h e f)
  hosted_shut h n false f e = to_shut v u h n e

  hosted_open : (h : ℕ) (n : Name) (c : Bool) → (h == u) ≡ false → G (Hosted h n c) ≡ Hosted h n c
  hosted_open h n true e = at_held v u v n n
  hosted_open h n false e = to_open v u h n e

  hosted_aim : (n : Name) (h : ℕ) (c : Bool) → aimed v (Ref n) (elim c [ true ↦ Mine n | false ↦ Away h n false ]) ≡ Hosted h n c
  unfolding aimed
  hosted_aim n h true = refl
  hosted_aim n h false = refl

  -- where a name is aimed by where it is
  near_aim : (n : Name) (i : ℕ) → K.spot n ≡ Own i → Aim s (Ref n) ≡ End (Queue v) n
  unfolding aimed refs.place refs.spotted
  near_aim n i e = ap (λ q. aimed v (Ref n) (refs.spotted K s n q)) e

  far_aim : (n : Name) (h : ℕ) → K.spot n ≡ Foreign h → Aim s (Ref n) ≡ End (Way v h) n
  unfolding aimed refs.place refs.spotted
  far_aim n h e = ap (λ q. aimed v (Ref n) (refs.spotted K s n q)) e

  own_aim : (n : Name) → K.spot n ≡ NoObject → let h = refs.host_at K s.number s.known n in Aim s (Ref n) ≡ Hosted h n (s.number == h)
  unfolding refs.place refs.spotted refs.hosted
  own_aim n e = ap (λ q. aimed v (Ref n) (refs.spotted K s n q)) e ∙ hosted_aim n (refs.host_at K s.number s.known n) (s.number == refs.host_at K s.number s.known n)

  spot_marks : (n : Name) (q : Spot) → K.spot n ≡ q → Aim T (refs.severed_at K T n q) ≡ G (Aim s (refs.severed_at K s n q))
  unfolding refs.severed_at
  spot_marks n (Own i) e = let near = near_aim n i e in named_same n ∙ near ∙ sym (ap G near ∙ at_queue v u v n)
  spot_marks n (Foreign h) e = let far = far_aim n h e in severed_by_marks h n (λ k. ap G far ∙ to_shut v u h n k) (λ k. ap G far ∙ to_open v u h n k ∙ sym far)
  spot_marks n NoObject e =
      let h = refs.host_at K s.number s.known n in let mine = own_aim n e in
      severed_by_marks h n (λ k. ap G mine ∙ hosted_shut h n (s.number == h) refl k) (λ k. ap G mine ∙ hosted_open h n (s.number == h) k ∙ sym mine)

  severed_marks : (z : Value Name) → Aim T (refs.severed K T z) ≡ G (Aim s (refs.severed K s z))
  unfolding refs.severed aimed refs.place
  severed_marks (Ref n) = spot_marks n (K.spot n) refl
  severed_marks other = sym (at_nowhere v u)

  follows_marks : (x : Value Name) → by_follow script honest v T x ≡ G (by_follow script honest v s x)
  unfolding by_follow refs.follow
  follows_marks x = severed_marks (refs.follow_at K (suc (length s.known)) s.known x)

  abbrev ByHost : Name → ℕ → Bool → Bool → Place
  ByHost n h c e = elim c [ true ↦ Nowhere | false ↦ elim e [ true ↦ End (Held v n) n | false ↦ End (Way v h) n ] ]

  host_by : (n : Name) (h : ℕ) (c d e : Bool) → (h == u) ≡ d → (v == h) ≡ e → ByHost n h (Either c d) e ≡ G (ByHost n h c e)
  host_by n h true d e i j = sym (at_nowhere v u)
  host_by n h false true true i j = absurd (other (eqb-true v h j ∙ eqb-true h u i))
  host_by n h false true false i j = sym (to_shut v u h n i)
  host_by n h false false true i j = sym (at_held v u v n n)
  host_by n h false false false i j = sym (to_open v u h n i)

  host_marks : (n : Name) (h : ℕ) → by_host v T n h ≡ G (by_host v s n h)
  unfolding by_host
  host_marks n h = ap (λ c. ByHost n h c (v == h)) (marked_in h s.noticed) ∙ host_by n h (is_in h s.noticed) (h == u) (v == h) refl refl

  name_marks : (n : Name) (o : Option (Known Name)) → of_name script honest v T n o ≡ G (of_name script honest v s n o)
  unfolding of_name
  name_marks (Object h i) o = follows_marks (Ref (Object h i))
  name_marks other None = host_marks other (host_of other)
  name_marks other (Some k) = follows_marks (Ref other)

  pub leads_marks : (x : Value Name) → leads_in script honest v T x ≡ G (leads_in script honest v s x)
  unfolding leads_in
  leads_marks (Ref n) = name_marks n (refs.entry_of K s.known n)
  leads_marks other = follows_marks other

-- ---- the other vats

module _ (script : Script) (honest : ℕ → Bool) (v u z : ℕ) (r : Vat Name) (far : z ≡ v → ⊥) where
  abbrev Stays : Place → Type 0
  Stays c = past_link v u c ≡ c

  aimed_stays : (y : Value Name) (p : refs.Place Name) → Stays (aimed z y p)
  unfolding aimed
  aimed_stays (Ref n) Near = at_queue v u z n
  aimed_stays y (Mine n) = at_held v u z n n
  aimed_stays y (Away h n o) = from_other v u z h n far
  aimed_stays y another = at_nowhere v u

  follow_stays : (x : Value Name) → Stays (by_follow script honest z r x)
  unfolding by_follow
  follow_stays x = aimed_stays (refs.follow (names script z) r x) (refs.place (names script z) r (refs.follow (names script z) r x))

  bools_stay : (n : Name) (h : ℕ) (c d : Bool) → Stays (elim c [ true ↦ Nowhere | false ↦ elim d [ true ↦ End (Held z n) n | false ↦ End (Way z h) n ] ])
  bools_stay n h true d = at_nowhere v u
  bools_stay n h false true = at_held v u z n n
  bools_stay n h false false = from_other v u z h n far

  host_stays : (n : Name) (h : ℕ) → Stays (by_host z r n h)
  unfolding by_host
  host_stays n h = bools_stay n h (is_in h r.noticed) (z == h)

  name_stays : (n : Name) (o : Option (Known Name)) → Stays (of_name script honest z r n o)
  unfolding of_name
  name_stays (Object h i) o = follow_stays (Ref (Object h i))
  name_stays other None = host_stays other (host_of other)
  name_stays other (Some k) = follow_stays (Ref other)

  pub leads_stay : (x : Value Name) → Stays (leads_in script honest z r x)
  unfolding leads_in
  leads_stay (Ref n) = name_stays n (refs.entry_of (names script z) r.known n)
  leads_stay other = follow_stays other

-- ---- the ways

module _ (script : Script) (honest : ℕ → Bool) (vs : List (Vat Name)) (ls : List Link) (v u : ℕ) (s : Vat Name) (own : s.number ≡ v) (other : v ≡ u → ⊥) where
  abbrev New : Vat Name
  New = marked s u

  abbrev Vats : List (Vat Name)
  Vats = world.put_at v s vs

  abbrev Then : List (Vat Name)
  Then = world.put_at v New vs

  abbrev H : Place → Place
  H = past_link v u

  leads_found : (z : ℕ) (x : Value Name) → Found v s New vs z → leads_at script honest z (slice_get Then z) x ≡ H (leads_at script honest z (slice_get Vats z) x)
  unfolding leads_at
  leads_found z x (here e i j) = ap (λ o. leads_at script honest z o x) j ∙ subst (λ y. leads_in script honest y New x ≡ H (leads_in script honest y s x)) (sym e) (leads_marks script honest v u s own other x) ∙ sym (ap (λ o. H (leads_at script honest z o x)) i)
  leads_found z x (apart e i) = ap (λ o. leads_at script honest z o x) i ∙ sym (stay (slice_get Vats z))
    where
      stay : (o : Option (Vat Name)) → H (leads_at script honest z o x) ≡ leads_at script honest z o x
      stay (Some q) = leads_stay script honest v u z q e x
      stay None = at_nowhere v u
  leads_found z x (none i j) = ap (λ o. leads_at script honest z o x) j ∙ sym (ap (λ o. H (leads_at script honest z o x)) i ∙ at_nowhere v u)

  pub leads_via : (z : ℕ) (x : Value Name) → leads script honest Then ls z x ≡ H (leads script honest Vats ls z x)
  unfolding leads
  leads_via z x = leads_found z x (found v s New vs z)

  waits_stay : (z : ℕ) (n : Name) (gs : List (GiftEntry Name)) → H (unsettled script honest Vats ls z n gs) ≡ unsettled script honest Vats ls z n gs
  waits_stay z n gs = waiting_is (λ c. H c ≡ c) (at_mid v u) (at_nowhere v u) (at_free v u) script honest Vats ls z n gs

  released_via : (z : ℕ) (n : Name) (gs : List (GiftEntry Name)) (q : Standing Name) → released script honest Then ls z n gs q ≡ H (released script honest Vats ls z n gs q)
  unfolding released
  released_via z n gs Unsettled = waiting_same script honest Then Vats ls z n gs ∙ sym (waits_stay z n gs)
  released_via z n gs (WaitsOn y) = leads_via z (Ref y)
  released_via z n gs (Viewed y) = leads_via z (Ref y)
  released_via z n gs (Settled y) = leads_via z y

  released_vat : (z : ℕ) (n : Name) (o : Option (Vat Name)) → released_at script honest Then ls z n o ≡ H (released_at script honest Vats ls z n o)
  unfolding released_at
  released_vat z n (Some q) = released_via z n q.gifts (refs.standing_of (names script z) q.known n)
  released_vat z n None = sym (at_nowhere v u)

  released_here : (n : Name) → released_at script honest Then ls v n (Some New) ≡ H (released_at script honest Vats ls v n (Some s))
  unfolding released_at
  released_here n = released_via v n s.gifts (refs.standing_of (names script v) s.known n)

  released_found : (z : ℕ) (n : Name) → Found v s New vs z → released_at script honest Then ls z n (slice_get Then z) ≡ H (released_at script honest Vats ls z n (slice_get Vats z))
  released_found z n (here e i j) =
      ap (λ o. released_at script honest Then ls z n o) j
      ∙ subst (λ y. released_at script honest Then ls y n (Some New) ≡ H (released_at script honest Vats ls y n (Some s))) (sym e) (released_here n)
      ∙ sym (ap (λ o. H (released_at script honest Vats ls z n o)) i)
  released_found z n (apart e i) = ap (λ o. released_at script honest Then ls z n o) i ∙ released_vat z n (slice_get Vats z)
  released_found z n (none i j) = ap (λ o. released_at script honest Then ls z n o) j ∙ released_vat z n None ∙ sym (ap (λ o. H (released_at script honest Vats ls z n o)) i)

  over_bools : (c d : Bool) (b : ℕ) (n : Name) → elim c [ true ↦ elim d [ true ↦ Nowhere | false ↦ leads script honest Then ls b (Ref n) ] | false ↦ Free ] ≡ H (elim c [ true ↦ elim d [ true ↦ Nowhere | false ↦ leads script honest Vats ls b (Ref n) ] | false ↦ Free ])
  over_bools true true b n = sym (at_nowhere v u)
  over_bools true false b n = leads_via b (Ref n)
  over_bools false d b n = sym (at_free v u)

  over_via : (b : ℕ) (n : Name) (l : Link) → over script honest Then ls b n l ≡ H (over script honest Vats ls b n l)
  unfolding over
  over_via b n l = over_bools (is_honest script honest l) l.cut b n

  way_via : (b : ℕ) (n : Name) (o : Option Link) → elim o [ Some l ↦ over script honest Then ls b n l | None ↦ Nowhere ] ≡ H (elim o [ Some l ↦ over script honest Vats ls b n l | None ↦ Nowhere ])
  way_via b n (Some l) = over_via b n l
  way_via b n None = sym (at_nowhere v u)

  pub lanes_via : (l : Lane) (n : Name) → onward_at script honest Then ls l n ≡ H (onward_at script honest Vats ls l n)
  unfolding onward_at
  lanes_via (Queue z) n = sym (at_free v u)
  lanes_via (Held z q) n = released_found z q (found v s New vs z)
  lanes_via (Way a b) n = way_via b n (world.link_at a b ls)

module _ (script : Script) (honest : ℕ → Bool) (w : World) (v u : ℕ) (s : Vat Name) (own : s.number ≡ v) (other : v ≡ u → ⊥) (cut : (n : Name) → (WaysAmid script honest w v s).onward (Way v u) n ≡ Nowhere) where
  abbrev Marked : Vat Name
  Marked = marked s u

  abbrev W : Vat Name → Ways
  W t = WaysAmid script honest w v t

  abbrev Links : List Link
  Links = world.push_all v s.outbox w.links

  more : (l : Lane) → More (W s) (W Marked) l
  more (Queue z) = queue_more script honest w v s Marked z (λ e. ([], sym (append-nil (queued s.queue))))
  more (Held z n) = held_more script honest w v s Marked z n (λ e. ([], sym (append-nil (held_in n (refs.entry_of (names script v) s.known n)))))
  more (Way a b) = way_more script honest w v s Marked [] (sym (append-nil s.outbox)) a b

  lanes : (l : Lane) (n : Name) → (W Marked).onward l n ≡ past_link v u ((W s).onward l n)
  unfolding ways ways_of amid
  lanes l n = lanes_via script honest w.vats Links v u s own other l n

  leading : (z : ℕ) (x : Value Name) → LeadsAmid script honest w v Marked z x ≡ past_link v u (LeadsAmid script honest w v s z x)
  unfolding amid
  leading z x = leads_via script honest w.vats Links v u s own other z x

  noticed : IsNoticed (W s) (W Marked) v u (past_link v u)
  noticed = record {
    stands = λ l. within_more ((W s).stands l) ((W Marked).stands l) (more l).0 (more l).1;
    shut = λ n. lanes (Way v u) n ∙ ap (past_link v u) (cut n) ∙ at_nowhere v u;
    lanes = λ l n. lanes l n;
    there = λ n. inr (to_shut v u u n (eq-eqb u u refl));
    ends = λ l. end_stays v u l;
    nowhere_stays = at_nowhere v u;
    free_stays = at_free v u;
    mids = λ l b n. at_mid v u l b n;
  }

  ready : Ready script honest w v s → Ready script honest w v Marked
  ready r = record { number = r.number; ends = record { objects = r.ends.objects; fixed = r.ends.fixed }; draws = r.draws; answers = r.answers; promises = r.promises }

  pub keeps : MarkKeeps script honest w v u s
  keeps = record { ready = ready; leading = leading; keeps = λ c. noticing_keeps (W s) (W Marked) v u (past_link v u) noticed c; more = more }

pub marks_keep : MarksKeep
marks_keep script honest w v u s own other cut = keeps script honest w v u s own other cut
