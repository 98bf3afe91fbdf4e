-- As a name that holds no message settles, it is passed by.
use Rattle.std.proofs.Common.{◌≡◌, ℕ, zero, suc, Bool, true, false, List, [], ◌∷◌, ◌++◌, Option, Some, None, refl, sym, ap, subst, ◌∙◌, ◌⊎◌, inl, inr}
use Rattle.std.specs.Prelude.{slice_get, not, ◌==◌, ◌&&◌}
use Rattle.def_machine.specs.Values.{Value, Ref, Name, Gift}
use Rattle.def_machine.specs.State.{Standing, Unsettled, WaitsOn, Viewed, Settled, Known, Note, Vat, GiftEntry}
use Rattle.def_machine.specs.Refs as refs
use Rattle.def_run.specs.World.{Script, Link, names}
use Rattle.def_run.specs.World as world
use Rattle.law_order.specs.Ordering.Ways.{Lane, Queue, Held, Way, Item, Place, Nowhere, Free, End, IsIn}
use Rattle.law_order.specs.Ordering.Turns.{Within, IsPassed}
use Rattle.law_order.specs.Ordering.Places.{queued, held_in, delivered, subject, in_lane, note_place, first_place, or_never, open_place, shorten_place, was_put, gift_place, opens, shortens, opened_there, is_honest, leads_in, leads_at, leads, unsettled, released, released_at, stands_at, over, onward_at, ways_of, ways, amid}
use Rattle.law_order.specs.Ordering.Worlds.{StandsAlike}
use Rattle.law_order.specs.Ordering.Settle.{passed_by, onward_to, led_to, without, emptied, SettlesHere, aimed_at, SettledIsPassed}
use Rattle.law_order.proofs.Ordering.Named.{Test, test_self, test_is, passes_here, passes_other, passes_queue, passes_way, passes_mid, passes_nowhere, passes_free}
use Rattle.law_order.proofs.Ordering.Settled.{far_stays, leads_on, settled_leads, settled_stands, settled_definite, settled_stays, others_standing}
use Rattle.law_order.proofs.Ordering.Sends.{get_put}

-- ---- notes that let gifts go stand where they stood

module _ (v : ℕ) (p : Name) (e : Place) where
  abbrev Stays : Place → Type 0
  Stays c = passed_by v p e c ≡ c

  abbrev AllStay : Option Place → Type 0
  AllStay None = Unit {0}
  AllStay (Some c) = Stays c

  lane_stays : (l : Lane) (b : List Item) (o : Option Name) → AllStay (in_lane l b o)
  unfolding in_lane
  lane_stays l b (Some n) = passes_mid v p e l b n
  lane_stays l b None = tt

  note_stays : (f : Note Name → Bool) (l : Lane) (b : List Item) (ns : List (Note Name)) → AllStay (note_place f l b ns)
  unfolding note_place
  note_stays f l b [] = tt
  note_stays f l b (n ∷ ns) = go (note_stays f l (b ++ delivered (n ∷ [])) ns) (f n)
    where
      go : AllStay (note_place f l (b ++ delivered (n ∷ [])) ns) → (c : Bool) → AllStay (elim c [ true ↦ in_lane l b (subject n) | false ↦ note_place f l (b ++ delivered (n ∷ [])) ns ])
      go h true = lane_stays l b (subject n)
      go h false = h

  first_stays : (a b : Option Place) → AllStay a → AllStay b → AllStay (first_place a b)
  unfolding first_place
  first_stays (Some c) b h i = h
  first_stays None b h i = i

  chosen_stays : (c : Bool) (a b : Option Place) → AllStay a → AllStay b → AllStay (elim c [ true ↦ first_place a b | false ↦ b ])
  chosen_stays true a b h i = first_stays a b h i
  chosen_stays false a b h i = i

  module _ (script : Script) (honest : ℕ → Bool) where
    never_stays : (c : Bool) (o : Option Place) → AllStay o → Stays (or_never script honest c o)
    unfolding or_never
    never_stays c (Some d) h = h
    never_stays true None h = passes_nowhere v p e
    never_stays false None h = passes_free v p e

    open_stays : (h i : ℕ) (ls : List Link) → AllStay (open_place script honest h i ls)
    unfolding open_place
    open_stays h i [] = tt
    open_stays h i (l ∷ ls) = chosen_stays (is_honest script honest l && (l.to == h)) (note_place (opens i) (Way l.from l.to) [] l.notes) (open_place script honest h i ls) (note_stays (opens i) (Way l.from l.to) [] l.notes) (open_stays h i ls)

    shorten_stays : (h i : ℕ) (ls : List Link) → AllStay (shorten_place script honest h i ls)
    unfolding shorten_place
    shorten_stays h i [] = tt
    shorten_stays h i (l ∷ ls) = chosen_stays (is_honest script honest l) (note_place (shortens h i) (Way l.from l.to) [] l.notes) (shorten_place script honest h i ls) (note_stays (shortens h i) (Way l.from l.to) [] l.notes) (shorten_stays h i ls)

    gift_stays : (h i : ℕ) (ls : List Link) → Stays (gift_place script honest h i ls)
    unfolding gift_place
    gift_stays h i ls = never_stays (was_put script honest h i ls) (first_place (open_place script honest h i ls) (shorten_place script honest h i ls)) (first_stays (open_place script honest h i ls) (shorten_place script honest h i ls) (open_stays h i ls) (shorten_stays h i ls))

    module _ (vs : List (Vat Name)) (ls : List Link) where
      waiting_stays : (u : ℕ) (n : Name) (gs : List (GiftEntry Name)) → Stays (unsettled script honest vs ls u n gs)
      unfolding unsettled
      waiting_stays u (Gift h i) gs = go ((h == u) && not (opened_there (Gift h i) gs))
        where
          go : (c : Bool) → Stays (elim c [ true ↦ gift_place script honest h i ls | false ↦ Free ])
          go true = gift_stays h i ls
          go false = passes_free v p e
      waiting_stays u other gs = passes_free v p e

-- it does not hang on the vats
pub waiting_same : (script : Script) (honest : ℕ → Bool) (vs rs : List (Vat Name)) (ls : List Link) (u : ℕ) (n : Name) (gs : List (GiftEntry Name)) → unsettled script honest vs ls u n gs ≡ unsettled script honest rs ls u n gs
unfolding unsettled
waiting_same script honest vs rs ls u (Gift h i) gs = refl
waiting_same script honest vs rs ls u other gs = refl

-- ---- vats that are found

-- it is that vat, or another, or there is none
pub data Found (v : ℕ) (s t : Vat Name) (vs : List (Vat Name)) (u : ℕ) : Type 0 where
  here : u ≡ v → slice_get (world.put_at v s vs) u ≡ Some s → slice_get (world.put_at v t vs) u ≡ Some t → Found v s t vs u
  apart : (u ≡ v → ⊥) → slice_get (world.put_at v t vs) u ≡ slice_get (world.put_at v s vs) u → Found v s t vs u
  none : slice_get (world.put_at v s vs) u ≡ None → slice_get (world.put_at v t vs) u ≡ None → Found v s t vs u

abbrev IsYes : Bool → Type 0
IsYes true = Unit {0}
IsYes false = ⊥

abbrev IsZero : ℕ → Type 0
IsZero zero = Unit {0}
IsZero (suc n) = ⊥

abbrev before : ℕ → ℕ
before zero = zero
before (suc n) = n

found_more : (v : ℕ) (s t r : Vat Name) (vs : List (Vat Name)) (u : ℕ) → Found v s t vs u → Found (suc v) s t (r ∷ vs) (suc u)
unfolding world.put_at
found_more v s t r vs u (here e i j) = here (ap suc e) i j
found_more v s t r vs u (apart e i) = apart (λ q. e (ap before q)) i
found_more v s t r vs u (none i j) = none i j

pub found : (v : ℕ) (s t : Vat Name) (vs : List (Vat Name)) (u : ℕ) → Found v s t vs u
unfolding world.put_at
found v s t [] u = none refl refl
found zero s t (r ∷ vs) zero = here refl refl refl
found zero s t (r ∷ vs) (suc u) = apart (λ q. subst IsZero (sym q) tt) refl
found (suc v) s t (r ∷ vs) zero = apart (λ q. subst IsZero q tt) refl
found (suc v) s t (r ∷ vs) (suc u) = found_more v s t r vs u (found v s t vs u)

-- ---- the ways

module _ (script : Script) (honest : ℕ → Bool) (vs : List (Vat Name)) (ls : List Link) (v : ℕ) (r s t : Vat Name) (p : Name) (y : Value Name) (at : slice_get vs v ≡ Some r) (g : SettlesHere (names script v) s t p y v) where
  abbrev Vats : List (Vat Name)
  Vats = world.put_at v s vs

  abbrev Vats' : List (Vat Name)
  Vats' = world.put_at v t vs

  abbrev E : Place
  E = aimed_at script v t y

  abbrev F : Place → Place
  F = passed_by v p E

  leads_found : (u : ℕ) (x : Value Name) → Found v s t vs u → leads_at script honest u (slice_get Vats' u) x ≡ F (leads_at script honest u (slice_get Vats u) x)
  unfolding leads_at
  leads_found u x (here e i j) = ap (λ o. leads_at script honest u o x) j ∙ subst (λ z. leads_in script honest z t x ≡ F (leads_in script honest z s x)) (sym e) (leads_on script honest v s t p y g x) ∙ sym (ap (λ o. F (leads_at script honest u o x)) i)
  leads_found u x (apart e i) = ap (λ o. leads_at script honest u o x) i ∙ sym (stay (slice_get Vats u))
    where
      stay : (o : Option (Vat Name)) → F (leads_at script honest u o x) ≡ leads_at script honest u o x
      stay (Some q) = far_stays script honest v p E u q e x
      stay None = passes_nowhere v p E
  leads_found u x (none i j) = ap (λ o. leads_at script honest u o x) j ∙ sym (ap (λ o. F (leads_at script honest u o x)) i ∙ passes_nowhere v p E)

  pub leads_via : (u : ℕ) (x : Value Name) → leads script honest Vats' ls u x ≡ F (leads script honest Vats ls u x)
  unfolding leads
  leads_via u x = leads_found u x (found v s t vs u)

  released_via : (u : ℕ) (n : Name) (gs : List (GiftEntry Name)) (q : Standing Name) → released script honest Vats' ls u n gs q ≡ F (released script honest Vats ls u n gs q)
  unfolding released
  released_via u n gs Unsettled = waiting_same script honest Vats' Vats ls u n gs ∙ sym (waiting_stays v p E script honest Vats ls u n gs)
  released_via u n gs (WaitsOn z) = leads_via u (Ref z)
  released_via u n gs (Viewed z) = leads_via u (Ref z)
  released_via u n gs (Settled z) = leads_via u z

  released_vat : (u : ℕ) (n : Name) (o : Option (Vat Name)) → released_at script honest Vats' ls u n o ≡ F (released_at script honest Vats ls u n o)
  unfolding released_at
  released_vat u n (Some q) = released_via u n q.gifts (refs.standing_of (names script u) q.known n)
  released_vat u n None = sym (passes_nowhere v p E)

  released_here : (n : Name) → (n ≡ p → ⊥) → released_at script honest Vats' ls v n (Some t) ≡ F (released_at script honest Vats ls v n (Some s))
  unfolding released_at
  released_here n i = ap (λ gs. released script honest Vats' ls v n gs (refs.standing_of (names script v) t.known n)) g.only.gifts
      ∙ ap (λ q. released script honest Vats' ls v n s.gifts q) (others_standing script honest v s t p y g n i)
      ∙ released_via v n s.gifts (refs.standing_of (names script v) s.known n)

  released_found : (u : ℕ) (n : Name) → (u ≡ v → n ≡ p → ⊥) → Found v s t vs u → released_at script honest Vats' ls u n (slice_get Vats' u) ≡ F (released_at script honest Vats ls u n (slice_get Vats u))
  released_found u n away (here e i j) =
      ap (λ o. released_at script honest Vats' ls u n o) j
      ∙ subst (λ z. released_at script honest Vats' ls z n (Some t) ≡ F (released_at script honest Vats ls z n (Some s))) (sym e) (released_here n (away e))
      ∙ sym (ap (λ o. F (released_at script honest Vats ls u n o)) i)
  released_found u n away (apart e i) = ap (λ o. released_at script honest Vats' ls u n o) i ∙ released_vat u n (slice_get Vats u)
  released_found u n away (none i j) = ap (λ o. released_at script honest Vats' ls u n o) j ∙ released_vat u n None ∙ sym (ap (λ o. F (released_at script honest Vats ls u n o)) i)

  leads_there : leads script honest Vats' ls v y ≡ E
  unfolding leads leads_at
  leads_there = ap (λ o. leads_at script honest v o y) (get_put vs v r t at) ∙ settled_leads script honest v s t p y g

  released_settled : released_at script honest Vats' ls v p (slice_get Vats' v) ≡ E
  unfolding released_at released
  released_settled = ap (λ o. released_at script honest Vats' ls v p o) (get_put vs v r t at)
      ∙ ap (λ q. released script honest Vats' ls v p t.gifts q) (settled_stands script honest v s t p y g)
      ∙ leads_there

  abbrev Led : Lane → Name → Place
  Led = onward_to (onward_at script honest Vats ls) v p E

  no_test : (u : ℕ) (q : Name) → u ≡ v → q ≡ p → Test v p u q ≡ false → ⊥
  no_test u q a b k = subst IsYes (sym (subst (λ z. Test v p z q ≡ true) (sym a) (subst (λ z. Test v p v z ≡ true) (sym b) (test_self v p))) ∙ k) tt

  held_via : (u : ℕ) (q n : Name) → onward_at script honest Vats' ls (Held u q) n ≡ F (Led (Held u q) n)
  unfolding onward_at onward_to
  held_via u q n = go (Test v p u q) refl
    where
      go : (c : Bool) → Test v p u q ≡ c → released_at script honest Vats' ls u q (slice_get Vats' u) ≡ F (elim c [ true ↦ E | false ↦ released_at script honest Vats ls u q (slice_get Vats u) ])
      go true i = let h = test_is v p u q i in subst (λ z. released_at script honest Vats' ls z q (slice_get Vats' z) ≡ F E) (sym h.0) (subst (λ z. released_at script honest Vats' ls v z (slice_get Vats' v) ≡ F E) (sym h.1) (released_settled ∙ sym (settled_stays script honest v s t p y g)))
      go false i = released_found u q (λ a b. no_test u q a b i) (found v s t vs u)

  over_bools : (c d : Bool) (b : ℕ) (n : Name) → elim c [ true ↦ elim d [ true ↦ Nowhere | false ↦ leads script honest Vats' ls b (Ref n) ] | false ↦ Free ] ≡ F (elim c [ true ↦ elim d [ true ↦ Nowhere | false ↦ leads script honest Vats ls b (Ref n) ] | false ↦ Free ])
  over_bools true true b n = sym (passes_nowhere v p E)
  over_bools true false b n = leads_via b (Ref n)
  over_bools false d b n = sym (passes_free v p E)

  over_via : (b : ℕ) (n : Name) (l : Link) → over script honest Vats' ls b n l ≡ F (over script honest Vats ls b n l)
  unfolding over
  over_via b n l = over_bools (is_honest script honest l) l.cut b n

  way_via : (b : ℕ) (n : Name) (o : Option Link) → elim o [ Some l ↦ over script honest Vats' ls b n l | None ↦ Nowhere ] ≡ F (elim o [ Some l ↦ over script honest Vats ls b n l | None ↦ Nowhere ])
  way_via b n (Some l) = over_via b n l
  way_via b n None = sym (passes_nowhere v p E)

  lanes_via : (l : Lane) (n : Name) → onward_at script honest Vats' ls l n ≡ F (Led l n)
  unfolding onward_at onward_to
  lanes_via (Queue u) n = sym (passes_free v p E)
  lanes_via (Held u q) n = held_via u q n
  lanes_via (Way a b) n = way_via b n (world.link_at a b ls)

  led_here : (n : Name) → Led (Held v p) n ≡ E
  unfolding onward_to
  led_here n = ap (λ c. elim c [ true ↦ E | false ↦ onward_at script honest Vats ls (Held v p) n ]) (test_self v p)

  -- ---- what stands where

  held_alike : (n : Name) (a b : Option (Known Name)) → StandsAlike n a b → Within (held_in n a) (held_in n b)
  unfolding held_in
  held_alike n None None e = λ i h. h
  held_alike n (Some j) (Some k) e = e.2
  held_alike n other another e = absurd e

  others_held : (n : Name) (i : Item) → (n ≡ p → ⊥) → (n ≡ p) ⊎ ((n ≡ p → ⊥) × StandsAlike n (refs.entry_of (names script v) s.known n) (refs.entry_of (names script v) t.known n)) → IsIn i (held_in n (refs.entry_of (names script v) s.known n)) → IsIn i (held_in n (refs.entry_of (names script v) t.known n))
  others_held n i a (inl q) h = absurd (a q)
  others_held n i a (inr q) h = held_alike n (refs.entry_of (names script v) s.known n) (refs.entry_of (names script v) t.known n) q.1 i h

  abbrev HeldOf : ℕ → Name → Option (Vat Name) → List Item
  HeldOf u n o = elim o [ Some q ↦ held_in n (refs.entry_of (names script u) q.known n) | None ↦ [] ]

  abbrev QueueOf : Option (Vat Name) → List Item
  QueueOf o = elim o [ Some q ↦ queued q.queue | None ↦ [] ]

  held_found : (u : ℕ) (n : Name) (i : Item) → (u ≡ v → n ≡ p → ⊥) → Found v s t vs u → IsIn i (HeldOf u n (slice_get Vats u)) → IsIn i (HeldOf u n (slice_get Vats' u))
  held_found u n i no_p (here e a b) h = subst (λ o. IsIn i (HeldOf u n o)) (sym b) (subst (λ z. IsIn i (HeldOf z n (Some t))) (sym e) (others_held n i (no_p e) (g.only.others n) (subst (λ z. IsIn i (HeldOf z n (Some s))) e (subst (λ o. IsIn i (HeldOf u n o)) a h))))
  held_found u n i no_p (apart e a) h = subst (λ o. IsIn i (HeldOf u n o)) (sym a) h
  held_found u n i no_p (none a b) h = absurd (subst (λ o. IsIn i (HeldOf u n o)) a h)

  queue_found : (u : ℕ) (i : Item) → Found v s t vs u → IsIn i (QueueOf (slice_get Vats u)) → IsIn i (QueueOf (slice_get Vats' u))
  queue_found u i (here e a b) h = subst (λ o. IsIn i (QueueOf o)) (sym b) (subst (λ q. IsIn i (queued q)) (sym g.only.queue) (subst (λ o. IsIn i (QueueOf o)) a h))
  queue_found u i (apart e a) h = subst (λ o. IsIn i (QueueOf o)) (sym a) h
  queue_found u i (none a b) h = absurd (subst (λ o. IsIn i (QueueOf o)) a h)

  abbrev Left : Lane → List Item
  Left = without (stands_at script honest Vats ls) v p

  held_left : (u : ℕ) (n : Name) (i : Item) → IsIn i (Left (Held u n)) → IsIn i (stands_at script honest Vats' ls (Held u n))
  unfolding without stands_at
  held_left u n i h = go (Test v p u n) refl h
    where
      go : (c : Bool) → Test v p u n ≡ c → IsIn i (elim c [ true ↦ [] | false ↦ HeldOf u n (slice_get Vats u) ]) → IsIn i (HeldOf u n (slice_get Vats' u))
      go true e j = absurd j
      go false e j = held_found u n i (λ a b. no_test u n a b e) (found v s t vs u) j

  stands_via : (l : Lane) → Within (Left l) (stands_at script honest Vats' ls l)
  unfolding without stands_at
  stands_via (Queue u) = λ i h. queue_found u i (found v s t vs u) h
  stands_via (Held u n) = λ i h. held_left u n i h
  stands_via (Way a b) = λ i h. h

  none_there : (i : Item) → IsIn i (Left (Held v p)) → ⊥
  unfolding without
  none_there i h = subst (λ c. IsIn i (elim c [ true ↦ [] | false ↦ stands_at script honest Vats ls (Held v p) ])) (test_self v p) h

  passed_end : (l : Lane) → ((n : Name) → F (End l n) ≡ End l n) ⊎ (l ≡ Held v p)
  passed_end (Queue u) = inl (λ n. passes_queue v p E u n)
  passed_end (Way a b) = inl (λ n. passes_way v p E a b n)
  passed_end (Held u q) = go (Test v p u q) refl
    where
      go : (c : Bool) → Test v p u q ≡ c → ((n : Name) → F (End (Held u q) n) ≡ End (Held u q) n) ⊎ (Held u q ≡ Held v p)
      go true i = let h = test_is v p u q i in inr (ap (λ z. Held z q) h.0 ∙ ap (λ z. Held v z) h.1)
      go false i = inl (λ n. passes_other v p E u q n (λ a b. no_test u q a b i))

  is_passed : IsPassed (emptied (led_to (ways_of script honest Vats ls) v p E) v p) (ways_of script honest Vats' ls) v p E F
  unfolding emptied led_to ways_of
  is_passed = record {
    stands = λ l. stands_via l;
    none = λ i h. none_there i h;
    leads = λ n. led_here n;
    definite = settled_definite script honest v s t p y g;
    lanes = λ l n. lanes_via l n;
    there = λ n. passes_here v p E n;
    ends = λ l. passed_end l;
    nowhere_stays = passes_nowhere v p E;
    free_stays = passes_free v p E;
    mids = λ l b n. passes_mid v p E l b n;
  }

pub settled_is_passed : SettledIsPassed
unfolding ways amid
settled_is_passed = λ script honest w v r s t p y at g.
    let e = aimed_at script v t y in
    subst (λ ps. IsPassed (emptied (led_to (ways_of script honest (world.put_at v s w.vats) (world.push_all v s.outbox w.links)) v p e) v p) (ways_of script honest (world.put_at v t w.vats) (world.push_all v ps w.links)) v p e (passed_by v p e)) (sym g.only.outbox)
    (is_passed script honest w.vats (world.push_all v s.outbox w.links) v r s t p y at g)
