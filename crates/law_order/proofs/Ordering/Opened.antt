-- A note that lets a gift go acts.
use Rattle.std.proofs.Common.{◌≡◌, ℕ, suc, Bool, true, false, List, [], ◌∷◌, Option, Some, None, length, refl, sym, ap, subst, ◌∙◌, ◌⊎◌, inl, inr, eqb-true, eq-eqb}
use Rattle.std.specs.Prelude.{slice_get, not, ◌==◌, ◌&&◌, ◌||◌}
use Rattle.def_machine.specs.Values.{Value, Ref, Name, Object, Gift, Naming, Spot, Own, same_name, host_of}
use Rattle.def_machine.specs.State.{NoMore, Standing, Unsettled, WaitsOn, Viewed, Settled, Known, Note, Open, GiftEntry, Vat, is_gift, with_opened}
use Rattle.def_machine.specs.Arrive.{gift_at}
use Rattle.def_machine.specs.Refs as refs
use Rattle.def_run.specs.World.{Script, Link, World, names}
use Rattle.def_run.specs.World as world
use Rattle.law_order.specs.Ordering.Ways.{Lane, Queue, Held, Way, Item, Place, Nowhere, Free, Mid, Ways, IsIn}
use Rattle.law_order.specs.Ordering.Turns.{Reroutes, stays_so, gone_on, IsTurned}
use Rattle.law_order.specs.Ordering.Places.{queued, held_in, delivered, opens, shortens, note_place, opened_there, is_honest, gift_place, aimed, by_host, by_follow, of_name, leads_in, leads_at, leads, unsettled, released, released_at, stands_at, over, onward_at, ways_of, ways, amid}
use Rattle.law_order.specs.Ordering.Arrivals.{in_front, keeping, IsOpenWay, IsLedTo, IsShut, OpenedGiftsTurn}
use Rattle.law_order.proofs.Ordering.Sends.{none_some, some_same, get_put, link_here, link_behind}
use Rattle.law_order.proofs.Ordering.Amid.{Put, put_either}
use Rattle.law_order.proofs.Ordering.OrderKeeping.{LinkLeaves, AllLeave, Same, each_same, place_front, all_leave, all_put_on, links_still, gift_leaves, stands_leaves, front_link}
use Rattle.law_order.proofs.Ordering.Arrived.{IsOpen, all_open, onward_some}

-- ---- references do not hang on the gifts of a vat

module _ (script : Script) (honest : ℕ → Bool) (v : ℕ) (s : Vat Name) (gs : List (GiftEntry Name)) where
  abbrev K : Naming Name Name
  K = names script v

  abbrev T : Vat Name
  T = record s { gifts = gs }

  severed_spot : (n : Name) (p : Spot) → refs.severed_at K T n p ≡ refs.severed_at K s n p
  unfolding refs.severed_at refs.severed_by
  severed_spot n (Own i) = refl
  severed_spot n other = refl

  severed_still : (y : Value Name) → refs.severed K T y ≡ refs.severed K s y
  unfolding refs.severed
  severed_still (Ref n) = severed_spot n (K.spot n)
  severed_still other = refl

  spotted_still : (n : Name) (p : Spot) → refs.spotted K T n p ≡ refs.spotted K s n p
  unfolding refs.spotted
  spotted_still n (Own i) = refl
  spotted_still n other = refl

  place_still : (y : Value Name) → refs.place K T y ≡ refs.place K s y
  unfolding refs.place
  place_still (Ref n) = spotted_still n (K.spot n)
  place_still other = refl

  follow_still : (x : Value Name) → refs.follow K T x ≡ refs.follow K s x
  unfolding refs.follow
  follow_still x = severed_still (refs.follow_at K (suc (length s.known)) s.known x)

  by_follow_still : (x : Value Name) → by_follow script honest v T x ≡ by_follow script honest v s x
  unfolding by_follow
  by_follow_still x = ap (λ y. aimed v y (refs.place K T y)) (follow_still x) ∙ ap (λ p. aimed v (refs.follow K s x) p) (place_still (refs.follow K s x))

  by_host_still : (n : Name) (h : ℕ) → by_host v T n h ≡ by_host v s n h
  unfolding by_host
  by_host_still n h = refl

  of_name_still : (n : Name) (o : Option (Known Name)) → of_name script honest v T n o ≡ of_name script honest v s n o
  unfolding of_name
  of_name_still (Object h i) o = by_follow_still (Ref (Object h i))
  of_name_still other (Some k) = by_follow_still (Ref other)
  of_name_still other None = by_host_still other (host_of other)

  pub leads_still : (x : Value Name) → leads_in script honest v T x ≡ leads_in script honest v s x
  unfolding leads_in
  leads_still (Ref n) = of_name_still n (refs.entry_of (names script v) s.known n)
  leads_still other = by_follow_still other

-- ---- other gifts

opened_here : (n m : Name) (c rest : Bool) → same_name n m ≡ false → ((same_name n m && c) || rest) ≡ rest
opened_here n m c rest e = ap (λ x. (x && c) || rest) e

opened_other : (a i : ℕ) (g m : Name) (gs : List (GiftEntry Name)) (e : GiftEntry Name) → gift_at a i gs ≡ Some e → e.name ≡ g → same_name g m ≡ false → opened_there m (with_opened a i gs) ≡ opened_there m gs
unfolding gift_at with_opened opened_there
opened_other a i g m [] e f h other = refl
opened_other a i g m (x ∷ gs) e f h other = go (λ q. opened_other a i g m gs e q h other) (is_gift a i x) f
  where
    go : (gift_at a i gs ≡ Some e → opened_there m (with_opened a i gs) ≡ opened_there m gs) → (c : Bool) → elim c [ true ↦ Some x | false ↦ gift_at a i gs ] ≡ Some e
        → opened_there m (elim c [ true ↦ record x { opened = true } ∷ gs | false ↦ x ∷ with_opened a i gs ]) ≡ ((same_name x.name m && x.opened) || opened_there m gs)
    go r true q = let differs : same_name x.name m ≡ false = ap (λ z. same_name z m) (ap (λ y. y.name) (some_same x e q) ∙ h) ∙ other in opened_here x.name m true (opened_there m gs) differs ∙ sym (opened_here x.name m x.opened (opened_there m gs) differs)
    go r false q = ap (λ z. (same_name x.name m && x.opened) || z) (r q)

pub same_number : (n : ℕ) → (n == n) ≡ true
same_number n = eq-eqb n n refl

pub second_false : (c d : Bool) → c ≡ true → (c && d) ≡ false → d ≡ false
second_false c d e f = sym (ap (λ x. x && d) e) ∙ f

-- the note kept in front of a link that is not cut
front_open : (a b : ℕ) (n : Note Name) (ls : List Link) → IsOpen a b ls → IsOpen a b (world.with_link (in_front n) a b ls)
unfolding world.with_link world.link_at in_front
front_open a b n [] o = none_some o.0 o.1
front_open a b n (k ∷ ls) o = go (λ q. front_open a b n ls q) (world.is_link a b k) refl o
  where
    go : (IsOpen a b ls → IsOpen a b (world.with_link (in_front n) a b ls)) → (c : Bool) → world.is_link a b k ≡ c → (l : Link) × (elim c [ true ↦ Some k | false ↦ world.link_at a b ls ] ≡ Some l) × (l.cut ≡ false)
        → IsOpen a b (elim c [ true ↦ in_front n k ∷ ls | false ↦ k ∷ world.with_link (in_front n) a b ls ])
    go f true e q = (in_front n k, link_here a b (in_front n k) ls (front_link a b n k ∙ e), ap (λ x. x.cut) (some_same k q.0 q.1) ∙ q.2)
    go f false e q = let x = f q in (x.0, link_behind a b k (world.with_link (in_front n) a b ls) e ∙ x.1, x.2)

abbrev IsWay : Lane → Type 0
IsWay (Way a b) = Unit {0}
IsWay other = ⊥

-- ---- the note acts

module _ (script : Script) (honest : ℕ → Bool) (w : World) (a b : ℕ) (r s : Vat Name) (i : ℕ) (n : Name) (at : slice_get w.vats b ≡ Some r) (way : IsOpenWay honest a b w) (shut : IsShut (names script b) s a i (Gift b i)) where
  abbrev Note' : Note Name
  Note' = Open i n

  abbrev Gone : Vat Name
  Gone = record s { gifts = with_opened a i s.gifts }

  abbrev Links : List Link
  Links = world.push_all b s.outbox w.links

  abbrev Kept : List Link
  Kept = world.with_link (in_front Note') a b Links

  abbrev Vats : List (Vat Name)
  Vats = world.put_at b s w.vats

  abbrev Vats' : List (Vat Name)
  Vats' = world.put_at b Gone w.vats

  either : (u : ℕ) → Put b s Gone w.vats u
  either u = put_either b s Gone w.vats u

  leads_by : (u : ℕ) (x : Value Name) → Put b s Gone w.vats u → leads_at script honest u (slice_get Vats' u) x ≡ leads_at script honest u (slice_get Vats u) x
  unfolding leads_at
  leads_by u x (inl h) = ap (λ o. leads_at script honest u o x) h.2 ∙ leads_still script honest u s (with_opened a i s.gifts) x ∙ sym (ap (λ o. leads_at script honest u o x) h.1)
  leads_by u x (inr h) = ap (λ o. leads_at script honest u o x) h

  -- of any links
  leads_same : (ls ks : List Link) (u : ℕ) (x : Value Name) → leads script honest Vats' ls u x ≡ leads script honest Vats ks u x
  unfolding leads
  leads_same ls ks u x = leads_by u x (either u)

  over_same : (y : ℕ) (o : Name) (l : Link) → over script honest Vats' Links y o l ≡ over script honest Vats Links y o l
  unfolding over
  over_same y o l = ap (λ c. elim (is_honest script honest l) [ true ↦ elim l.cut [ true ↦ Nowhere | false ↦ c ] | false ↦ Free ]) (leads_same Links Links y (Ref o))

  abbrev OverOf : List (Vat Name) → ℕ → Name → Option Link → Place
  OverOf vs y o q = elim q [ Some k ↦ over script honest vs Links y o k | None ↦ Nowhere ]

  way_same : (y : ℕ) (o : Name) (q : Option Link) → OverOf Vats' y o q ≡ OverOf Vats y o q
  way_same y o (Some l) = over_same y o l
  way_same y o None = refl

  stands_queue : (u : ℕ) (j : Item) → Put b s Gone w.vats u → IsIn j (elim (slice_get Vats u) [ Some x ↦ queued x.queue | None ↦ [] ]) → IsIn j (elim (slice_get Vats' u) [ Some x ↦ queued x.queue | None ↦ [] ])
  stands_queue u j (inl h) k = subst (λ o. IsIn j (elim o [ Some x ↦ queued x.queue | None ↦ [] ])) (sym h.2) (subst (λ o. IsIn j (elim o [ Some x ↦ queued x.queue | None ↦ [] ])) h.1 k)
  stands_queue u j (inr h) k = subst (λ o. IsIn j (elim o [ Some x ↦ queued x.queue | None ↦ [] ])) (sym h) k

  abbrev HeldOf : ℕ → Name → Option (Vat Name) → List Item
  HeldOf u q o = elim o [ Some x ↦ held_in q (refs.entry_of (names script u) x.known q) | None ↦ [] ]

  stands_held : (u : ℕ) (q : Name) (j : Item) → Put b s Gone w.vats u → IsIn j (HeldOf u q (slice_get Vats u)) → IsIn j (HeldOf u q (slice_get Vats' u))
  stands_held u q j (inl h) k = subst (λ o. IsIn j (HeldOf u q o)) (sym h.2) (subst (λ o. IsIn j (HeldOf u q o)) h.1 k)
  stands_held u q j (inr h) k = subst (λ o. IsIn j (HeldOf u q o)) (sym h) k

  stands_same : (l : Lane) (j : Item) → IsIn j (stands_at script honest Vats Links l) → IsIn j (stands_at script honest Vats' Links l)
  unfolding stands_at
  stands_same (Queue u) j k = stands_queue u j (either u) k
  stands_same (Held u q) j k = stands_held u q j (either u) k
  stands_same (Way x y) j k = k

  -- the note delivers nothing
  stands_then : (l : Lane) (j : Item) → IsIn j (stands_at script honest Vats Links l) ⊎ ((l ≡ Way a b) × IsIn j (delivered (Note' ∷ []))) → IsIn j (stands_at script honest Vats' Links l)
  unfolding delivered
  stands_then l j (inl k) = stands_same l j k
  stands_then l j (inr k) = absurd k.1

  -- ---- what other names hold

  abbrev Other : ℕ → ℕ → Type 0
  Other h j = same_name (Gift b i) (Gift h j) ≡ false

  other_open : (h j : ℕ) → Other h j → (h == b) ≡ true → opens j Note' ≡ false
  unfolding opens same_name
  other_open h j e f = second_false (b == h) (i == j) (subst (λ x. (x == h) ≡ true) (eqb-true h b f) (same_number h)) e

  note_link : (l : Link) → l.from ≡ a → l.to ≡ b → LinkLeaves Same Other (in_front Note' l) l
  unfolding in_front shortens delivered
  note_link l e f = record {
    from = refl;
    to = refl;
    cut = refl;
    opened = λ h j o c. refl;
    shortened = λ h j o. refl;
    opening = λ h j o c. each_same Other (note_place (opens j) (Way l.from l.to) [] (Note' ∷ l.notes)) (note_place (opens j) (Way l.from l.to) [] l.notes) (sym (place_front (opens j) (Way l.from l.to) Note' l.notes (other_open h j o (subst (λ x. (h == x) ≡ true) f (subst (λ x. (x == l.to) ≡ true) (eqb-true l.to h c) (same_number l.to))))));
    shortening = λ h j o. each_same Other (note_place (shortens h j) (Way l.from l.to) [] (Note' ∷ l.notes)) (note_place (shortens h j) (Way l.from l.to) [] l.notes) (sym (place_front (shortens h j) (Way l.from l.to) Note' l.notes refl));
  }

  all_other : AllLeave Same Other Kept Links
  all_other = all_leave Same Other (λ c. refl) a b Note' (λ l e f. note_link l e f) Links

  -- a gift of another vat
  unsettled_away : (vs : List (Vat Name)) (ls ks : List Link) (u h j : ℕ) (gs hs : List (GiftEntry Name)) → (h == u) ≡ false → unsettled script honest vs ls u (Gift h j) gs ≡ unsettled script honest vs ks u (Gift h j) hs
  unfolding unsettled
  unsettled_away vs ls ks u h j gs hs e =
      ap (λ c. elim (c && not (opened_there (Gift h j) gs)) [ true ↦ gift_place script honest h j ls | false ↦ Free ]) e
      ∙ sym (ap (λ c. elim (c && not (opened_there (Gift h j) hs)) [ true ↦ gift_place script honest h j ks | false ↦ Free ]) e)

  -- a gift that is not the one which the note lets go
  unsettled_other : (vs ws : List (Vat Name)) (u h j : ℕ) (gs hs : List (GiftEntry Name)) → Other h j → opened_there (Gift h j) hs ≡ opened_there (Gift h j) gs → unsettled script honest ws Links u (Gift h j) hs ≡ unsettled script honest vs Kept u (Gift h j) gs
  unfolding unsettled
  unsettled_other vs ws u h j gs hs o e =
      ap (λ c. elim ((h == u) && not c) [ true ↦ gift_place script honest h j Links | false ↦ Free ]) e
      ∙ ap (λ c. elim ((h == u) && not (opened_there (Gift h j) gs)) [ true ↦ c | false ↦ Free ]) (gift_leaves Same Other (λ c. refl) script honest h j o Kept Links all_other)

  -- the gift that the note lets go, at its host
  abbrev IsIt : ℕ → Name → Type 0
  IsIt u p = (u ≡ b) × (p ≡ Gift b i)

  first_true : (c d : Bool) → (c && d) ≡ true → c ≡ true
  first_true true d e = refl
  first_true false d e = e

  second_true : (c d : Bool) → (c && d) ≡ true → d ≡ true
  second_true false true e = refl
  second_true other another e = e

  is_it : (u h j : ℕ) → same_name (Gift b i) (Gift h j) ≡ true → (h == u) ≡ true → IsIt u (Gift h j)
  unfolding same_name
  is_it u h j e f = let x = eqb-true b h (first_true (b == h) (i == j) e) in let y = eqb-true i j (second_true (b == h) (i == j) e) in (sym (x ∙ eqb-true h u f), ap (λ z. Gift z j) (sym x) ∙ ap (λ z. Gift b z) (sym y))

  abbrev Alike : ℕ → Name → List (GiftEntry Name) → List (GiftEntry Name) → Type 0
  Alike u p gs hs = (unsettled script honest Vats' Links u p hs ≡ unsettled script honest Vats Kept u p gs) ⊎ IsIt u p

  -- the gifts are those that were, or the one was opened
  abbrev Opened : List (GiftEntry Name) → List (GiftEntry Name) → Type 0
  Opened gs hs = (m : Name) → same_name (Gift b i) m ≡ false → opened_there m hs ≡ opened_there m gs

  unsettled_alike : (u : ℕ) (p : Name) (gs hs : List (GiftEntry Name)) → Opened gs hs → Alike u p gs hs
  unfolding unsettled
  unsettled_alike u (Gift h j) gs hs f = go (same_name (Gift b i) (Gift h j)) (h == u) refl refl
    where
      go : (c d : Bool) → same_name (Gift b i) (Gift h j) ≡ c → (h == u) ≡ d → Alike u (Gift h j) gs hs
      go false d e q = inl (unsettled_other Vats Vats' u h j gs hs e (f (Gift h j) e))
      go true false e q = inl (unsettled_away Vats' Links Links u h j hs gs q ∙ unsettled_away Vats Links Kept u h j gs gs q)
      go true true e q = inr (is_it u h j e q)
  unsettled_alike u other gs hs f = inl refl

  released_alike : (u : ℕ) (p : Name) (gs hs : List (GiftEntry Name)) (q : Standing Name) → Opened gs hs → (released script honest Vats' Links u p hs q ≡ released script honest Vats Kept u p gs q) ⊎ IsIt u p
  unfolding released
  released_alike u p gs hs Unsettled f = unsettled_alike u p gs hs f
  released_alike u p gs hs (WaitsOn z) f = inl (leads_same Links Kept u (Ref z))
  released_alike u p gs hs (Viewed z) f = inl (leads_same Links Kept u (Ref z))
  released_alike u p gs hs (Settled y) f = inl (leads_same Links Kept u y)

  released_vat : (u : ℕ) (p : Name) (o : Option (Vat Name)) → (released_at script honest Vats' Links u p o ≡ released_at script honest Vats Kept u p o) ⊎ IsIt u p
  unfolding released_at
  released_vat u p (Some x) = released_alike u p x.gifts x.gifts (refs.standing_of (names script u) x.known p) (λ m e. refl)
  released_vat u p None = inl refl

  released_here : (u : ℕ) (p : Name) → (released_at script honest Vats' Links u p (Some Gone) ≡ released_at script honest Vats Kept u p (Some s)) ⊎ IsIt u p
  unfolding released_at
  released_here u p = released_alike u p s.gifts (with_opened a i s.gifts) (refs.standing_of (names script u) s.known p) (λ m e. opened_other a i (Gift b i) m s.gifts shut.entry shut.found shut.name e)

  released_by : (u : ℕ) (p : Name) → Put b s Gone w.vats u → (released_at script honest Vats' Links u p (slice_get Vats' u) ≡ released_at script honest Vats Kept u p (slice_get Vats u)) ⊎ IsIt u p
  released_by u p (inl h) = subst (λ o. (released_at script honest Vats' Links u p o ≡ released_at script honest Vats Kept u p (slice_get Vats u)) ⊎ IsIt u p) (sym h.2) (subst (λ o. (released_at script honest Vats' Links u p (Some Gone) ≡ released_at script honest Vats Kept u p o) ⊎ IsIt u p) (sym h.1) (released_here u p))
  released_by u p (inr h) = subst (λ o. (released_at script honest Vats' Links u p o ≡ released_at script honest Vats Kept u p (slice_get Vats u)) ⊎ IsIt u p) (sym h) (released_vat u p (slice_get Vats u))

  at_lane : (u : ℕ) (p : Name) → IsIt u p → Held u p ≡ Held b (Gift b i)
  at_lane u p h = ap (λ z. Held z p) h.0 ∙ ap (λ z. Held b z) h.1

  way_alike : (x y : ℕ) (o : Name) → onward_at script honest Vats' Links (Way x y) o ≡ onward_at script honest Vats Kept (Way x y) o
  unfolding onward_at
  way_alike x y o = way_same y o (world.link_at x y Links) ∙ links_still Same Other (λ c. refl) script honest Vats Kept Links all_other x y o

  onward_alike : (l : Lane) (o : Name) → (onward_at script honest Vats' Links l o ≡ onward_at script honest Vats Kept l o) ⊎ (l ≡ Held b (Gift b i))
  unfolding onward_at
  onward_alike (Queue u) o = inl refl
  onward_alike (Way x y) o = inl (way_alike x y o)
  onward_alike (Held u p) o = go (released_by u p (either u))
    where
      go : (released_at script honest Vats' Links u p (slice_get Vats' u) ≡ released_at script honest Vats Kept u p (slice_get Vats u)) ⊎ IsIt u p
          → (released_at script honest Vats' Links u p (slice_get Vats' u) ≡ released_at script honest Vats Kept u p (slice_get Vats u)) ⊎ (Held u p ≡ Held b (Gift b i))
      go (inl e) = inl e
      go (inr e) = inr (at_lane u p e)

  -- ---- the turn

  module _ (only : gift_place script honest b i Kept ≡ Mid (Way a b) [] n) where
    kept_open : IsOpen a b Kept
    kept_open = front_open a b Note' Links (all_open a b b s.outbox w.links (way.link, way.found, way.uncut))

    kept_over : onward_at script honest Vats Kept (Way a b) n ≡ leads_in script honest b s (Ref n)
    unfolding leads leads_at
    kept_over = onward_some script honest w a b r s (record { message = n; asks = true; answer = None }) n [] NoMore at way Vats Kept n kept_open.0 kept_open.1 kept_open.2 ∙ kept_leads
      where
        kept_leads : leads script honest Vats Kept b (Ref n) ≡ leads_in script honest b s (Ref n)
        kept_leads = ap (λ o. leads_at script honest b o (Ref n)) (get_put w.vats b r s at)

    shut_gift : unsettled script honest Vats Kept b (Gift b i) s.gifts ≡ gift_place script honest b i Kept
    unfolding unsettled
    shut_gift =
        ap (λ c. elim (c && not (opened_there (Gift b i) s.gifts)) [ true ↦ gift_place script honest b i Kept | false ↦ Free ]) (same_number b)
        ∙ ap (λ c. elim (not c) [ true ↦ gift_place script honest b i Kept | false ↦ Free ]) shut.unopened

    held_here : released_at script honest Vats Kept b (Gift b i) (Some s) ≡ Mid (Way a b) [] n
    unfolding released_at released
    held_here = ap (λ q. released script honest Vats Kept b (Gift b i) s.gifts q) shut.waits ∙ shut_gift ∙ only

    held_mid : (o : Name) → onward_at script honest Vats Kept (Held b (Gift b i)) o ≡ Mid (Way a b) [] n
    unfolding onward_at
    held_mid o = ap (λ q. released_at script honest Vats Kept b (Gift b i) q) (get_put w.vats b r s at) ∙ held_here

    module _ (u : Ways) (led : IsLedTo (ways_of script honest Vats' Links) u b (Gift b i) (leads_in script honest b s (Ref n))) where
      abbrev Was : Ways
      Was = ways_of script honest Vats Kept

      turned_there : (o : Name) → Reroutes Was u (Was.onward (Held b (Gift b i)) o) (u.onward (Held b (Gift b i)) o)
      unfolding ways_of
      turned_there o = subst (λ c. Reroutes Was u c (u.onward (Held b (Gift b i)) o)) (sym (held_mid o)) (gone_on (subst (λ c. Reroutes Was u c (u.onward (Held b (Gift b i)) o)) (sym (kept_over ∙ sym (led.there o))) stays_so))

      turned_by : (l : Lane) (o : Name) → (u.onward l o ≡ onward_at script honest Vats' Links l o) ⊎ (l ≡ Held b (Gift b i)) → (onward_at script honest Vats' Links l o ≡ onward_at script honest Vats Kept l o) ⊎ (l ≡ Held b (Gift b i)) → (u.onward l o ≡ Was.onward l o) ⊎ (l ≡ Held b (Gift b i))
      unfolding ways_of
      turned_by l o (inl e) (inl f) = inl (e ∙ f)
      turned_by l o (inr e) f = inr e
      turned_by l o (inl e) (inr f) = inr f

      turned_at : (l : Lane) (o : Name) → (u.onward l o ≡ Was.onward l o) ⊎ (l ≡ Held b (Gift b i))
      unfolding ways_of
      turned_at l o = turned_by l o (led.others l o) (onward_alike l o)

      turned_lane : (l : Lane) (o : Name) → (u.onward l o ≡ Was.onward l o) ⊎ (l ≡ Held b (Gift b i)) → Reroutes Was u (Was.onward l o) (u.onward l o)
      turned_lane l o (inl e) = subst (λ c. Reroutes Was u (Was.onward l o) c) (sym e) stays_so
      turned_lane l o (inr e) = subst (λ k. Reroutes Was u (Was.onward k o) (u.onward k o)) (sym e) (turned_there o)

      turned_link : (x y : ℕ) (o : Name) → (u.onward (Way x y) o ≡ Was.onward (Way x y) o) ⊎ (Way x y ≡ Held b (Gift b i)) → u.onward (Way x y) o ≡ Was.onward (Way x y) o
      turned_link x y o (inl e) = e
      turned_link x y o (inr e) = absurd (subst IsWay e tt)

      opened_turned : IsTurned Was u
      unfolding ways_of
      opened_turned = record {
        stands = λ l j k. led.stands l j (stands_then l j (stands_leaves script honest Vats a b Note' Links l j k));
        links = λ x y o. turned_link x y o (turned_at (Way x y) o);
        lanes = λ l o h. turned_lane l o (turned_at l o);
      }

pub opened_gifts_turn : OpenedGiftsTurn
unfolding ways amid keeping
opened_gifts_turn = λ script honest w a b r s i n at way shut only u led.
    let put = all_put_on a b b (Open i n) s.outbox w.links in
    subst (λ ls. IsTurned (ways_of script honest (world.put_at b s w.vats) ls) u) (sym put)
    (opened_turned script honest w a b r s i n at way shut (subst (λ ls. gift_place script honest b i ls ≡ Mid (Way a b) [] n) put only) u led)
