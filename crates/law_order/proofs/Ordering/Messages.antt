-- The place of a message is where it is found, and what comes to a lane is behind what stood there.
use Rattle.std.proofs.Common.{◌≡◌, ℕ, zero, suc, ◌+◌, Bool, true, false, List, [], ◌∷◌, ◌++◌, Option, Some, None, refl, sym, ap, subst, ◌∙◌, ◌⊎◌, inl, inr}
use Rattle.std.specs.Prelude.{slice_get}
use Rattle.std.proofs.lemmas.List.{append_assoc}
use Rattle.std.proofs.Math.Nat.{add-zero, add-suc, suc-add, zero-add}
use Rattle.def_machine.specs.Values.{Name, naming, same_name}
use Rattle.def_machine.specs.State.{Known, Vat}
use Rattle.def_machine.specs.Refs as refs
use Rattle.def_run.specs.World.{Script, Link, World, names}
use Rattle.def_run.specs.World as world
use Rattle.law_order.specs.Ordering.Ways.{Lane, Queue, Held, Way, Item, Place, End, Mid, Ways, IsIn, by_end, by_mid, Ahead, Doom, doomed_there, in_end, in_mid, past_end, past_mid}
use Rattle.law_order.specs.Ordering.Changes.{Beheads, stays, nearer, Lacks, GoesOn, GoesOneWay}
use Rattle.law_order.specs.Ordering.Turns.{Within}
use Rattle.law_order.specs.Ordering.Places.{item, first_place, queued, held_in, delivered, is_honest, stands_at, ways_of, ways}
use Rattle.law_order.specs.Ordering.Messages.{StandsAt, IsPlace, stands_there, stands_not, StandsOnce, found_behind, found_in, held_lanes, vat_lanes, link_lanes, lanes_of, or_nowhere, place_of, StaysBehind, PlacesAreFound, PlacesAreOne, ComersAreBehind, GoneOnIsBehind, LostIsNowhere}
use Rattle.law_order.proofs.Ordering.Named.{same_is, same_self, false_true}
use Rattle.law_order.proofs.Ordering.Entries.{reference_is}
use Rattle.law_order.proofs.Ordering.Sends.{none_some, some_same, ends_of}
use Rattle.law_order.proofs.Ordering.Changes.{growing_keeps, going_on_keeps, losing_keeps}

-- ---- in one lane

module _ (w : Ways) (m : Name) where
  abbrev Found : Option Place → Type 0
  Found o = (c : Place) → o ≡ Some c → IsPlace w m c

  abbrev Missing : Option Place → Type 0
  Missing o = o ≡ None

  behind_is : (l : Lane) (b js : List Item) → w.stands l ≡ b ++ js → Found (found_behind l b js m)
  unfolding found_behind
  behind_is l b [] e = λ c q. none_some c q
  behind_is l b (i ∷ js) e = go (behind_is l (b ++ i ∷ []) js (e ∙ sym (append_assoc b (i ∷ []) js))) (same_name i.mail m) refl
    where
      go : Found (found_behind l (b ++ i ∷ []) js m) → (t : Bool) → same_name i.mail m ≡ t → Found (elim t [ true ↦ Some (Mid l b i.aim) | false ↦ found_behind l (b ++ i ∷ []) js m ])
      go f true h c q = subst (IsPlace w m) (some_same (Mid l b i.aim) c q) (stands_there (record { behind = js; found = e ∙ ap (λ z. b ++ item z i.aim ∷ js) (same_is i.mail m h) }))
      go f false h c q = f c q

  -- where it is not found it is not
  behind_none : (l : Lane) (b js : List Item) → found_behind l b js m ≡ None → Lacks m js
  unfolding found_behind
  behind_none l b [] e = λ n h. h
  behind_none l b (i ∷ js) e = go (λ q. behind_none l (b ++ i ∷ []) js q) (same_name i.mail m) refl e
    where
      go : (Missing (found_behind l (b ++ i ∷ []) js m) → Lacks m js) → (t : Bool) → same_name i.mail m ≡ t → Missing (elim t [ true ↦ Some (Mid l b i.aim) | false ↦ found_behind l (b ++ i ∷ []) js m ]) → Lacks m (i ∷ js)
      go f true h q n j = none_some (Mid l b i.aim) (sym q)
      go f false h q n (inl j) = false_true (sym h ∙ ap (λ z. same_name z.mail m) (sym j) ∙ same_self m)
      go f false h q n (inr j) = f q n j

  first_is : (o p : Option Place) → Found o → Found p → Found (first_place o p)
  unfolding first_place
  first_is (Some d) p f g c q = f c q
  first_is None p f g c q = g c q

  first_none : (o p : Option Place) → first_place o p ≡ None → (o ≡ None) × (p ≡ None)
  unfolding first_place
  first_none (Some d) p q = none_some d (sym q)
  first_none None p q = (refl, q)

  in_is : (ls : List Lane) → Found (found_in w ls m)
  unfolding found_in
  in_is [] = λ c q. none_some c q
  in_is (l ∷ ls) = first_is (found_behind l [] (w.stands l) m) (found_in w ls m) (behind_is l [] (w.stands l) refl) (in_is ls)

abbrev Among : Lane → List Lane → Type 0
Among l [] = ⊥
Among l (k ∷ ks) = (l ≡ k) ⊎ Among l ks

in_none : (w : Ways) (m : Name) (ls : List Lane) → found_in w ls m ≡ None → (l : Lane) → Among l ls → Lacks m (w.stands l)
unfolding found_in
in_none w m [] q l i = absurd i
in_none w m (k ∷ ls) q l (inl i) = let h = first_none w m (found_behind k [] (w.stands k) m) (found_in w ls m) q in subst (λ z. Lacks m (w.stands z)) (sym i) (behind_none w m k [] (w.stands k) h.0)
in_none w m (k ∷ ls) q l (inr i) = let h = first_none w m (found_behind k [] (w.stands k) m) (found_in w ls m) q in in_none w m ls h.1 l i

-- ---- the lanes of a world

among_left : (l : Lane) (ks ls : List Lane) → Among l ks → Among l (ks ++ ls)
among_left l [] ls i = absurd i
among_left l (k ∷ ks) ls (inl i) = inl i
among_left l (k ∷ ks) ls (inr i) = inr (among_left l ks ls i)

among_right : (l : Lane) (ks ls : List Lane) → Among l ls → Among l (ks ++ ls)
among_right l [] ls i = i
among_right l (k ∷ ks) ls i = inr (among_right l ks ls i)

queue_among : (i u v : ℕ) (ss : List (Vat Name)) (s : Vat Name) → i ≡ u + v → slice_get ss v ≡ Some s → Among (Queue i) (vat_lanes u ss)
unfolding vat_lanes
queue_among i u v [] s e q = none_some s q
queue_among i u zero (r ∷ ss) s e q = inl (ap Queue (e ∙ add-zero u))
queue_among i u (suc v) (r ∷ ss) s e q = inr (among_right (Queue i) (held_lanes u r.known) (vat_lanes (suc u) ss) (queue_among i (suc u) v ss s (e ∙ add-suc u v ∙ sym (suc-add u v)) q))

module _ (script : Script) where
  entry_among : (a u : ℕ) (ks : List (Known Name)) (n : Name) (k : Known Name) → refs.entry_of (names script a) ks n ≡ Some k → Among (Held u n) (held_lanes u ks)
  unfolding refs.entry_of held_lanes names naming
  entry_among a u [] n k q = none_some k q
  entry_among a u (j ∷ ks) n k q = go (λ h. entry_among a u ks n k h) ((names script a).same j.name n) refl q
    where
      go : (refs.entry_of (names script a) ks n ≡ Some k → Among (Held u n) (held_lanes u ks)) → (t : Bool) → (names script a).same j.name n ≡ t → elim t [ true ↦ Some j | false ↦ refs.entry_of (names script a) ks n ] ≡ Some k → (Held u n ≡ Held u j.name) ⊎ Among (Held u n) (held_lanes u ks)
      go f true h r = inl (ap (λ z. Held u z) (sym (reference_is j.name n h)))
      go f false h r = inr (f r)

  held_among : (a i u v : ℕ) (ss : List (Vat Name)) (s : Vat Name) (n : Name) (k : Known Name) → i ≡ u + v → slice_get ss v ≡ Some s → refs.entry_of (names script a) s.known n ≡ Some k → Among (Held i n) (vat_lanes u ss)
  unfolding vat_lanes
  held_among a i u v [] s n k e q h = none_some s q
  held_among a i u zero (r ∷ ss) s n k e q h = inr (among_left (Held i n) (held_lanes u r.known) (vat_lanes (suc u) ss)
      (subst (λ z. Among (Held z n) (held_lanes u r.known)) (sym (e ∙ add-zero u)) (entry_among a u r.known n k (ap (λ z. refs.entry_of (names script a) z.known n) (some_same r s q) ∙ h))))
  held_among a i u (suc v) (r ∷ ss) s n k e q h = inr (among_right (Held i n) (held_lanes u r.known) (vat_lanes (suc u) ss) (held_among a i (suc u) v ss s n k (e ∙ add-suc u v ∙ sym (suc-add u v)) q h))

link_among : (a b : ℕ) (ls : List Link) (l : Link) → world.link_at a b ls ≡ Some l → Among (Way a b) (link_lanes ls)
unfolding world.link_at link_lanes
link_among a b [] l q = none_some l q
link_among a b (k ∷ ls) l q = go (λ h. link_among a b ls l h) (world.is_link a b k) refl q
  where
    go : (world.link_at a b ls ≡ Some l → Among (Way a b) (link_lanes ls)) → (t : Bool) → world.is_link a b k ≡ t → elim t [ true ↦ Some k | false ↦ world.link_at a b ls ] ≡ Some l → (Way a b ≡ Way k.from k.to) ⊎ Among (Way a b) (link_lanes ls)
    go f true h r = let e = ends_of a b k h in inl (ap (λ x. Way x b) (sym e.0) ∙ ap (λ y. Way k.from y) (sym e.1))
    go f false h r = inr (f r)

lacks_nothing : (m : Name) (js : List Item) → js ≡ [] → Lacks m js
lacks_nothing m js e = subst (Lacks m) (sym e) (λ n h. h)

module _ (script : Script) (honest : ℕ → Bool) (w : World) (m : Name) (none : found_in (ways script honest w) (lanes_of w) m ≡ None) where
  abbrev W : Ways
  W = ways script honest w

  lacks_among : (l : Lane) → Among l (lanes_of w) → Lacks m (W.stands l)
  lacks_among l i = in_none W m (lanes_of w) none l i

  in_vats : (l : Lane) → Among l (vat_lanes zero w.vats) → Lacks m (W.stands l)
  unfolding lanes_of
  in_vats l i = lacks_among l (among_left l (vat_lanes zero w.vats) (link_lanes w.links) i)

  in_links : (l : Lane) → Among l (link_lanes w.links) → Lacks m (W.stands l)
  unfolding lanes_of
  in_links l i = lacks_among l (among_right l (vat_lanes zero w.vats) (link_lanes w.links) i)

  lacks_queue : (v : ℕ) (o : Option (Vat Name)) → slice_get w.vats v ≡ o → Lacks m (W.stands (Queue v))
  unfolding ways ways_of stands_at
  lacks_queue v (Some s) e = in_vats (Queue v) (queue_among v zero v w.vats s (sym (zero-add v)) e)
  lacks_queue v None e = lacks_nothing m (stands_at script honest w.vats w.links (Queue v)) (ap (λ o. elim o [ Some s ↦ queued s.queue | None ↦ [] ]) e)

  lacks_entry : (v : ℕ) (n : Name) (s : Vat Name) (o : Option (Known Name)) → slice_get w.vats v ≡ Some s → refs.entry_of (names script v) s.known n ≡ o → Lacks m (W.stands (Held v n))
  unfolding ways ways_of stands_at held_in
  lacks_entry v n s (Some k) e h = in_vats (Held v n) (held_among script v v zero v w.vats s n k (sym (zero-add v)) e h)
  lacks_entry v n s None e h = lacks_nothing m (stands_at script honest w.vats w.links (Held v n))
      (ap (λ o. elim o [ Some r ↦ held_in n (refs.entry_of (names script v) r.known n) | None ↦ [] ]) e ∙ ap (λ o. held_in n o) h)

  lacks_held : (v : ℕ) (n : Name) (o : Option (Vat Name)) → slice_get w.vats v ≡ o → Lacks m (W.stands (Held v n))
  unfolding ways ways_of stands_at
  lacks_held v n (Some s) e = lacks_entry v n s (refs.entry_of (names script v) s.known n) e refl
  lacks_held v n None e = lacks_nothing m (stands_at script honest w.vats w.links (Held v n)) (ap (λ o. elim o [ Some r ↦ held_in n (refs.entry_of (names script v) r.known n) | None ↦ [] ]) e)

  lacks_link : (a b : ℕ) (o : Option Link) → world.link_at a b w.links ≡ o → Lacks m (W.stands (Way a b))
  unfolding ways ways_of stands_at
  lacks_link a b (Some l) e = in_links (Way a b) (link_among a b w.links l e)
  lacks_link a b None e = lacks_nothing m (stands_at script honest w.vats w.links (Way a b)) (ap (λ o. elim o [ Some l ↦ elim (is_honest script honest l) [ true ↦ delivered l.notes | false ↦ [] ] | None ↦ [] ]) e)

  lacks_all : (l : Lane) → Lacks m (W.stands l)
  lacks_all (Queue v) = lacks_queue v (slice_get w.vats v) refl
  lacks_all (Held v n) = lacks_held v n (slice_get w.vats v) refl
  lacks_all (Way a b) = lacks_link a b (world.link_at a b w.links) refl

place_found : (script : Script) (honest : ℕ → Bool) (w : World) (m : Name) (o : Option Place) → found_in (ways script honest w) (lanes_of w) m ≡ o → IsPlace (ways script honest w) m (or_nowhere o)
unfolding or_nowhere
place_found script honest w m (Some c) e = in_is (ways script honest w) m (lanes_of w) c e
place_found script honest w m None e = stands_not (lacks_all script honest w m e)

pub places_are_found : PlacesAreFound
unfolding place_of
places_are_found = λ script honest w m. place_found script honest w m (found_in (ways script honest w) (lanes_of w) m) refl

-- ---- there is one

stands_in : (b : List Item) (i : Item) (js : List Item) → IsIn i (b ++ i ∷ js)
stands_in [] i js = inl refl
stands_in (j ∷ b) i js = inr (stands_in b i js)

pub stands_here : (w : Ways) (m : Name) (l : Lane) (b : List Item) (n : Name) → StandsAt w m l b n → IsIn (item m n) (w.stands l)
stands_here w m l b n h = subst (IsIn (item m n)) (sym h.found) (stands_in b (item m n) h.behind)

one_place : (w : Ways) (m : Name) (c d : Place) → StandsOnce w m → IsPlace w m c → IsPlace w m d → d ≡ c
one_place w m c d once (stands_there {l = l} {b = b} {n = n} h) (stands_there {l = k} {b = a} {n = o} i) = once l k b a n o h i
one_place w m c d once (stands_there {l = l} {b = b} {n = n} h) (stands_not f) = absurd (f l n (stands_here w m l b n h))
one_place w m c d once (stands_not f) (stands_there {l = l} {b = b} {n = n} h) = absurd (f l n (stands_here w m l b n h))
one_place w m c d once (stands_not f) (stands_not g) = refl

pub places_are_one : PlacesAreOne
places_are_one = λ w m c d once h i. one_place w m c d once h i

-- ---- what comes to a lane

doom_comes : (w : Ways) (l : Lane) (b : List Item) (n : Name) → Doom w (End l n) → Doom w (Mid l b n)
doom_comes w l b n (by_end h) = by_mid h

ahead_comes : (w : Ways) (l : Lane) (b : List Item) (n x : Name) → Within (w.stands l) b → Ahead w x (End l n) → Ahead w x (Mid l b n)
ahead_comes w l b n x f (doomed_there h) = doomed_there (doom_comes w l b n h)
ahead_comes w l b n x f (in_end {m = m} i g) = in_mid (f (record { mail = x; aim = m }) i) g
ahead_comes w l b n x f (past_end h) = past_mid h

-- what is behind the end of a lane is behind all that stands there
pub comes_behind : (w : Ways) (l : Lane) (b : List Item) (n : Name) → Within (w.stands l) b → StaysBehind w w (End l n) (Mid l b n)
comes_behind w l b n f = (λ h. doom_comes w l b n h, λ x h. ahead_comes w l b n x f h)

pub behind_then : (w u z : Ways) (c d e : Place) → StaysBehind w u c d → StaysBehind u z d e → StaysBehind w z c e
behind_then w u z c d e f g = (λ h. g.0 (f.0 h), λ x h. g.1 x (f.1 x h))

pub comers_are_behind : ComersAreBehind
comers_are_behind = λ w u l n g. behind_then w w u (End l n) (Mid l (w.stands l) n) (Mid l (w.stands l) n) (comes_behind w l (w.stands l) n (λ i h. h)) (growing_keeps w u g (Mid l (w.stands l) n))

module _ (w u : Ways) (l k : Lane) (i : Item) (n : Name) (g : GoesOn w u l i k n) where
  doom_first : (c : Place) → w.onward l i.aim ≡ c → Doom w (Mid l [] i.aim) → Doom w c
  doom_first c e (by_mid h) = subst (Doom w) e h

  ahead_first : (c : Place) → w.onward l i.aim ≡ c → (x : Name) → Ahead w x (Mid l [] i.aim) → Ahead w x c
  ahead_first c e x (doomed_there h) = doomed_there (doom_first c e h)
  ahead_first c e x (in_mid h j) = absurd h
  ahead_first c e x (past_mid h) = subst (Ahead w x) e h

  abbrev IsEnd : Place → Type 0
  IsEnd (End a m) = Unit {0}
  IsEnd (Mid a b m) = ⊥
  IsEnd _ = ⊥

  -- it led there before
  led_there : (c d : Place) → Beheads l i c d → IsEnd d → c ≡ d
  led_there c d stays h = refl
  led_there c d nearer h = absurd h

  first_led : w.onward l i.aim ≡ End k n
  first_led = led_there (w.onward l i.aim) (u.onward l i.aim) (g.lanes l i.aim) (subst IsEnd (sym g.leads) tt) ∙ g.leads

  pub first_behind : StaysBehind w w (Mid l [] i.aim) (End k n)
  first_behind = (λ h. doom_first (End k n) first_led h, λ x h. ahead_first (End k n) first_led x h)

  end_behind : GoesOneWay u l → StaysBehind w u (End k n) (Mid k (w.stands k) n)
  end_behind one = behind_then w w u (End k n) (Mid k (w.stands k) n) (Mid k (w.stands k) n) (comes_behind w k (w.stands k) n (λ j h. h)) (going_on_keeps w u l k i n g one (Mid k (w.stands k) n) (Mid k (w.stands k) n) stays)

pub gone_on_is_behind : GoneOnIsBehind
gone_on_is_behind = λ w u l k i n g one. let e = end_behind w u l k i n g one in (behind_then w w u (Mid l [] i.aim) (End k n) (Mid k (w.stands k) n) (first_behind w u l k i n g) e, e)

pub lost_is_nowhere : LostIsNowhere
lost_is_nowhere = λ w u l i g one. (stands_not g.only, λ c d r h. (losing_keeps w u l i g one c d r).2 h)
