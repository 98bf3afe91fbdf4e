-- In the middle of a step, what only adds makes the ways grow.
use Rattle.std.proofs.Common.{◌≡◌, ℕ, zero, suc, Bool, true, false, List, [], ◌∷◌, Option, Some, None, refl, sym, ap, subst, ◌∙◌, ◌⊎◌, inl, inr}
use Rattle.std.specs.Prelude.{slice_get, not, ◌==◌, ◌&&◌}
use Rattle.def_machine.specs.Values.{Value, Ref, Name, Gift}
use Rattle.def_machine.specs.State.{Standing, Unsettled, WaitsOn, Viewed, Settled, Known, Message, Vat, GiftEntry}
use Rattle.def_machine.specs.Refs as refs
use Rattle.def_run.specs.World.{Script, Link, World, names}
use Rattle.def_run.specs.World as world
use Rattle.law_order.specs.Ordering.Ways.{Lane, Queue, Held, Way, Item, Place, Nowhere, Free, IsIn}
use Rattle.law_order.specs.Ordering.Changes.{Grows, IsTaken}
use Rattle.law_order.specs.Ordering.Turns.{Within}
use Rattle.law_order.specs.Ordering.Places.{queued, held_in, delivered, opened_there, is_honest, leads_in, leads_at, leads, unsettled, released, released_at, stands_at, over, onward_at, ways_of, ways, amid}
use Rattle.law_order.specs.Ordering.Worlds.{StandsAlike, RefersAlike, AddsOnly, SameWays, AddingGrows, BeginningChangesNoWay, FirstIsTaken}
use Rattle.law_order.proofs.Ordering.Adding.{RefersSame, refers_same}
use Rattle.law_order.specs.Ordering.Growing.{LinkGrows, AllGrow}
use Rattle.law_order.proofs.Ordering.Pushing.{all_same, push_grows, push_append, gift_more, within_more}
use Rattle.law_order.proofs.Ordering.Sends.{some_same}

-- ---- links that are found

abbrev LinkAlike : Option Link → Option Link → Type 0
LinkAlike None None = Unit {0}
LinkAlike (Some l) (Some k) = LinkGrows l k
LinkAlike other another = ⊥

ends_alike : (a b : ℕ) (l k : Link) → LinkGrows l k → world.is_link a b k ≡ world.is_link a b l
unfolding world.is_link
ends_alike a b l k g = ap (λ x. elim (x == a) [ true ↦ k.to == b | false ↦ false ]) g.from ∙ ap (λ x. elim (l.from == a) [ true ↦ x == b | false ↦ false ]) g.to

link_alike : (a b : ℕ) (ls ks : List Link) → AllGrow ls ks → LinkAlike (world.link_at a b ls) (world.link_at a b ks)
unfolding world.link_at
link_alike a b [] [] g = tt
link_alike a b (l ∷ ls) (k ∷ ks) g = subst (λ c. LinkAlike (elim (world.is_link a b l) [ true ↦ Some l | false ↦ world.link_at a b ls ]) (elim c [ true ↦ Some k | false ↦ world.link_at a b ks ])) (sym (ends_alike a b l k g.0)) (go (link_alike a b ls ks g.1) (world.is_link a b l))
  where
    go : LinkAlike (world.link_at a b ls) (world.link_at a b ks) → (c : Bool) → LinkAlike (elim c [ true ↦ Some l | false ↦ world.link_at a b ls ]) (elim c [ true ↦ Some k | false ↦ world.link_at a b ks ])
    go f true = g.0
    go f false = f
link_alike a b other another g = absurd g

-- ---- vats that are found

abbrev pub Put : ℕ → Vat Name → Vat Name → List (Vat Name) → ℕ → Type 0
Put v s t ss u = ((u ≡ v) × (slice_get (world.put_at v s ss) u ≡ Some s) × (slice_get (world.put_at v t ss) u ≡ Some t)) ⊎ (slice_get (world.put_at v t ss) u ≡ slice_get (world.put_at v s ss) u)

put_more : (v : ℕ) (s t : Vat Name) (r : Vat Name) (ss : List (Vat Name)) (u : ℕ) → Put v s t ss u → Put (suc v) s t (r ∷ ss) (suc u)
unfolding world.put_at
put_more v s t r ss u (inl h) = inl (ap suc h.0, h.1, h.2)
put_more v s t r ss u (inr h) = inr h

pub put_either : (v : ℕ) (s t : Vat Name) (ss : List (Vat Name)) (u : ℕ) → Put v s t ss u
unfolding world.put_at
put_either zero s t (r ∷ ss) zero = inl (refl, refl, refl)
put_either (suc v) s t (r ∷ ss) (suc u) = put_more v s t r ss u (put_either v s t ss u)
put_either other s t another further = inr refl

abbrev QueueOf : Option (Vat Name) → List Item
QueueOf o = elim o [ Some r ↦ queued r.queue | None ↦ [] ]

-- ---- the ways

module _ (script : Script) (honest : ℕ → Bool) (vs : List (Vat Name)) (Links Links' : List Link) (grow : AllGrow Links Links') (v : ℕ) (s t : Vat Name) (g : RefersSame script honest v s t) where
  abbrev Vats : List (Vat Name)
  Vats = world.put_at v s vs

  abbrev Vats' : List (Vat Name)
  Vats' = world.put_at v t vs

  at_vat : (u : ℕ) → Put v s t vs u
  at_vat u = put_either v s t vs u

  leads_by : (u : ℕ) (x : Value Name) → Put v s t vs u → leads_at script honest u (slice_get Vats' u) x ≡ leads_at script honest u (slice_get Vats u) x
  unfolding leads_at
  leads_by u x (inl h) = ap (λ o. leads_at script honest u o x) h.2 ∙ subst (λ z. leads_in script honest z t x ≡ leads_in script honest z s x) (sym h.0) (g.leading x) ∙ ap (λ o. leads_at script honest u o x) (sym h.1)
  leads_by u x (inr h) = ap (λ o. leads_at script honest u o x) h

  pub leads_same : (u : ℕ) (x : Value Name) → leads script honest Vats' Links' u x ≡ leads script honest Vats Links u x
  unfolding leads
  leads_same u x = leads_by u x (at_vat u)

  unsettled_same : (u : ℕ) (p : Name) (gs : List (GiftEntry Name)) → unsettled script honest Vats' Links' u p gs ≡ unsettled script honest Vats Links u p gs
  unfolding unsettled
  unsettled_same u (Gift h i) gs = ap (λ c. elim ((h == u) && not (opened_there (Gift h i) gs)) [ true ↦ c | false ↦ Free ]) (gift_more script honest h i Links Links' grow)
  unsettled_same u other gs = refl

  released_same : (u : ℕ) (p : Name) (gs : List (GiftEntry Name)) (q : Standing Name) → released script honest Vats' Links' u p gs q ≡ released script honest Vats Links u p gs q
  unfolding released
  released_same u p gs Unsettled = unsettled_same u p gs
  released_same u p gs (WaitsOn z) = leads_same u (Ref z)
  released_same u p gs (Viewed z) = leads_same u (Ref z)
  released_same u p gs (Settled y) = leads_same u y

  released_vat : (u : ℕ) (p : Name) (o : Option (Vat Name)) → released_at script honest Vats' Links' u p o ≡ released_at script honest Vats Links u p o
  unfolding released_at
  released_vat u p (Some r) = released_same u p r.gifts (refs.standing_of (names script u) r.known p)
  released_vat u p None = refl

  released_mine : (p : Name) → released_at script honest Vats Links v p (Some t) ≡ released_at script honest Vats Links v p (Some s)
  unfolding released_at
  released_mine p = ap (λ gs. released script honest Vats Links v p gs (refs.standing_of (names script v) t.known p)) g.gifts ∙ ap (λ q. released script honest Vats Links v p s.gifts q) (g.standing p)

  released_by : (u : ℕ) (p : Name) → Put v s t vs u → released_at script honest Vats' Links' u p (slice_get Vats' u) ≡ released_at script honest Vats Links u p (slice_get Vats u)
  released_by u p (inl h) =
      released_vat u p (slice_get Vats' u)
      ∙ ap (λ o. released_at script honest Vats Links u p o) h.2
      ∙ subst (λ z. released_at script honest Vats Links z p (Some t) ≡ released_at script honest Vats Links z p (Some s)) (sym h.0) (released_mine p)
      ∙ ap (λ o. released_at script honest Vats Links u p o) (sym h.1)
  released_by u p (inr h) = released_vat u p (slice_get Vats' u) ∙ ap (λ o. released_at script honest Vats Links u p o) h

  over_same : (b : ℕ) (n : Name) (l k : Link) → LinkGrows l k → over script honest Vats' Links' b n k ≡ over script honest Vats Links b n l
  unfolding over is_honest
  over_same b n l k h =
      ap (λ c. elim (honest c && honest k.to) [ true ↦ elim k.cut [ true ↦ Nowhere | false ↦ leads script honest Vats' Links' b (Ref n) ] | false ↦ Free ]) h.from
      ∙ ap (λ c. elim (honest l.from && honest c) [ true ↦ elim k.cut [ true ↦ Nowhere | false ↦ leads script honest Vats' Links' b (Ref n) ] | false ↦ Free ]) h.to
      ∙ ap (λ c. elim (honest l.from && honest l.to) [ true ↦ elim c [ true ↦ Nowhere | false ↦ leads script honest Vats' Links' b (Ref n) ] | false ↦ Free ]) h.cut
      ∙ ap (λ c. elim (honest l.from && honest l.to) [ true ↦ elim l.cut [ true ↦ Nowhere | false ↦ c ] | false ↦ Free ]) (leads_same b (Ref n))

  abbrev OverOf : List (Vat Name) → List Link → ℕ → Name → Option Link → Place
  OverOf vs ls b n o = elim o [ Some k ↦ over script honest vs ls b n k | None ↦ Nowhere ]

  way_same : (b : ℕ) (n : Name) (o p : Option Link) → LinkAlike o p → OverOf Vats' Links' b n p ≡ OverOf Vats Links b n o
  way_same b n None None h = refl
  way_same b n (Some l) (Some k) h = over_same b n l k h
  way_same b n other another h = absurd h

  pub onward_same : (l : Lane) (n : Name) → onward_at script honest Vats' Links' l n ≡ onward_at script honest Vats Links l n
  unfolding onward_at
  onward_same (Queue u) n = refl
  onward_same (Held u p) n = released_by u p (at_vat u)
  onward_same (Way a b) n = way_same b n (world.link_at a b Links) (world.link_at a b Links') (link_alike a b Links Links' grow)

  abbrev HeldOf : ℕ → Name → Option (Vat Name) → List Item
  HeldOf u n o = elim o [ Some r ↦ held_in n (refs.entry_of (names script u) r.known n) | None ↦ [] ]

  held_grows : (u : ℕ) (n : Name) → Put v s t vs u → Within (HeldOf u n (slice_get Vats u)) (HeldOf u n (slice_get Vats' u))
  held_grows u n (inl h) = λ i j. subst (λ o. IsIn i (HeldOf u n o)) (sym h.2) (subst (λ z. IsIn i (HeldOf z n (Some t))) (sym h.0) (g.holding n i (subst (λ z. IsIn i (HeldOf z n (Some s))) h.0 (subst (λ o. IsIn i (HeldOf u n o)) h.1 j))))
  held_grows u n (inr h) = λ i j. subst (λ o. IsIn i (HeldOf u n o)) (sym h) j

  abbrev NotesOf : Option Link → List Item
  NotesOf o = elim o [ Some l ↦ elim (is_honest script honest l) [ true ↦ delivered l.notes | false ↦ [] ] | None ↦ [] ]

  honest_same : (l k : Link) → LinkGrows l k → is_honest script honest k ≡ is_honest script honest l
  unfolding is_honest
  honest_same l k h = ap (λ c. honest c && honest k.to) h.from ∙ ap (λ c. honest l.from && honest c) h.to

  notes_by : (c : Bool) (xs ys : List Item) → Within xs ys → Within (elim c [ true ↦ xs | false ↦ [] ]) (elim c [ true ↦ ys | false ↦ [] ])
  notes_by true xs ys f = f
  notes_by false xs ys f = λ i h. h

  notes_grow : (o p : Option Link) → LinkAlike o p → Within (NotesOf o) (NotesOf p)
  notes_grow None None h = λ i j. j
  notes_grow (Some l) (Some k) h = λ i j. subst (λ c. IsIn i (elim c [ true ↦ delivered k.notes | false ↦ [] ])) (sym (honest_same l k h)) (notes_by (is_honest script honest l) (delivered l.notes) (delivered k.notes) h.stands i j)
  notes_grow other another h = absurd h

  module _ (queue : Within (queued s.queue) (queued t.queue)) where
    queue_grows : (u : ℕ) → Put v s t vs u → Within (QueueOf (slice_get Vats u)) (QueueOf (slice_get Vats' u))
    queue_grows u (inl h) = λ i j. subst (λ o. IsIn i (QueueOf o)) (sym h.2) (queue i (subst (λ o. IsIn i (QueueOf o)) h.1 j))
    queue_grows u (inr h) = λ i j. subst (λ o. IsIn i (QueueOf o)) (sym h) j

    pub stands_grow : (l : Lane) (i : Item) → IsIn i (stands_at script honest Vats Links l) → IsIn i (stands_at script honest Vats' Links' l)
    unfolding stands_at
    stands_grow (Queue u) i j = queue_grows u (at_vat u) i j
    stands_grow (Held u n) i j = held_grows u n (at_vat u) i j
    stands_grow (Way a b) i j = notes_grow (world.link_at a b Links) (world.link_at a b Links') (link_alike a b Links Links' grow) i j

-- ---- in the middle of a step

module _ (script : Script) (honest : ℕ → Bool) (w : World) (v : ℕ) (s t : Vat Name) (g : AddsOnly (names script v) s t) where
  pub grow_there : AllGrow (world.push_all v s.outbox w.links) (world.push_all v t.outbox w.links)
  grow_there = subst (λ ls. AllGrow (world.push_all v s.outbox w.links) ls) (sym (ap (λ ps. world.push_all v ps w.links) g.notes.1 ∙ push_append v s.outbox g.notes.0 w.links)) (push_grows v g.notes.0 (world.push_all v s.outbox w.links) g.notes.2)

  grows : Grows (ways script honest (amid v s w)) (ways script honest (amid v t w))
  unfolding ways ways_of amid
  grows = record {
    stands = λ l i j. stands_grow script honest w.vats (world.push_all v s.outbox w.links) (world.push_all v t.outbox w.links) grow_there v s t (refers_same script honest v s t g.alike) (within_more (queued s.queue) (queued t.queue) g.queue.0 g.queue.1) l i j;
    onward = λ l n. inl (onward_same script honest w.vats (world.push_all v s.outbox w.links) (world.push_all v t.outbox w.links) grow_there v s t (refers_same script honest v s t g.alike) l n);
  }

pub adding_grows : AddingGrows
adding_grows = λ script honest w v s t g. grows script honest w v s t g

-- ---- the beginning of a step

pub entry_self : (n : Name) (o : Option (Known Name)) → StandsAlike n o o
entry_self n None = tt
entry_self n (Some k) = (refl, refl, λ i h. h)

put_same : (ss : List (Vat Name)) (v : ℕ) (s : Vat Name) → slice_get ss v ≡ Some s → world.put_at v s ss ≡ ss
unfolding world.put_at
put_same [] v s e = refl
put_same (r ∷ ss) zero s e = ap (λ q. q ∷ ss) (sym (some_same r s e))
put_same (r ∷ ss) (suc v) s e = ap (λ q. r ∷ q) (put_same ss v s e)

-- from s to a state in which the vat refers to nothing else
module _ (script : Script) (honest : ℕ → Bool) (v : ℕ) (s t : Vat Name) (vs : List (Vat Name)) (ls : List Link) (there : RefersSame script honest v s t) (back : RefersSame script honest v t s) (into : Within (queued s.queue) (queued t.queue)) (from : Within (queued t.queue) (queued s.queue)) where
  pub same_between : SameWays (ways_of script honest (world.put_at v s vs) ls) (ways_of script honest (world.put_at v t vs) ls)
  unfolding ways_of
  same_between = (
    λ l. (λ i j. stands_grow script honest vs ls ls (all_same ls) v s t there into l i j, λ i j. stands_grow script honest vs ls ls (all_same ls) v t s back from l i j),
    λ l n. onward_same script honest vs ls ls (all_same ls) v s t there l n,
  )

ready_there : (script : Script) (w : World) (v : ℕ) (s : Vat Name) → RefersAlike (names script v) s (world.readied w s)
unfolding world.readied
ready_there script w v s = record { number = refl; gifts = refl; noticed = refl; names_known = refl; entries = λ n. entry_self n (refs.entry_of (names script v) s.known n) }

ready_back : (script : Script) (w : World) (v : ℕ) (s : Vat Name) → RefersAlike (names script v) (world.readied w s) s
unfolding world.readied
ready_back script w v s = record { number = refl; gifts = refl; noticed = refl; names_known = refl; entries = λ n. entry_self n (refs.entry_of (names script v) s.known n) }

begins_in : (script : Script) (honest : ℕ → Bool) (w : World) (v : ℕ) (s : Vat Name) → SameWays (ways_of script honest (world.put_at v s w.vats) w.links) (ways_of script honest (world.put_at v (world.readied w s) w.vats) w.links)
unfolding world.readied
begins_in script honest w v s = same_between script honest v s (world.readied w s) w.vats w.links (refers_same script honest v s (world.readied w s) (ready_there script w v s)) (refers_same script honest v (world.readied w s) s (ready_back script w v s)) (λ i h. h) (λ i h. h)

pub beginning_changes_no_way : BeginningChangesNoWay
unfolding ways amid world.readied world.push_all
beginning_changes_no_way = λ script honest w v s e. subst (λ ss. SameWays (ways_of script honest ss w.links) (ways_of script honest (world.put_at v (world.readied w s) w.vats) w.links)) (put_same w.vats v s e) (begins_in script honest w v s)

-- ---- the first of a queue is taken

module _ (script : Script) (honest : ℕ → Bool) (w : World) (v : ℕ) (s : Vat Name) (m : Message Name) (ms : List (Message Name)) (n : Name) (first : s.queue ≡ m ∷ ms) (on : m.target ≡ Ref n) where
  abbrev Taken : Vat Name
  Taken = record s { queue = ms }

  taken_there : RefersAlike (names script v) s Taken
  taken_there = record { number = refl; gifts = refl; noticed = refl; names_known = refl; entries = λ q. entry_self q (refs.entry_of (names script v) s.known q) }

  abbrev Pushed : List Link
  Pushed = world.push_all v s.outbox w.links

  pub queue_is : queued s.queue ≡ record { mail = m.id; aim = n } ∷ queued ms
  unfolding queued
  queue_is = ap (λ q. queued q) first ∙ ap (λ z. elim z [ Ref k ↦ record { mail = m.id; aim = k } ∷ queued ms | _ ↦ queued ms ]) on

  abbrev Left : Lane → Item → Type 0
  Left l i = IsIn i (stands_at script honest (world.put_at v Taken w.vats) Pushed l) ⊎ ((l ≡ Queue v) × (i ≡ record { mail = m.id; aim = n }))

  left_queue : (u : ℕ) (i : Item) → Put v s Taken w.vats u → IsIn i (QueueOf (slice_get (world.put_at v s w.vats) u)) → Left (Queue u) i
  unfolding stands_at
  left_queue u i (inl h) j = go (subst (λ q. IsIn i q) queue_is (subst (λ o. IsIn i (QueueOf o)) h.1 j))
    where
      go : (i ≡ record { mail = m.id; aim = n }) ⊎ IsIn i (queued ms) → Left (Queue u) i
      go (inl e) = inr (ap (λ z. Queue z) h.0, e)
      go (inr k) = inl (subst (λ o. IsIn i (QueueOf o)) (sym h.2) k)
  left_queue u i (inr h) j = inl (subst (λ o. IsIn i (QueueOf o)) (sym h) j)

  left_lane : (l : Lane) (i : Item) → IsIn i (stands_at script honest (world.put_at v s w.vats) Pushed l) → Left l i
  unfolding stands_at
  left_lane (Queue u) i j = left_queue u i (put_either v s Taken w.vats u) j
  left_lane (Held u p) i j = inl (held_grows script honest w.vats Pushed Pushed (all_same Pushed) v s Taken (refers_same script honest v s Taken taken_there) u p (put_either v s Taken w.vats u) i j)
  left_lane (Way a b) i j = inl j

  is_taken : IsTaken (ways script honest (amid v s w)) (ways script honest (amid v Taken w)) v (record { mail = m.id; aim = n })
  unfolding ways ways_of amid
  is_taken = record {
    leaves = record { stands = λ l i j. left_lane l i j; links = λ a b k. onward_same script honest w.vats Pushed Pushed (all_same Pushed) v s Taken (refers_same script honest v s Taken taken_there) (Way a b) k };
    lanes = λ l k. onward_same script honest w.vats Pushed Pushed (all_same Pushed) v s Taken (refers_same script honest v s Taken taken_there) l k;
  }

pub first_is_taken : FirstIsTaken
first_is_taken = λ script honest w v s m ms n e f. is_taken script honest w v s m ms n e f
