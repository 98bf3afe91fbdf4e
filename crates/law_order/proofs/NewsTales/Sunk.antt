-- Names of a vat break in the middle of a step: that is a small step, as what reacted on them was never sent.
use Rattle.std.proofs.Common.{◌≡◌, ℕ, Bool, false, List, [], ◌∷◌, ◌++◌, Option, Some, None, refl, sym, ap, subst, ◌∙◌, ◌⊎◌, inl, inr}
use Rattle.std.specs.Prelude.{slice_get}
use Rattle.def_machine.specs.Values.{Words, Value, Broken, Ref, Name, Naming}
use Rattle.def_machine.specs.State.{Message, Known, Vat}
use Rattle.def_machine.specs.Refs.{entry_of}
use Rattle.def_run.specs.World as world
use Rattle.def_run.specs.World.{Script, Event, World, names}
use Rattle.law_fate.proofs.Name.Among.{all_among}
use Rattle.law_reference.proofs.Reference.Follow.{eq_dec}
use Rattle.law_frame.proofs.Local.Steps.{put_beside}
use Rattle.law_order.specs.Ordering.Ways.{Lane, Queue, Held, Way, Item, IsIn, Ways}
use Rattle.law_order.specs.Ordering.Messages.{StandsAt}
use Rattle.law_order.specs.Ordering.Places.{item, queued, held_on, held_in, leads, leads_in, leads_at, stands_at, ways_of, ways, amid}
use Rattle.law_order.specs.Ordering.Steps.{KeepsOrder}
use Rattle.law_order.proofs.Ordering.Sends.{get_put}
use Rattle.law_order.proofs.Ordering.Standing.{queued_append}
use Rattle.law_order.proofs.Notices.Sinking.{Broke, Sank, stayed, broke, Sinks}
use Rattle.law_order.proofs.Notices.Leading.{SameOrGone, leads_on}
use Rattle.law_order.specs.History.Lines.{was_sent}
use Rattle.law_order.specs.History.Tells.{SmallStep}
use Rattle.law_order.specs.Tales.Middle.{middle, MovesNone}
use Rattle.law_order.specs.Tales.Resting.{Rests}
use Rattle.law_order.proofs.Tales.Middle.{moves_still}
use Rattle.law_order.proofs.Tales.Resting.{resting}
use Rattle.law_order.proofs.Tales.Still.{IsStill}
use Rattle.law_order.proofs.NoticeTales.Small.{split_at, queued_from, nothing_at, all_news, all_quiet}

module _ (script : Script) (honest : ℕ → Bool) (w : World) (v : ℕ) (r : Vat Name) (at : slice_get w.vats v ≡ Some r) (head : List Event) (P : Message Name → Type 0) (problem : Words) (s t : Vat Name)
    (g : Sinks (names script v) P (Broken problem) s t) (kept : KeepsOrder script honest w v s t) (unsent : (m : Message Name) → P m → was_sent m.id (middle w v head s).history ≡ false) where
  abbrev K : Naming Name Name
  K = names script v

  abbrev X : World
  X = middle w v head s

  abbrev Y : World
  Y = middle w v head t

  abbrev W : Ways
  W = ways script honest X

  abbrev U : Ways
  U = ways script honest Y

  abbrev After : Vat Name → List (Vat Name)
  After q = world.put_at v q w.vats

  -- the notes and the lines alone
  abbrev Put' : Vat Name
  Put' = record s { outbox = t.outbox; happened = t.happened }

  puts : MovesNone K s Put'
  puts = record { queue = refl; held = λ n. refl; puts = g.notes.0; outbox = g.notes.1; none = all_news g.notes.0 g.notes.2; lines = g.lines.0; happened = g.lines.1; quiet = all_quiet g.lines.0 g.lines.2 }

  still : IsStill script honest X (middle w v head Put')
  still = moves_still script honest w v head s Put' puts

  other_vat : (u : ℕ) → (u ≡ v → ⊥) → slice_get (After t) u ≡ slice_get (After s) u
  other_vat u f = put_beside w.vats v u t (λ e. f (sym e)) ∙ sym (put_beside w.vats v u s (λ e. f (sym e)))

  -- ---- where messages stood

  abbrev QueueIn : Option (Vat Name) → List Item
  QueueIn o = elim o [ Some q ↦ queued q.queue | None ↦ [] ]

  abbrev HeldIn : ℕ → Name → Option (Vat Name) → List Item
  HeldIn u p o = elim o [ Some q ↦ held_in p (entry_of (names script u) q.known p) | None ↦ [] ]

  queue_more : U.stands (Queue v) ≡ W.stands (Queue v) ++ queued g.queue.0
  unfolding ways ways_of stands_at
  queue_more = ap (λ o. QueueIn o) (get_put w.vats v r t at) ∙ ap (λ q. queued q) g.queue.1 ∙ queued_append s.queue g.queue.0 ∙ sym (ap (λ o. QueueIn o ++ queued g.queue.0) (get_put w.vats v r s at))

  queue_other : (u : ℕ) → (u ≡ v → ⊥) → U.stands (Queue u) ≡ W.stands (Queue u)
  unfolding ways ways_of stands_at
  queue_other u f = ap (λ o. QueueIn o) (other_vat u f)

  nothing_held : (p : Name) (k : Known Name) → held_in p (Some (Broke (Broken problem) k)) ≡ []
  unfolding held_in held_on
  nothing_held p k = refl

  held_by : (p : Name) (a b : Option (Known Name)) → Sank (Broken problem) a b → (held_in p b ≡ held_in p a) ⊎ (held_in p b ≡ [])
  held_by p a b (stayed e) = inl (ap (λ o. held_in p o) e)
  held_by p a b (broke k e f) = inr (ap (λ o. held_in p o) f ∙ nothing_held p k)

  held_here : (p : Name) → (U.stands (Held v p) ≡ W.stands (Held v p)) ⊎ (U.stands (Held v p) ≡ [])
  unfolding ways ways_of stands_at
  held_here p = go (held_by p (entry_of K s.known p) (entry_of K t.known p) (g.entries p))
    where
      then_is : HeldIn v p (slice_get (After t) v) ≡ held_in p (entry_of K t.known p)
      then_is = ap (λ o. HeldIn v p o) (get_put w.vats v r t at)

      was : HeldIn v p (slice_get (After s) v) ≡ held_in p (entry_of K s.known p)
      was = ap (λ o. HeldIn v p o) (get_put w.vats v r s at)

      go : (held_in p (entry_of K t.known p) ≡ held_in p (entry_of K s.known p)) ⊎ (held_in p (entry_of K t.known p) ≡ []) → (HeldIn v p (slice_get (After t) v) ≡ HeldIn v p (slice_get (After s) v)) ⊎ (HeldIn v p (slice_get (After t) v) ≡ [])
      go (inl e) = inl (then_is ∙ e ∙ sym was)
      go (inr e) = inr (then_is ∙ e)

  held_other : (u : ℕ) (p : Name) → (u ≡ v → ⊥) → U.stands (Held u p) ≡ W.stands (Held u p)
  unfolding ways ways_of stands_at
  held_other u p f = ap (λ o. HeldIn u p o) (other_vat u f)

  same_stood : (l : Lane) (m : Name) (c : List Item) (n : Name) → U.stands l ≡ W.stands l → StandsAt U m l c n → StandsAt W m l c n
  same_stood l m c n e i = record { behind = i.behind; found = sym e ∙ i.found }

  held_stood : (u : ℕ) (p m : Name) (c : List Item) (n : Name) → StandsAt U m (Held u p) c n → StandsAt W m (Held u p) c n
  held_stood u p m c n i = go (eq_dec u v)
    where
      fallen : (U.stands (Held u p) ≡ W.stands (Held u p)) ⊎ (U.stands (Held u p) ≡ []) → StandsAt W m (Held u p) c n
      fallen (inl e) = same_stood (Held u p) m c n e i
      fallen (inr e) = absurd (nothing_at c i.behind (item m n) (sym e ∙ i.found))

      go : (u ≡ v) ⊎ (u ≡ v → ⊥) → StandsAt W m (Held u p) c n
      go (inl e) = fallen (subst (λ z. (U.stands (Held z p) ≡ W.stands (Held z p)) ⊎ (U.stands (Held z p) ≡ [])) (sym e) (held_here p))
      go (inr f) = same_stood (Held u p) m c n (held_other u p f) i

  link_same : (a b : ℕ) → U.stands (Way a b) ≡ W.stands (Way a b)
  unfolding ways ways_of stands_at
  link_same a b = still.stands (Way a b)

  abbrev Either : Lane → Name → List Item → Name → Type 0
  Either l m c n = StandsAt W m l c n ⊎ (was_sent m X.history ≡ false)

  reacted : (m n : Name) → IsIn (item m n) (queued g.queue.0) → was_sent m X.history ≡ false
  reacted m n i = let from = queued_from m n g.queue.0 i in subst (λ z. was_sent z X.history ≡ false) from.2 (unsent from.0 (all_among P g.queue.0 from.0 g.queue.2 from.1))

  queue_stood : (u : ℕ) (m : Name) (c : List Item) (n : Name) → StandsAt U m (Queue u) c n → Either (Queue u) m c n
  queue_stood u m c n i = go (eq_dec u v)
    where
      parts : ((q : List Item) × (W.stands (Queue u) ≡ c ++ item m n ∷ q)) ⊎ IsIn (item m n) (queued g.queue.0) → Either (Queue u) m c n
      parts (inl h) = inl (record { behind = h.0; found = h.1 })
      parts (inr h) = inr (reacted m n h)

      go : (u ≡ v) ⊎ (u ≡ v → ⊥) → Either (Queue u) m c n
      go (inl e) = parts (split_at (W.stands (Queue u)) (queued g.queue.0) c i.behind (item m n) (sym (subst (λ z. U.stands (Queue z) ≡ W.stands (Queue z) ++ queued g.queue.0) (sym e) queue_more) ∙ i.found))
      go (inr f) = inl (same_stood (Queue u) m c n (queue_other u f) i)

  stood : (l : Lane) (m : Name) (c : List Item) (n : Name) → StandsAt U m l c n → Either l m c n
  stood (Queue u) m c n i = queue_stood u m c n i
  stood (Held u p) m c n i = inl (held_stood u p m c n i)
  stood (Way c d) m f n i = inl (same_stood (Way c d) m f n (link_same c d) i)

  -- ---- where references lead

  leading_by : (u : ℕ) (z : Value Name) → (u ≡ v) ⊎ (u ≡ v → ⊥) → SameOrGone (leads_at script honest u (slice_get (After s) u) z) (leads_at script honest u (slice_get (After t) u) z)
  unfolding leads_at
  leading_by u z (inl e) = subst (λ q. SameOrGone (leads_at script honest q (slice_get (After s) q) z) (leads_at script honest q (slice_get (After t) q) z)) (sym e)
      (subst (λ o. SameOrGone (leads_at script honest v o z) (leads_at script honest v (slice_get (After t) v) z)) (sym (get_put w.vats v r s at)) (subst (λ o. SameOrGone (leads_in script honest v s z) (leads_at script honest v o z)) (sym (get_put w.vats v r t at))
      (leads_on script honest P v problem s t g z)))
  leading_by u z (inr f) = inl (ap (λ o. leads_at script honest u o z) (other_vat u f))

  rests : Rests script honest X Y
  unfolding ways amid leads
  rests = record {
    told = still.told;
    lines = still.lines;
    quiet = still.quiet;
    leading = λ u n. leading_by u (Ref n) (eq_dec u v);
    references = λ u n a i. (kept.references u (Ref n)).1 a i;
    places = λ l b n a i. (kept.places l b n).1 a i;
    stands = λ m l b n i. stood l m b n i;
    holds = λ u p m b n i. held_stood u p m b n i;
    brought = λ u x front d n ys b. let o = still.brought u x front d n ys (record { link = b.link; found = b.found; verb = b.verb; rest = b.rest; notes = b.notes }) in record { before = o.before; brings = o.brings; behind = o.behind };
  }

  pub sunk_small : SmallStep script honest (middle w v head s) (middle w v head t)
  sunk_small = resting script honest X Y rests
