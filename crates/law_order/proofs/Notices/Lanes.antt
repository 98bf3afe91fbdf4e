-- As names of a vat break in a step, what stands in which lane after it.
use Rattle.std.proofs.Common.{◌≡◌, ℕ, zero, suc, Bool, List, [], ◌∷◌, ◌++◌, Option, Some, None, refl, sym, ap, subst, ◌∙◌, ◌⊎◌, inl, inr}
use Rattle.std.specs.Prelude.{slice_get}
use Rattle.def_machine.specs.Values.{Words, Value, Broken, Name, Naming}
use Rattle.def_machine.specs.State.{Message, Known, Note, SettledTo, Passed, Put, Vat}
use Rattle.def_machine.specs.Refs as refs
use Rattle.def_machine.specs.Refs.{entry_of, standing_of, standing_in, follow_at}
use Rattle.def_run.specs.World as world
use Rattle.def_run.specs.World.{Script, Link, names}
use Rattle.law_fate.specs.Name.Names.{AllOf}
use Rattle.law_order.specs.Ordering.Ways.{Lane, Queue, Held, Way, Item, Nowhere}
use Rattle.law_order.specs.Ordering.Places.{queued, held_on, held_in, delivered, aimed, by_follow, leads_in, leads_at, leads, released, released_at, stands_at, onward_at}
use Rattle.law_order.proofs.Ordering.Amid as amid
use Rattle.law_order.proofs.Ordering.Amid.{put_either}
use Rattle.law_order.proofs.Ordering.Sends.{get_put}
use Rattle.law_order.proofs.Ordering.Standing.{IsQuiet, Row, row_still, queued_append}
use Rattle.law_order.specs.Notices.Notices.{IsNotOf}
use Rattle.law_order.proofs.Notices.Sinking.{Broke, Sank, stayed, broke, IsNews}

some_vat : (s t : Vat Name) → Some s ≡ Some t → s ≡ t
some_vat s t e = cc

-- the vat that is there, put there
pub put_same : (vs : List (Vat Name)) (v : ℕ) (s : Vat Name) → slice_get vs v ≡ Some s → world.put_at v s vs ≡ vs
unfolding world.put_at
put_same [] v s e = refl
put_same (r ∷ vs) zero s e = ap (λ q. q ∷ vs) (sym (some_vat r s e))
put_same (r ∷ vs) (suc v) s e = ap (λ qs. r ∷ qs) (put_same vs v s e)

-- ---- links

news_quiet : (n : Note Name) → (p : Name) × (y : Passed Name) × (n ≡ SettledTo p y) → IsQuiet n
unfolding delivered
news_quiet n h = subst IsQuiet (sym h.2) refl

-- where only such notes are put just what stood on a link stands there
rows_still : (script : Script) (honest : ℕ → Bool) (a b v : ℕ) (ps : List (Put Name)) (ls : List Link) → AllOf IsNews ps → Row script honest (world.link_at a b (world.push_all v ps ls)) ≡ Row script honest (world.link_at a b ls)
unfolding world.push_all
rows_still script honest a b v [] ls h = refl
rows_still script honest a b v (p ∷ ps) ls h = rows_still script honest a b v ps (world.with_link (world.pushed p.note) v p.to ls) h.1 ∙ row_still script honest a b v p.to p.note (news_quiet p.note h.0) ls

-- ---- the vat

module _ (script : Script) (honest : ℕ → Bool) (P : Message Name → Type 0) (vs : List (Vat Name)) (ls : List Link) (v : ℕ) (problem : Words) (s t : Vat Name) (there : slice_get vs v ≡ Some s)
    (entries : (n : Name) → Sank (Broken problem) (entry_of (names script v) s.known n) (entry_of (names script v) t.known n))
    (queue : (ms : List (Message Name)) × (t.queue ≡ s.queue ++ ms) × AllOf P ms) (news : AllOf IsNews t.outbox) where
  abbrev K : Naming Name Name
  K = names script v

  abbrev Y : Value Name
  Y = Broken problem

  abbrev Then : List (Vat Name)
  Then = world.put_at v t vs

  abbrev Links : List Link
  Links = world.push_all v t.outbox ls

  now : slice_get Then v ≡ Some t
  now = get_put vs v s t there

  -- another vat is as it was
  other_vat : (u : ℕ) → (u ≡ v → ⊥) → slice_get Then u ≡ slice_get vs u
  other_vat u f = go (put_either v s t vs u)
    where
      go : amid.Put v s t vs u → slice_get Then u ≡ slice_get vs u
      go (inl h) = absurd (f h.0)
      go (inr h) = h ∙ ap (λ xs. slice_get xs u) (put_same vs v s there)

  abbrev QueueIn : Option (Vat Name) → List Item
  QueueIn o = elim o [ Some q ↦ queued q.queue | None ↦ [] ]

  abbrev HeldIn : ℕ → Name → Option (Vat Name) → List Item
  HeldIn u p o = elim o [ Some q ↦ held_in p (entry_of (names script u) q.known p) | None ↦ [] ]

  pub apart_same : (l : Lane) → IsNotOf v l → stands_at script honest Then Links l ≡ stands_at script honest vs ls l
  unfolding stands_at
  apart_same (Queue u) f = ap (λ o. QueueIn o) (other_vat u f)
  apart_same (Held u p) f = ap (λ o. HeldIn u p o) (other_vat u f)
  apart_same (Way a b) f = rows_still script honest a b v t.outbox ls news

  pub queue_more : stands_at script honest Then Links (Queue v) ≡ stands_at script honest vs ls (Queue v) ++ queued queue.0
  unfolding stands_at
  queue_more = ap (λ o. QueueIn o) now ∙ ap (λ q. queued q) queue.1 ∙ queued_append s.queue queue.0 ∙ sym (ap (λ o. QueueIn o ++ queued queue.0) there)

  -- ---- what names hold

  broken_leads : leads script honest Then Links v Y ≡ Nowhere
  unfolding leads leads_at leads_in by_follow refs.follow follow_at refs.severed refs.place aimed
  broken_leads = ap (λ o. leads_at script honest v o Y) now

  gone : (p : Name) (k : Known Name) → entry_of K t.known p ≡ Some (Broke Y k) → released_at script honest Then Links v p (Some t) ≡ Nowhere
  unfolding released_at released standing_of standing_in
  gone p k e = ap (λ o. released script honest Then Links v p t.gifts (standing_in o)) e ∙ broken_leads

  abbrev Falls : Name → Type 0
  Falls p = (stands_at script honest Then Links (Held v p) ≡ stands_at script honest vs ls (Held v p)) ⊎ ((stands_at script honest Then Links (Held v p) ≡ []) × ((n : Name) → onward_at script honest Then Links (Held v p) n ≡ Nowhere))

  nothing_held : (p : Name) (k : Known Name) → held_in p (Some (Broke Y k)) ≡ []
  unfolding held_in held_on
  nothing_held p k = refl

  falls_by : (p : Name) → Sank Y (entry_of K s.known p) (entry_of K t.known p) → Falls p
  unfolding stands_at onward_at
  falls_by p (stayed e) = inl (ap (λ o. HeldIn v p o) now ∙ ap (λ o. held_in p o) e ∙ sym (ap (λ o. HeldIn v p o) there))
  falls_by p (broke k e f) = inr (ap (λ o. HeldIn v p o) now ∙ ap (λ o. held_in p o) f ∙ nothing_held p k, λ n. ap (λ o. released_at script honest Then Links v p o) now ∙ gone p k f)

  pub falls : (p : Name) → Falls p
  falls p = falls_by p (entries p)
