-- Where the ways grow and no message moves, a vat makes a small step.
use Rattle.std.proofs.Common.{◌≡◌, ℕ, zero, suc, Bool, true, false, List, [], ◌∷◌, ◌++◌, Option, Some, None, refl, sym, ap, subst, ◌∙◌, inl, append_assoc}
use Rattle.std.specs.Prelude.{slice_get}
use Rattle.def_machine.specs.Values.{Name, Ref}
use Rattle.def_machine.specs.State.{Passeds, Delivery, Note, Put, Happened, Took, Sends, Posted, Vat}
use Rattle.def_machine.specs.Refs.{entry_of}
use Rattle.def_run.specs.World as world
use Rattle.def_run.specs.World.{Script, Event, LostCut, Link, World, names, put_at, push_all, link_at, events_of, event_of}
use Rattle.law_fate.specs.Name.Names.{AllOf}
use Rattle.law_order.specs.Ordering.Ways.{Lane, Queue, Held, Way, Mid, Ahead}
use Rattle.law_order.specs.Ordering.Places.{queued, held_in, leads, stands_at, ways_of, ways, amid}
use Rattle.law_order.specs.Ordering.Steps.{Grown}
use Rattle.law_order.proofs.Ordering.Changes.{growing_keeps}
use Rattle.law_order.specs.History.Lines.{counts, AllQuiet}
use Rattle.law_order.specs.History.Befores.{Brings}
use Rattle.law_order.specs.Tales.Middle.{middle, IsQuietLine, MovesNone, GrowingIsSmall}
use Rattle.law_order.specs.Tales.Resting.{WasBrought, Rests}
use Rattle.law_order.proofs.Tales.Links.{Stays, is_none, is_there, puts_stay, stays_stand, was_at}
use Rattle.law_order.proofs.Tales.Resting.{resting}
use Rattle.law_order.proofs.Tales.Still.{IsStill, quiet_join, rests_by}

-- ---- lines

posted_quiet : (v : ℕ) (m : Name) (b : Bool) → AllQuiet (elim b [ true ↦ LostCut m ∷ [] | false ↦ [] ])
unfolding counts
posted_quiet v m true = (refl, tt)
posted_quiet v m false = tt

event_quiet : (ls : List Link) (v : ℕ) (e : Happened Name) → IsQuietLine e → AllQuiet (event_of ls v e)
unfolding event_of counts
event_quiet ls v (Posted w m) h = posted_quiet v m (world.is_cut v w ls)
event_quiet ls v (Sends act m) h = absurd h
event_quiet ls v (Took act m) h = absurd h
event_quiet ls v other h = (refl, tt)

pub events_quiet : (ls : List Link) (v : ℕ) (es : List (Happened Name)) → AllOf IsQuietLine es → AllQuiet (events_of ls v es)
unfolding events_of
events_quiet ls v [] h = tt
events_quiet ls v (e ∷ es) h = quiet_join (event_of ls v e) (events_of ls v es) (event_quiet ls v e h.0) (events_quiet ls v es h.1)

pub events_both : (ls : List Link) (v : ℕ) (es fs : List (Happened Name)) → events_of ls v (es ++ fs) ≡ events_of ls v es ++ events_of ls v fs
unfolding events_of
events_both ls v [] fs = refl
events_both ls v (e ∷ es) fs = ap (λ gs. event_of ls v e ++ gs) (events_both ls v es fs) ∙ sym (append_assoc (event_of ls v e) (events_of ls v es) (events_of ls v fs))

push_twice : (v : ℕ) (ps qs : List (Put Name)) (ls : List Link) → push_all v (ps ++ qs) ls ≡ push_all v qs (push_all v ps ls)
unfolding push_all
push_twice v [] qs ls = refl
push_twice v (p ∷ ps) qs ls = push_twice v ps qs (world.with_link (world.pushed p.note) v p.to ls)

-- ---- one vat of the world

-- what is read of a vat is the same, if it is of that one
module _ {A : Type 0} (f : Vat Name → A) (none : A) where
  abbrev pub Of : Option (Vat Name) → A
  Of o = elim o [ Some r ↦ f r | None ↦ none ]

  pub at_vat : (v u : ℕ) (s t : Vat Name) (vs : List (Vat Name)) → (u ≡ v → f t ≡ f s) → Of (slice_get (put_at v t vs) u) ≡ Of (slice_get (put_at v s vs) u)
  unfolding put_at
  at_vat v u s t [] e = refl
  at_vat zero zero s t (r ∷ vs) e = e refl
  at_vat zero (suc u) s t (r ∷ vs) e = refl
  at_vat (suc v) zero s t (r ∷ vs) e = refl
  at_vat (suc v) (suc u) s t (r ∷ vs) e = at_vat v u s t vs (λ i. e (ap suc i))

module _ (script : Script) (honest : ℕ → Bool) (w : World) (v : ℕ) (head : List Event) (s t : Vat Name) (h : MovesNone (names script v) s t) where
  abbrev X : World
  X = middle w v head s

  abbrev Y : World
  Y = middle w v head t

  links_are : push_all v t.outbox w.links ≡ push_all v h.puts (push_all v s.outbox w.links)
  links_are = ap (λ ps. push_all v ps w.links) h.outbox ∙ push_twice v s.outbox h.puts w.links

  stays : (a b : ℕ) → Stays (link_at a b X.links) (link_at a b Y.links)
  stays a b = subst (λ ls. Stays (link_at a b X.links) (link_at a b ls)) (sym links_are) (puts_stay v a b h.puts (push_all v s.outbox w.links) h.none)

  stand_same : (l : Lane) → (ways script honest Y).stands l ≡ (ways script honest X).stands l
  unfolding ways ways_of stands_at
  stand_same (Queue u) = at_vat (λ r. queued r.queue) [] v u s t w.vats (λ e. ap queued h.queue)
  stand_same (Held u n) = at_vat (λ r. held_in n (entry_of (names script u) r.known n)) [] v u s t w.vats (λ e. subst (λ z. held_in n (entry_of (names script z) t.known n) ≡ held_in n (entry_of (names script z) s.known n)) (sym e) (h.held n))
  stand_same (Way a b) = stays_stand script honest (link_at a b X.links) (link_at a b Y.links) (stays a b)

  brought : (u x : ℕ) (front : List (Note Name)) (d : Delivery Name) (n : Name) (ys : Passeds Name) → Brings Y u x front d n ys → WasBrought script honest X Y u x front d n ys
  brought u x front d n ys r = go (stays u x)
    where
      none_some : ◌≡◌ {A = Option Link} None (Some r.link) → ⊥
      none_some e = cc

      some_is : (m : Link) → Some m ≡ Some r.link → m ≡ r.link
      some_is m e = cc

      go : Stays (link_at u x X.links) (link_at u x Y.links) → WasBrought script honest X Y u x front d n ys
      go (is_none e f) = absurd (none_some (sym f ∙ r.found))
      go (is_there l m e f k) = let same = some_is m (sym f ∙ r.found) in
          let at = was_at l.notes k.more front r.rest d n r.verb ys k.none (sym k.notes ∙ ap (λ (z : Link). z.notes) same ∙ r.notes) in
          record { before = front; brings = record { link = l; found = e; verb = at.verb; rest = at.rest; notes = at.notes }; behind = refl }

  lines_are : Y.history ≡ X.history ++ events_of w.links v h.lines
  lines_are = ap (λ es. w.history ++ head ++ events_of w.links v es) h.happened ∙ ap (λ es. w.history ++ head ++ es) (events_both w.links v s.happened h.lines) ∙ sym (append_assoc (w.history ++ head) (events_of w.links v s.happened) (events_of w.links v h.lines))

  pub moves_still : IsStill script honest X Y
  moves_still = record { told = events_of w.links v h.lines; lines = lines_are; quiet = events_quiet w.links v h.lines h.quiet; stands = stand_same; brought = brought }

  rests : Grown script honest w v s t → Rests script honest X Y
  unfolding ways amid leads
  rests g = rests_by script honest X Y moves_still
      (λ u n. inl (g.leading u (Ref n)))
      (λ u n a i. subst (λ c. Ahead (ways_of script honest Y.vats Y.links) a c) (sym (g.leading u (Ref n))) ((growing_keeps (ways_of script honest X.vats X.links) (ways_of script honest Y.vats Y.links) g.grows _).1 a i))
      (λ l b n a i. (growing_keeps (ways_of script honest X.vats X.links) (ways_of script honest Y.vats Y.links) g.grows (Mid l b n)).1 a i)

pub growing_is_small : GrowingIsSmall
growing_is_small script honest w v head s t g h = resting script honest (middle w v head s) (middle w v head t) (rests script honest w v head s t h g)
