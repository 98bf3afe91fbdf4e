-- A silent note, which delivers nothing and lets nothing go, leaves its link in the middle of the step of its receiver: a small step.
use Rattle.std.proofs.Common.{◌≡◌, ℕ, Bool, true, false, List, [], ◌∷◌, ◌++◌, Option, Some, refl, sym, ap, subst, ◌∙◌, inl}
use Rattle.std.proofs.lemmas.List.{append-nil}
use Rattle.std.specs.Prelude.{◌&&◌}
use Rattle.def_machine.specs.Values.{Name, Ref}
use Rattle.def_machine.specs.State.{Passeds, Delivery, Note, Deliver, Happened, Posted, Vat}
use Rattle.def_run.specs.World as world
use Rattle.def_run.specs.World.{Script, Event, Link, World, link_at, with_link, with_notes, push_all, event_of, events_of}
use Rattle.law_order.specs.Ordering.Ways.{Lane, Way, Mid}
use Rattle.law_order.specs.Ordering.Changes.{Grows}
use Rattle.law_order.specs.Ordering.Arrivals.{in_front, keeping, IsSilent}
use Rattle.law_order.specs.Ordering.Places.{delivered, is_honest, leads, stands_at, ways_of, ways, amid}
use Rattle.law_order.proofs.Ordering.Changes.{growing_keeps}
use Rattle.law_order.proofs.Ordering.OrderKeeping.{front_link, all_put_on, arriving_changes_nothing, silent_notes_leave}
use Rattle.law_order.specs.History.Befores.{Brings}
use Rattle.law_order.specs.History.Tells.{SmallStep}
use Rattle.law_order.specs.Tales.Middle.{middle, DeliversNothing, SilentLeavingIsSmall}
use Rattle.law_order.specs.Tales.Resting.{WasBrought, Rests}
use Rattle.law_order.proofs.Tales.Begun.{same_grow}
use Rattle.law_order.proofs.Tales.Links.{Found, as_it_was, changed, found, OnLink}
use Rattle.law_order.proofs.Tales.Resting.{resting}
use Rattle.law_order.proofs.Tales.Still.{IsStill, rests_by}

-- ---- a link without its first note

notes_ends : (ns : List (Note Name)) (x y : ℕ) (l : Link) → world.is_link x y (with_notes ns l) ≡ world.is_link x y l
unfolding world.is_link with_notes
notes_ends ns x y l = refl

notes_same : (ns : List (Note Name)) (l : Link) → world.cut_in (Some (with_notes ns l)) ≡ world.cut_in (Some l)
unfolding world.cut_in with_notes
notes_same ns l = refl

front_notes : (n : Note Name) (k : Link) → (in_front n k).notes ≡ n ∷ k.notes
unfolding in_front
front_notes n k = refl

-- what is silent delivers nothing
pub silent_delivers : (n : Note Name) → IsSilent n → DeliversNothing n
silent_delivers (Deliver d m verb ys) h = h
silent_delivers other h = tt

pub bare_delivers : (n : Note Name) → DeliversNothing n → (ns : List (Note Name)) → delivered (n ∷ ns) ≡ delivered ns
unfolding delivered
bare_delivers (Deliver d m verb ys) h ns = absurd h
bare_delivers other h ns = refl

same_without : (script : Script) (honest : ℕ → Bool) (n : Note Name) → DeliversNothing n → (k : Link) → OnLink script honest (Some k) ≡ OnLink script honest (Some (in_front n k))
unfolding in_front is_honest
same_without script honest n h k = ap (λ is. elim (honest k.from && honest k.to) [ true ↦ is | false ↦ [] ]) (sym (bare_delivers n h k.notes))

-- ---- lines

event_same : (ls ks : List Link) (v : ℕ) → ((c d : ℕ) → world.is_cut c d ks ≡ world.is_cut c d ls) → (e : Happened Name) → event_of ks v e ≡ event_of ls v e
unfolding event_of
event_same ls ks v f (Posted w m) = ap (λ c. elim c [ true ↦ world.LostCut m ∷ [] | false ↦ [] ]) (f v w)
event_same ls ks v f other = refl

notes_cut : (ns : List (Note Name)) (a b c d : ℕ) (ls : List Link) → world.is_cut c d (with_link (with_notes ns) a b ls) ≡ world.is_cut c d ls
unfolding world.is_cut
notes_cut ns a b c d ls = go (found (with_notes ns) (λ x y l. ends x y l) a b c d ls)
  where
    ends : (x y : ℕ) (l : Link) → world.is_link x y (with_notes ns l) ≡ world.is_link x y l
    ends x y l = notes_ends ns x y l

    go : Found (with_notes ns) (link_at c d ls) (link_at c d (with_link (with_notes ns) a b ls)) → world.cut_in (link_at c d (with_link (with_notes ns) a b ls)) ≡ world.cut_in (link_at c d ls)
    go (as_it_was e) = ap (λ o. world.cut_in o) e
    go (changed l e f) = ap (λ o. world.cut_in o) f ∙ notes_same ns l ∙ sym (ap (λ o. world.cut_in o) e)

events_same : (ls ks : List Link) (v : ℕ) → ((c d : ℕ) → world.is_cut c d ks ≡ world.is_cut c d ls) → (es : List (Happened Name)) → events_of ks v es ≡ events_of ls v es
unfolding events_of
events_same ls ks v f [] = refl
events_same ls ks v f (e ∷ es) = ap (λ gs. gs ++ events_of ks v es) (event_same ls ks v f e) ∙ ap (λ gs. event_of ls v e ++ gs) (events_same ls ks v f es)

-- ---- the step

module _ (script : Script) (honest : ℕ → Bool) (w : World) (a b : ℕ) (head : List Event) (l : Link) (n : Note Name) (ns : List (Note Name)) (at : link_at a b w.links ≡ Some l) (notes : l.notes ≡ n ∷ ns) (bare : DeliversNothing n) (t : Vat Name) where
  abbrev Bare : World
  Bare = record w { links = with_link (with_notes ns) a b w.links }

  abbrev X : World
  X = middle w b head t

  abbrev Y : World
  Y = middle Bare b head t

  kept : keeping a b n Bare ≡ w
  kept = arriving_changes_nothing w a b l n ns at notes

  -- the links with it, by those without it
  links_are : push_all b t.outbox w.links ≡ with_link (in_front n) a b (push_all b t.outbox Bare.links)
  unfolding keeping
  links_are = ap (λ (z : World). push_all b t.outbox z.links) (sym kept) ∙ all_put_on a b b n t.outbox Bare.links

  front_or : (c d : ℕ) → Found (in_front n) (link_at c d Y.links) (link_at c d X.links)
  front_or c d = subst (λ ls. Found (in_front n) (link_at c d Y.links) (link_at c d ls)) (sym links_are) (found (in_front n) (λ x y k. front_link x y n k) a b c d Y.links)

  front_same : (o p : Option Link) → Found (in_front n) o p → OnLink script honest o ≡ OnLink script honest p
  front_same o p (as_it_was e) = ap (λ q. OnLink script honest q) (sym e)
  front_same o p (changed k e f) = ap (λ q. OnLink script honest q) e ∙ same_without script honest n bare k ∙ sym (ap (λ q. OnLink script honest q) f)

  stand_same : (k : Lane) → (ways script honest Y).stands k ≡ (ways script honest X).stands k
  unfolding ways ways_of stands_at
  stand_same (Way c d) = front_same (link_at c d Y.links) (link_at c d X.links) (front_or c d)
  stand_same other = refl

  brought : (u x : ℕ) (front : List (Note Name)) (d : Delivery Name) (m : Name) (ys : Passeds Name) → Brings Y u x front d m ys → WasBrought script honest X Y u x front d m ys
  brought u x front d m ys r = go (front_or u x)
    where
      some_is : (k : Link) → ◌≡◌ {A = Option Link} (Some k) (Some r.link) → k ≡ r.link
      some_is k e = cc

      go : Found (in_front n) (link_at u x Y.links) (link_at u x X.links) → WasBrought script honest X Y u x front d m ys
      go (as_it_was e) = record { before = front; brings = record { link = r.link; found = e ∙ r.found; verb = r.verb; rest = r.rest; notes = r.notes }; behind = refl }
      go (changed k e f) = let same = some_is k (sym e ∙ r.found) in record {
        before = n ∷ front;
        brings = record { link = in_front n k; found = f; verb = r.verb; rest = r.rest; notes = front_notes n k ∙ ap (λ ms. n ∷ ms) (ap (λ (z : Link). z.notes) same ∙ r.notes) };
        behind = bare_delivers n bare front;
      }

  pub leaves_still : IsStill script honest X Y
  leaves_still = record {
    told = [];
    lines = ap (λ es. w.history ++ head ++ es) (events_same w.links Bare.links b (λ c d. notes_cut ns a b c d w.links) t.happened) ∙ sym (append-nil (w.history ++ head ++ events_of w.links b t.happened));
    quiet = tt;
    stands = stand_same;
    brought = brought;
  }

  module _ (silent : IsSilent n) where
    leaves : Grows (ways script honest X) (ways script honest Y)
    unfolding ways amid
    leaves = subst (λ (z : World). Grows (ways script honest (amid b t z)) (ways script honest (amid b t Bare))) kept (same_grow (ways script honest (amid b t (keeping a b n Bare))) (ways script honest (amid b t Bare)) (silent_notes_leave script honest Bare a b n t silent))

    leaves_rests : Rests script honest X Y
    unfolding leads
    leaves_rests = rests_by script honest X Y leaves_still
        (λ u m. inl refl)
        (λ u m c i. (growing_keeps (ways script honest X) (ways script honest Y) leaves (leads script honest X.vats X.links u (Ref m))).1 c i)
        (λ k c m x i. (growing_keeps (ways script honest X) (ways script honest Y) leaves (Mid k c m)).1 x i)

    pub silent_small : SmallStep script honest X Y
    silent_small = resting script honest X Y leaves_rests

pub silent_leaving_is_small : SilentLeavingIsSmall
silent_leaving_is_small script honest w a b head l n ns at notes silent t = silent_small script honest w a b head l n ns at notes (silent_delivers n silent) t silent
