-- A note that opens a gift leaves its link once the gift counts as opened: no way changes, so that is a small step.
use Rattle.std.proofs.Common.{◌≡◌, ℕ, Bool, true, false, List, [], ◌∷◌, Option, Some, None, refl, sym, ap, subst, ◌∙◌, inl, eqb-true}
use Rattle.std.specs.Prelude.{slice_get, not, ◌==◌, ◌&&◌}
use Rattle.def_machine.specs.Values.{Name, Gift, Ref, same_name}
use Rattle.def_machine.specs.State.{Standing, Unsettled, Note, Open, GiftEntry, Vat}
use Rattle.def_machine.specs.Refs.{standing_of}
use Rattle.def_run.specs.World as world
use Rattle.def_run.specs.World.{Script, Event, Link, World, names}
use Rattle.law_fate.proofs.Name.SameNames.{same_is}
use Rattle.law_order.specs.Ordering.Ways.{Lane, Held, Way, Free, Mid, IsIn}
use Rattle.law_order.specs.Ordering.Changes.{Grows}
use Rattle.law_order.specs.Ordering.Places.{delivered, opens, shortens, note_place, opened_there, gift_place, leads, unsettled, released, released_at, onward_at, ways_of, ways}
use Rattle.law_order.specs.Ordering.Arrivals.{in_front, keeping}
use Rattle.law_order.proofs.Ordering.Changes.{growing_keeps}
use Rattle.law_order.proofs.Ordering.OrderKeeping.{LinkLeaves, AllLeave, Same, each_same, place_front, all_leave, all_put_on, onward_leaves}
use Rattle.law_order.proofs.Ordering.Opened.{same_number, second_false}
use Rattle.law_order.proofs.Ordering.Sends.{get_put}
use Rattle.law_order.specs.Asks.Asks.{Bears}
use Rattle.law_order.proofs.Asks.Steps as steps
use Rattle.law_order.specs.History.Tells.{SmallStep}
use Rattle.law_order.specs.Tales.Middle.{middle}
use Rattle.law_order.specs.Tales.Resting.{Rests}
use Rattle.law_order.proofs.Tales.Resting.{resting}
use Rattle.law_order.proofs.Tales.Silent.{leaves_still}
use Rattle.law_order.proofs.Tales.Still.{IsStill, rests_by}

module _ (script : Script) (honest : ℕ → Bool) (x : World) (a b i : ℕ) (n : Name) (h : Bears x a b (Open i n)) (t : Vat Name) (opened : opened_there (Gift b i) t.gifts ≡ true) where
  abbrev Opens : Note Name
  Opens = Open i n

  abbrev G : Name
  G = Gift b i

  abbrev Bare : World
  Bare = steps.Bare script honest x a b Opens h

  abbrev Links : List Link
  Links = world.push_all b t.outbox Bare.links

  abbrev Kept : List Link
  Kept = world.with_link (in_front Opens) a b Links

  abbrev Vats : List (Vat Name)
  Vats = world.put_at b t x.vats

  -- ---- other gifts do not wait for that note

  abbrev Other : ℕ → ℕ → Type 0
  Other g j = same_name G (Gift g j) ≡ false

  other_open : (g j : ℕ) → Other g j → (g == b) ≡ true → opens j Opens ≡ false
  unfolding opens same_name
  other_open g j e f = second_false (b == g) (i == j) (subst (λ z. (z == g) ≡ true) (eqb-true g b f) (same_number g)) e

  note_link : (l : Link) → l.from ≡ a → l.to ≡ b → LinkLeaves Same Other (in_front Opens l) l
  unfolding in_front shortens delivered
  note_link l e f = record {
    from = refl;
    to = refl;
    cut = refl;
    opened = λ g j o c. refl;
    shortened = λ g j o. refl;
    opening = λ g j o c. each_same Other (note_place (opens j) (Way l.from l.to) [] (Opens ∷ l.notes)) (note_place (opens j) (Way l.from l.to) [] l.notes)
        (sym (place_front (opens j) (Way l.from l.to) Opens l.notes (other_open g j o (subst (λ z. (g == z) ≡ true) f (subst (λ z. (z == l.to) ≡ true) (eqb-true l.to g c) (same_number l.to))))));
    shortening = λ g j o. each_same Other (note_place (shortens g j) (Way l.from l.to) [] (Opens ∷ l.notes)) (note_place (shortens g j) (Way l.from l.to) [] l.notes) (sym (place_front (shortens g j) (Way l.from l.to) Opens l.notes refl));
  }

  all_other : AllLeave Same Other Kept Links
  all_other = all_leave Same Other (λ c. refl) a b Opens (λ l e f. note_link l e f) Links

  -- ---- the gift itself waits for no note, since it was opened

  by_standing : (u : ℕ) (gs : List (GiftEntry Name)) → ((b == u) && not (opened_there G gs)) ≡ false → (q : Standing Name) → released script honest Vats Links u G gs q ≡ released script honest Vats Kept u G gs q
  unfolding released unsettled leads
  by_standing u gs e Unsettled = ap (λ c. elim c [ true ↦ gift_place script honest b i Links | false ↦ Free ]) e ∙ sym (ap (λ c. elim c [ true ↦ gift_place script honest b i Kept | false ↦ Free ]) e)
  by_standing u gs e other = refl

  by_vat : (u : ℕ) (o : Option (Vat Name)) → ((r : Vat Name) → o ≡ Some r → ((b == u) && not (opened_there G r.gifts)) ≡ false) → released_at script honest Vats Links u G o ≡ released_at script honest Vats Kept u G o
  unfolding released_at
  by_vat u (Some r) f = by_standing u r.gifts (f r refl) (standing_of (names script u) r.known G)
  by_vat u None f = refl

  some_vat : (p q : Vat Name) → Some p ≡ Some q → p ≡ q
  some_vat p q e = cc

  opened_at : (u : ℕ) (r : Vat Name) → slice_get Vats u ≡ Some r → ((b == u) && not (opened_there G r.gifts)) ≡ false
  opened_at u r e = go (b == u) refl
    where
      go : (c : Bool) → (b == u) ≡ c → (c && not (opened_there G r.gifts)) ≡ false
      go false f = refl
      go true f = let same : t ≡ r = some_vat t r (sym (get_put x.vats b h.vat t h.there) ∙ ap (λ z. slice_get Vats z) (eqb-true b u f) ∙ e) in ap not (ap (λ (q : Vat Name). opened_there G q.gifts) (sym same) ∙ opened)

  -- ---- each lane leads where it led

  gift_lane : (u : ℕ) (o : Name) → onward_at script honest Vats Links (Held u G) o ≡ onward_at script honest Vats Kept (Held u G) o
  unfolding onward_at
  gift_lane u o = by_vat u (slice_get Vats u) (λ r e. opened_at u r e)

  lane_same : (l : Lane) (o : Name) → onward_at script honest Vats Links l o ≡ onward_at script honest Vats Kept l o
  lane_same (Held u (Gift g j)) o = go (same_name G (Gift g j)) refl
    where
      go : (c : Bool) → same_name G (Gift g j) ≡ c → onward_at script honest Vats Links (Held u (Gift g j)) o ≡ onward_at script honest Vats Kept (Held u (Gift g j)) o
      go false e = onward_leaves Same Other (λ c. refl) script honest Vats Kept Links all_other (Held u (Gift g j)) e o
      go true e = subst (λ p. onward_at script honest Vats Links (Held u p) o ≡ onward_at script honest Vats Kept (Held u p) o) (same_is G (Gift g j) e) (gift_lane u o)
  lane_same other o = onward_leaves Same Other (λ c. refl) script honest Vats Kept Links all_other other tt o

  kept : keeping a b Opens Bare ≡ x
  kept = steps.same script honest x a b Opens h

  links_are : world.push_all b t.outbox x.links ≡ Kept
  unfolding keeping
  links_are = ap (λ (z : World). world.push_all b t.outbox z.links) (sym kept) ∙ all_put_on a b b Opens t.outbox Bare.links

  module _ (head : List Event) where
    abbrev X : World
    X = middle x b head t

    abbrev Y : World
    Y = middle Bare b head t

    still : IsStill script honest X Y
    still = leaves_still script honest x a b head h.link Opens h.rest h.found h.first tt t

    onward : (l : Lane) (o : Name) → (ways script honest Y).onward l o ≡ (ways script honest X).onward l o
    unfolding ways ways_of
    onward l o = lane_same l o ∙ sym (ap (λ ls. onward_at script honest Vats ls l o) links_are)

    leaves : Grows (ways script honest X) (ways script honest Y)
    leaves = record { stands = λ l j k. subst (IsIn j) (sym (still.stands l)) k; onward = λ l o. inl (onward l o) }

    -- and the other way round
    pub back : Grows (ways script honest Y) (ways script honest X)
    back = record { stands = λ l j k. subst (IsIn j) (still.stands l) k; onward = λ l o. inl (sym (onward l o)) }

    rests : Rests script honest X Y
    unfolding leads
    rests = rests_by script honest X Y still (λ u m. inl refl)
        (λ u m c j. (growing_keeps (ways script honest X) (ways script honest Y) leaves (leads script honest X.vats X.links u (Ref m))).1 c j)
        (λ l c m z j. (growing_keeps (ways script honest X) (ways script honest Y) leaves (Mid l c m)).1 z j)

    pub note_leaves : SmallStep script honest X Y
    note_leaves = resting script honest X Y rests
