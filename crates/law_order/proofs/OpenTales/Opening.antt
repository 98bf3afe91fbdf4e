-- A gift is opened, and comes to wait for a name that leads where the note's does, while the note stands on its link yet: by small steps, whether or not it was opened before.
use Rattle.std.proofs.Common.{◌≡◌, ℕ, Bool, true, false, List, [], Some, refl, sym, subst, ◌∙◌, ◌⊎◌, inl, inr}
use Rattle.std.specs.Prelude.{slice_get}
use Rattle.def_machine.specs.Values.{Value, Ref, Name, Gift, Naming}
use Rattle.def_machine.specs.State.{Unsettled, Settled, Open, GiftEntry, Vat, with_opened}
use Rattle.def_machine.specs.Arrive.{gift_at}
use Rattle.def_machine.specs.Refs.{standing_of}
use Rattle.def_run.specs.World as world
use Rattle.def_run.specs.World.{Script, Event, World, names}
use Rattle.law_order.specs.Ordering.Ways.{Held, Way, Mid, Place, Ahead}
use Rattle.law_order.specs.Ordering.Messages.{StaysBehind}
use Rattle.law_order.specs.Ordering.Places.{opened_there, gift_place, leads, leads_in, ways, amid}
use Rattle.law_order.specs.Ordering.Steps.{Grown, WaysAmid}
use Rattle.law_order.specs.Ordering.Arrivals.{IsShut}
use Rattle.law_order.proofs.Ordering.Changes.{growing_keeps}
use Rattle.law_order.proofs.Ordering.Messages.{behind_then}
use Rattle.law_order.proofs.Ordering.Opened as opened
use Rattle.law_order.proofs.Views.Alike.{leads_same}
use Rattle.law_order.specs.Asks.Asks.{Bears}
use Rattle.law_order.proofs.Asks.Steps as steps
use Rattle.law_order.proofs.News.Opens.{bare_way, opens_keep}
use Rattle.law_order.specs.History.Tells.{Tale, over, then_on}
use Rattle.law_order.specs.Tales.Middle.{middle, MovesNone}
use Rattle.law_order.specs.Tales.Resting.{Rests}
use Rattle.law_order.proofs.Tales.Middle.{growing_is_small, moves_still}
use Rattle.law_order.proofs.Tales.Resting.{resting}
use Rattle.law_order.proofs.Tales.Still.{IsStill, still_then, rests_by}
use Rattle.law_order.proofs.NewsTales.Moving.{rest_moves}
use Rattle.law_order.proofs.OpenTales.Flags.{flag_grown}
use Rattle.law_order.proofs.OpenTales.Leaving.{back}

module _ (script : Script) (honest : ℕ → Bool) (x : World) (a b i : ℕ) (n : Name) (h : Bears x a b (Open i n)) (sender : honest a ≡ true) (receiver : honest b ≡ true) (head : List Event) (s : Vat Name) (empty : s.outbox ≡ [])
    (first : gift_place script honest b i x.links ≡ Mid (Way a b) [] n) (entry : GiftEntry Name) (kept : gift_at a i s.gifts ≡ Some entry) (named : entry.name ≡ Gift b i) where
  abbrev K : Naming Name Name
  K = names script b

  abbrev G : Name
  G = Gift b i

  abbrev Opened : Vat Name
  Opened = record s { gifts = with_opened a i s.gifts }

  place : gift_place script honest b i (amid b s x).links ≡ Mid (Way a b) [] n
  unfolding amid world.push_all
  place = subst (λ ps. gift_place script honest b i (world.push_all b ps x.links) ≡ Mid (Way a b) [] n) (sym empty) first

  open_moves : MovesNone K s Opened
  open_moves = rest_moves script b s Opened refl refl refl refl

  module _ (t : Vat Name) (grown : (w : World) (r : Vat Name) → slice_get w.vats b ≡ Some r → Grown script honest w b Opened t) (moves : MovesNone K Opened t) where
    abbrev X : World
    X = middle x b head s

    abbrev Y : World
    Y = middle x b head t

    -- ---- it was opened, or settled

    pub idle_tale : ((y : Value Name) × (standing_of K s.known G ≡ Settled y)) ⊎ (opened_there G s.gifts ≡ true) → Tale script honest X Y
    idle_tale idle = then_on (growing_is_small script honest x b head s Opened (flag_grown script honest x b s a i entry kept named idle) open_moves)
        (then_on (growing_is_small script honest x b head Opened t (grown x h.vat h.there) moves) over)

    -- ---- it was not

    module _ (shut : IsShut K s a i G) (flagged : opened_there G t.gifts ≡ true) (there : (m : Name) → (WaysAmid script honest (steps.Bare script honest x a b (Open i n) h) b t).onward (Held b G) m ≡ leads_in script honest b s (Ref n)) where
      abbrev Bare : World
      Bare = steps.Bare script honest x a b (Open i n) h

      -- no message moves
      still : IsStill script honest X Y
      still = still_then script honest X (middle x b head Opened) Y (moves_still script honest x b head s Opened open_moves) (moves_still script honest x b head Opened t moves)

      leading : (u : ℕ) (z : Value Name) → leads script honest Y.vats Y.links u z ≡ leads script honest X.vats X.links u z
      unfolding amid leads
      leading u z = (grown x h.vat h.there).leading u z ∙ leads_same script honest b s Opened (λ v. opened.leads_still script honest b s (with_opened a i s.gifts) v) x.vats x.links u z

      -- order is kept as the note leaves, and no way changes as it stands there yet
      keep : (c : Place) → StaysBehind (ways script honest X) (ways script honest Y) c c
      unfolding ways amid
      keep c = behind_then (ways script honest X) (ways script honest (middle Bare b head t)) (ways script honest Y) c c c
          (opens_keep script honest x a b i n h s (bare_way script honest x a b i n h sender receiver) shut place t (grown Bare h.vat h.there) there c)
          (growing_keeps (ways script honest (middle Bare b head t)) (ways script honest Y) (back script honest x a b i n h t flagged head) c)

      rests : Rests script honest X Y
      rests = rests_by script honest X Y still (λ u m. inl (leading u (Ref m)))
          (λ u m c j. subst (λ p. Ahead (ways script honest Y) c p) (sym (leading u (Ref m))) ((keep (leads script honest X.vats X.links u (Ref m))).1 c j))
          (λ l c m z j. (keep (Mid l c m)).1 z j)

      shut_tale : Tale script honest X Y
      shut_tale = then_on (resting script honest X Y rests) over

    pub opens_tale : standing_of K s.known G ≡ Unsettled → opened_there G t.gifts ≡ true → ((m : Name) → (WaysAmid script honest (steps.Bare script honest x a b (Open i n) h) b t).onward (Held b G) m ≡ leads_in script honest b s (Ref n)) → Tale script honest X Y
    opens_tale waits flagged there = go (opened_there G s.gifts) refl
      where
        go : (c : Bool) → opened_there G s.gifts ≡ c → Tale script honest X Y
        go true e = idle_tale (inr e)
        go false e = shut_tale (record { entry = entry; found = kept; name = named; waits = waits; unopened = e }) flagged there
