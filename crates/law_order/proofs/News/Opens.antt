-- A note that opens a gift arrives: what waited for the gift goes where the note's name leads.
use Rattle.std.proofs.Common.{◌≡◌, ℕ, Bool, true, false, [], refl, sym, ap, subst, ◌∙◌, ◌⊎◌, inl, inr}
use Rattle.def_machine.specs.Values.{Ref, Name, Gift}
use Rattle.def_machine.specs.State.{Note, Open, Vat, with_opened}
use Rattle.def_run.specs.World as world
use Rattle.def_run.specs.World.{Script, Link, World, names}
use Rattle.law_order.specs.Ordering.Ways.{Lane, Held, Way, IsOneWay, Place, Free, Mid, Ways}
use Rattle.law_order.specs.Ordering.Changes.{Grows}
use Rattle.law_order.specs.Ordering.Messages.{StaysBehind}
use Rattle.law_order.specs.Ordering.Turns.{stays_so, IsTurned}
use Rattle.law_order.specs.Ordering.Places.{gift_place, leads_in, ways, amid}
use Rattle.law_order.specs.Ordering.Settle.{led_to, onward_to}
use Rattle.law_order.specs.Ordering.Steps.{Grown}
use Rattle.law_order.specs.Ordering.Arrivals.{IsOpenWay, IsShut, IsLedTo}
use Rattle.law_order.proofs.Ordering.Arrived.{kept_there}
use Rattle.law_order.proofs.Ordering.Changes.{growing_keeps}
use Rattle.law_order.proofs.Ordering.Messages.{behind_then}
use Rattle.law_order.proofs.Ordering.Named.{Test, test_self, test_is}
use Rattle.law_order.proofs.Ordering.Opened.{opened_gifts_turn}
use Rattle.law_order.proofs.Ordering.Turned.{turning_keeps}
use Rattle.law_order.specs.Asks.Asks.{Bears}
use Rattle.law_order.proofs.Asks.Steps as steps

-- the link is open without the note
module _ (script : Script) (honest : ℕ → Bool) (x : World) (a b i : ℕ) (n : Name) (h : Bears x a b (Open i n)) where
  ends_kept : (l : Link) → world.is_link a b (world.with_notes h.rest l) ≡ world.is_link a b l
  unfolding world.is_link world.with_notes
  ends_kept l = refl

  cut_kept : (l : Link) → (world.with_notes h.rest l).cut ≡ l.cut
  unfolding world.with_notes
  cut_kept l = refl

  pub bare_way : honest a ≡ true → honest b ≡ true → IsOpenWay honest a b (steps.Bare script honest x a b (Open i n) h)
  bare_way sender receiver = let p = kept_there (world.with_notes h.rest) false a b a b ends_kept cut_kept x.links (h.link, h.found, h.uncut) in record { link = p.0; found = p.1; uncut = p.2; sender = sender; receiver = receiver }

module _ (script : Script) (honest : ℕ → Bool) (x : World) (a b i : ℕ) (n : Name) (h : Bears x a b (Open i n)) (s : Vat Name) where
  abbrev pub G : Name
  G = Gift b i

  abbrev Opens : Note Name
  Opens = Open i n

  abbrev Bare : World
  Bare = steps.Bare script honest x a b Opens h

  -- the vat once the gift counts as opened
  abbrev pub Opened : Vat Name
  Opened = record s { gifts = with_opened a i s.gifts }

  abbrev From : Ways
  From = steps.With script honest x a b Opens h s

  abbrev To : Ways
  To = steps.End script honest x a b Opens h Opened

  -- where the note's name leads
  abbrev pub There : Place
  There = leads_in script honest b s (Ref n)

  abbrev Led : Ways
  Led = led_to To b G There

  led_there : (m : Name) → Led.onward (Held b G) m ≡ There
  unfolding led_to onward_to
  led_there m = ap (λ c. elim c [ true ↦ There | false ↦ To.onward (Held b G) m ]) (test_self b G)

  held_same : (u : ℕ) (q : Name) → u ≡ b → q ≡ G → Held u q ≡ Held b G
  held_same u q e f = ap (λ z. Held z q) e ∙ ap (λ z. Held b z) f

  held_other : (u : ℕ) (q m : Name) → (Led.onward (Held u q) m ≡ To.onward (Held u q) m) ⊎ (Held u q ≡ Held b G)
  unfolding led_to onward_to
  held_other u q m = go (Test b G u q) refl
    where
      go : (c : Bool) → Test b G u q ≡ c → (elim c [ true ↦ There | false ↦ To.onward (Held u q) m ] ≡ To.onward (Held u q) m) ⊎ (Held u q ≡ Held b G)
      go true e = let k = test_is b G u q e in inr (held_same u q k.0 k.1)
      go false e = inl refl

  others : (l : Lane) (m : Name) → (Led.onward l m ≡ To.onward l m) ⊎ (l ≡ Held b G)
  unfolding led_to onward_to
  others (Held u q) m = held_other u q m
  others other m = inl refl

  is_led : IsLedTo To Led b G There
  unfolding led_to
  is_led = record { stands = λ l j k. k; there = led_there; others = others }

  module _ (way : IsOpenWay honest a b Bare) (shut : IsShut (names script b) s a i G) (place : gift_place script honest b i (amid b s x).links ≡ Mid (Way a b) [] n) where
    turned : IsTurned From Led
    turned = subst (λ z. gift_place script honest b i (amid b s z).links ≡ Mid (Way a b) [] n → IsTurned (ways script honest (amid b s z)) Led) (steps.same script honest x a b Opens h)
        (λ p. opened_gifts_turn script honest Bare a b h.vat s i n h.there way shut p Led is_led) place

    -- the vat comes to t, where the gift leads there, and else the ways only grow
    module _ (t : Vat Name) (grown : Grown script honest Bare b Opened t) (leads_there : (m : Name) → (steps.End script honest x a b Opens h t).onward (Held b G) m ≡ There) where
      abbrev Then : Ways
      Then = steps.End script honest x a b Opens h t

      onward_by : (l : Lane) (m : Name) → (Led.onward l m ≡ To.onward l m) ⊎ (l ≡ Held b G) → (Then.onward l m ≡ Led.onward l m) ⊎ (IsOneWay l × (Led.onward l m ≡ Free))
      onward_by l m (inl e) = go (grown.grows.onward l m)
        where
          go : (Then.onward l m ≡ To.onward l m) ⊎ (IsOneWay l × (To.onward l m ≡ Free)) → (Then.onward l m ≡ Led.onward l m) ⊎ (IsOneWay l × (Led.onward l m ≡ Free))
          go (inl f) = inl (f ∙ sym e)
          go (inr f) = inr (f.0, e ∙ f.1)
      onward_by l m (inr e) = inl (ap (λ k. Then.onward k m) e ∙ leads_there m ∙ sym (ap (λ k. Led.onward k m) e ∙ led_there m))

      grows : Grows Led Then
      unfolding led_to
      grows = record { stands = grown.grows.stands; onward = λ l m. onward_by l m (others l m) }

      pub opens_keep : (c : Place) → StaysBehind From Then c c
      opens_keep c = behind_then From Led Then c c c (turning_keeps From Led turned c c stays_so) (growing_keeps Led Then grows c)
