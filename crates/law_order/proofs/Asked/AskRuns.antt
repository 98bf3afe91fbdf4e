-- A gift that is asked for and does not stand at its host is not known there.
use Rattle.std.proofs.Common.{◌≡◌, ℕ, zero, Bool, true, false, List, [], ◌∷◌, Option, Some, None, refl, sym, ap, subst, ◌∙◌, ◌⊎◌, inl, inr, ◌==◌}
use Rattle.std.proofs.lemmas.Bool.{eqb-true, eq-eqb}
use Rattle.def_machine.specs.Values.{Name, Gift, naming, word_of}
use Rattle.def_machine.specs.State.{Ask, GiftEntry, is_gift}
use Rattle.def_machine.specs.Refs.{entry_of}
use Rattle.def_machine.specs.Arrive.{gift_at}
use Rattle.def_run.specs.Draws.{draw_word}
use Rattle.def_run.specs.World.{Script, Entry, World, Goes, begins, open_from, steps_from, names}
use Rattle.law_fate.specs.Fates.Lasting.{Each}
use Rattle.law_fate.specs.Name.Names.{IsAmong, names_in}
use Rattle.law_fate.specs.Name.Runs.{KnowsOnce}
use Rattle.law_reference.specs.Reference.Cuts.{NoticesFollowCuts}
use Rattle.law_reference.specs.Reference.GiftPassing.{Provides, IsProvided, HasProviders}
use Rattle.law_reference.specs.Reference.Standing.{IsEntered}
use Rattle.law_reference.proofs.Reference.ApartWhole.{own_stand}
use Rattle.law_reference.proofs.Reference.GiftLaws.{one_provider}
use Rattle.law_reference.proofs.Reference.GiftLinks.{found_tells}
use Rattle.law_reference.proofs.Reference.First.{among_dec}
use Rattle.law_reference.proofs.Reference.Told.{unknown}
use Rattle.law_order.proofs.Runs.Beginnings.{reached_is}
use Rattle.law_order.specs.Asks.Asks.{Bears}
use Rattle.law_order.specs.Asked.Asked.{AskedForAreNew}

-- ---- the gift that is found

pub found_among : (p i : ℕ) (gs : List (GiftEntry Name)) (g : GiftEntry Name) → gift_at p i gs ≡ Some g → IsAmong g gs × (g.number ≡ i)
unfolding gift_at is_gift
found_among p i [] g e = cc
found_among p i (h ∷ gs) g e = go (λ q. found_among p i gs g q) (h.provider == p) (h.number == i) refl e
  where
    same : Some h ≡ Some g → h ≡ g
    same q = cc

    go : (gift_at p i gs ≡ Some g → IsAmong g gs × (g.number ≡ i)) → (b c : Bool) → (h.number == i) ≡ c → ◌≡◌ {A = Option (GiftEntry Name)} (elim (elim b as (λ q. Bool) [ true ↦ c | false ↦ false ]) [ true ↦ Some h | false ↦ gift_at p i gs ]) (Some g) → IsAmong g (h ∷ gs) × (g.number ≡ i)
    go later true true k q = (inl (sym (same q)), subst (λ (z : GiftEntry Name). z.number ≡ i) (same q) (eqb-true h.number i k))
    go later true false k q = let r = later q in (inr r.0, r.1)
    go later false c k q = let r = later q in (inr r.0, r.1)

-- one that stands under the key is found by its provider
entered_found : (P : ℕ → ℕ) (d : List ℕ) (p i : ℕ) (gs : List (GiftEntry Name)) → Each (IsProvided P d) gs → P (word_of i) ≡ p → IsEntered i gs → gift_at p i gs ≡ None → ⊥
unfolding gift_at is_gift
entered_found P d p i [] h e a f = a
entered_found P d p i (g ∷ gs) h e a f = go (λ b q. entered_found P d p i gs h.1 e b q) a
  where
    none_some : ◌≡◌ {A = Option (GiftEntry Name)} (Some g) None → ⊥
    none_some q = cc

    is : g.number ≡ i → is_gift p i g ≡ true
    is j = let own : g.provider ≡ p = sym h.0.1 ∙ ap (λ z. P (word_of z)) j ∙ e in subst (λ c. elim c [ true ↦ g.number == i | false ↦ false ] ≡ true) (sym (eq-eqb g.provider p own)) (eq-eqb g.number i j)

    rest : (c : Bool) → ◌≡◌ {A = Option (GiftEntry Name)} (elim c [ true ↦ Some g | false ↦ gift_at p i gs ]) None → (gift_at p i gs ≡ None → ⊥) → ⊥
    rest true q later = none_some q
    rest false q later = later q

    go : (IsEntered i gs → gift_at p i gs ≡ None → ⊥) → (g.number ≡ i) ⊎ IsEntered i gs → ⊥
    go later (inl j) = none_some (subst (λ c. ◌≡◌ {A = Option (GiftEntry Name)} (elim c [ true ↦ Some g | false ↦ gift_at p i gs ]) None) (is j) f)
    go later (inr b) = rest (is_gift p i g) f (later b)

module _ (script : Script) (knows : KnowsOnce script) (w x : World) (es : List Entry) (k : ℕ) (cuts : NoticesFollowCuts es) (o : open_from script zero script.vats (begins script) ≡ Goes w) (e : steps_from script es k w ≡ Goes x)
    (a b p i : ℕ) (n : Name) (h : Bears x a b (Ask p i n)) where
  providers : HasProviders x
  providers = reached_is HasProviders (steps_from script es k w) x e ((one_provider script).1 w es k o)

  provider : providers.0 (word_of i) ≡ p
  provider = (head (found_tells providers.0 x.drawn a b h.link x.links providers.1 h.found)).1
    where
      head : Each (Provides providers.0 x.drawn a b) h.link.notes → Provides providers.0 x.drawn a b (Ask p i n)
      head q = let one : Each (Provides providers.0 x.drawn a b) (Ask p i n ∷ h.rest) = subst (λ ms. Each (Provides providers.0 x.drawn a b) ms) h.first q in one.0

  none_known : gift_at p i h.vat.gifts ≡ None → IsAmong (Gift b i) (names_in h.vat.known) ⊎ (IsAmong (Gift b i) (names_in h.vat.known) → ⊥) → entry_of (names script b) h.vat.known (Gift b i) ≡ None
  unfolding names naming
  none_known f (inl c) = absurd (entered_found providers.0 x.drawn p i h.vat.gifts (providers.2 b h.vat h.there) provider ((own_stand script knows).1 w x es k cuts o e b i h.vat h.there c) f)
  none_known f (inr c) = unknown (draw_word script.key) b h.vat.known (Gift b i) c

pub asked_for_are_new : AskedForAreNew
asked_for_are_new script knows w x es k a b p i n cuts o e h f = none_known script knows w x es k cuts o e a b p i n h f (among_dec (Gift b i) (names_in h.vat.known))
