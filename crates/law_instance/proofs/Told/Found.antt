-- What may be so for less may be so for more; and what may not be told of is unsettled, and what may not be opened is not.
use Rattle.std.proofs.Common.{◌≡◌, ℕ, Bool, true, false, List, [], ◌∷◌, Option, Some, None, refl, subst, ◌⊎◌, inl, inr}
use Rattle.def_machine.specs.Values.{Name, Naming, naming}
use Rattle.def_machine.specs.State.{Message, Unsettled, Known, GiftEntry, Vat, WhereSome}
use Rattle.def_machine.specs.Arrive.{gift_at, opened_in}
use Rattle.def_machine.specs.Refs.{entry_of, standing_in}
use Rattle.law_fate.specs.Name.Names.{AllOf}
use Rattle.law_fate.proofs.Name.Facts.{all_map}
use Rattle.law_reference.proofs.Reference.Kept.{is}
use Rattle.law_reference.proofs.Reference.OwnTurns.{where_map}
use Rattle.law_instance.proofs.Told.Kept.{Rule, GiftKept, MayAnswer, Entry, Kept, found_opened}

module _ (word : ℕ → ℕ) (v : ℕ) (R O : Rule v) (may : (n : Name) → R.May n → O.May n) (opens : (p i : ℕ) → R.Opens p i → O.Opens p i) (out : (h : ℕ) → R.Out h → O.Out h) where
  answer_more : (m : Message Name) → MayAnswer word v R m → MayAnswer word v O m
  answer_more m h = where_map R.May O.May may m.answer h

  entry_more : (k : Known Name) → Entry word v R k → Entry word v O k
  entry_more k h = (pick h.0, all_map answer_more k.held h.1, all_map may k.waiting h.2, all_map answer_more k.reactions h.3)
    where
      pick : (k.standing ≡ Unsettled) ⊎ R.May k.name → (k.standing ≡ Unsettled) ⊎ O.May k.name
      pick (inl i) = inl i
      pick (inr i) = inr (may k.name i)

  gift_more : (g : GiftEntry Name) → GiftKept v R g → GiftKept v O g
  gift_more g h = (h.0, pick h.1)
    where
      pick : (g.opened ≡ false) ⊎ R.Opens g.provider g.number → (g.opened ≡ false) ⊎ O.Opens g.provider g.number
      pick (inl i) = inl i
      pick (inr i) = inr (opens g.provider g.number i)

  pub kept_more : (s : Vat Name) → Kept word v R s → Kept word v O s
  kept_more s h = let held = h.3 in (h.0, all_map entry_more s.known h.1, all_map answer_more s.queue h.2, record { gifts = all_map gift_more s.gifts held.gifts; noticed = all_map out s.noticed held.noticed })

module _ (word : ℕ → ℕ) (v : ℕ) (R : Rule v) where
  abbrev K : Naming Name Name
  K = naming word v

  module _ (n : Name) (cannot : R.May n → ⊥) where
    entry_so : (k : Known Name) → k.name ≡ n → (k.standing ≡ Unsettled) ⊎ R.May k.name → standing_in (Some k) ≡ Unsettled
    unfolding standing_in
    entry_so k e (inl h) = h
    entry_so k e (inr h) = absurd (cannot (subst R.May e h))

    head_so : (b : Bool) (k : Known Name) (o : Option (Known Name)) → (b ≡ true → k.name ≡ n) → Entry word v R k → standing_in o ≡ Unsettled → standing_in (elim b [ true ↦ Some k | false ↦ o ]) ≡ Unsettled
    head_so true k o e h i = entry_so k (e refl) h.0
    head_so false k o e h i = i

    pub unsettled : (ks : List (Known Name)) → AllOf (Entry word v R) ks → standing_in (entry_of K ks n) ≡ Unsettled
    unfolding entry_of standing_in
    unsettled [] h = refl
    unsettled (k ∷ ks) h = head_so (K.same k.name n) k (entry_of K ks n) (is word v k.name n) h.0 (unsettled ks h.1)

  shut_so : (o : Option (GiftEntry Name)) (p i : ℕ) → (R.Opens p i → ⊥) → WhereSome (λ f. (f.opened ≡ false) ⊎ R.Opens p i) o → opened_in o ≡ false
  unfolding opened_in
  shut_so None p i f h = refl
  shut_so (Some g) p i f (inl h) = h
  shut_so (Some g) p i f (inr h) = absurd (f h)

  pub unopened : (p i : ℕ) → (R.Opens p i → ⊥) → (gs : List (GiftEntry Name)) → AllOf (GiftKept v R) gs → opened_in (gift_at p i gs) ≡ false
  unopened p i f gs h = shut_so (gift_at p i gs) p i f (found_opened v R p i gs h)
