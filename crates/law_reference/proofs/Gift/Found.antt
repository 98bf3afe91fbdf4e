-- What is known of the name of a gift that was not opened.
use Rattle.std.proofs.Common.{◌≡◌, ℕ, zero, suc, Bool, true, false, List, [], ◌∷◌, Option, Some, None, refl, sym, subst, ap, ◌∙◌, ◌⊎◌, inl, inr}
use Rattle.std.specs.Prelude.{slice_get}
use Rattle.def_machine.specs.Values.{Value, Broken, Name, Gift, Naming, naming, word_of}
use Rattle.def_machine.specs.State.{Message, Standing, Unsettled, Settled, Known, GiftEntry, Vat}
use Rattle.def_machine.specs.Refs.{entry_of, standing_of, standing_in}
use Rattle.law_machine.specs.Machine.Breaks.{IsBroken}
use Rattle.law_fate.specs.Name.Names.{AllOf}
use Rattle.law_fate.proofs.Name.Facts.{all_map}
use Rattle.law_reference.specs.Gift.Gifts.{SameGifts}
use Rattle.law_reference.specs.Reference.ListRingless.{IsNamed}
use Rattle.law_reference.specs.Reference.Standing.{HasWord, WordsDiffer}
use Rattle.law_reference.proofs.Reference.Kept.{is}
use Rattle.law_reference.proofs.Reference.OwnTurns.{where_map}
use Rattle.law_reference.proofs.Gift.Kept.{settling, IsBreak, IsCalm, MayAnswer, Entry, Kept}
use Rattle.law_reference.proofs.Gift.Opened.{IsOpenedBy, opened_later}

-- Names that may settle at vat v, whose gifts are those: all but its own gifts that were not opened.
abbrev pub MaySettle : ℕ → List (GiftEntry Name) → Name → Type 0
MaySettle v gs (Gift h i) = h ≡ v → (p : ℕ) × IsOpenedBy p i gs
MaySettle v gs other = Unit {0}

pub may_later : (v : ℕ) (s t : Vat Name) → SameGifts s t → (n : Name) → MaySettle v s.gifts n → MaySettle v t.gifts n
may_later v s t same (Gift h i) f = λ e. let x = f e in (x.0, opened_later x.0 i s t same x.1)
may_later v s t same other f = tt

-- ---- where more may settle

module _ (word : ℕ → ℕ) (v : ℕ) (M O : Name → Type 0) (more : (n : Name) → M n → O n) where
  answer_more : (m : Message Name) → MayAnswer word v (settling word v M) m → MayAnswer word v (settling word v O) m
  answer_more m h = where_map M O more m.answer h

  entry_more : (k : Known Name) → Entry word v (settling word v M) k → Entry word v (settling word v O) k
  entry_more k h = (pick h.0, all_map answer_more k.held h.1, all_map more k.waiting h.2, all_map answer_more k.reactions h.3)
    where
      pick : IsCalm k.standing ⊎ M k.name → IsCalm k.standing ⊎ O k.name
      pick (inl i) = inl i
      pick (inr i) = inr (more k.name i)

  pub kept_more : (s : Vat Name) → Kept word v (settling word v M) s → Kept word v (settling word v O) s
  kept_more s h = (h.0, all_map entry_more s.known h.1, all_map answer_more s.queue h.2, h.3)

-- ---- gifts by their keys

head_is : (g h : GiftEntry Name) → Some g ≡ Some h → g ≡ h
head_is g h e = cc

none_there : (g : GiftEntry Name) → ◌≡◌ {A = Option (GiftEntry Name)} None (Some g) → ⊥
none_there g e = cc

has_word : (gs : List (GiftEntry Name)) (i : ℕ) (g : GiftEntry Name) → slice_get gs i ≡ Some g → HasWord (word_of g.number) gs
has_word [] i g e = absurd (none_there g e)
has_word (f ∷ gs) zero g e = inl (ap (λ (z : GiftEntry Name). word_of z.number) (head_is f g e))
has_word (f ∷ gs) (suc i) g e = inr (has_word gs i g e)

-- no two gifts are under one key
one_key : (gs : List (GiftEntry Name)) (i j : ℕ) (g h : GiftEntry Name) → WordsDiffer gs → slice_get gs i ≡ Some g → slice_get gs j ≡ Some h → h.number ≡ g.number → h ≡ g
one_key [] i j g h d e f n = absurd (none_there g e)
one_key (k ∷ gs) zero zero g h d e f n = sym (head_is k h f) ∙ head_is k g e
one_key (k ∷ gs) zero (suc j) g h d e f n = absurd (d.0 (subst (λ x. HasWord x gs) (ap word_of (n ∙ ap (λ (z : GiftEntry Name). z.number) (sym (head_is k g e)))) (has_word gs j h f)))
one_key (k ∷ gs) (suc i) zero g h d e f n = absurd (d.0 (subst (λ x. HasWord x gs) (ap word_of (sym n ∙ ap (λ (z : GiftEntry Name). z.number) (sym (head_is k h f)))) (has_word gs i g e)))
one_key (k ∷ gs) (suc i) (suc j) g h d e f n = one_key gs i j g h d.1 e f n

-- what is not opened is not opened by anybody
none_opened : (gs : List (GiftEntry Name)) (i p : ℕ) (g : GiftEntry Name) → WordsDiffer gs → slice_get gs i ≡ Some g → g.opened ≡ false → IsOpenedBy p g.number gs → ⊥
none_opened gs i p g d e o x = let same : x.1 ≡ g = one_key gs i x.0 g x.1 d e x.2 x.4 in not_both (sym x.5 ∙ (ap (λ (z : GiftEntry Name). z.opened) same ∙ o))
  where
    not_both : true ≡ false → ⊥
    not_both f = cc

-- ---- what is known of such a gift

module _ (word : ℕ → ℕ) (v : ℕ) where
  abbrev K : Naming Name Name
  K = naming word v

  abbrev Calms : Name → Option (Known Name) → Type 0
  Calms n o = (standing_in o ≡ Unsettled) ⊎ ((p : List ℕ) × (standing_in o ≡ Settled (Broken p)))

  module _ (May : Name → Type 0) (n : Name) (cannot : May n → ⊥) where
    broken_so : (k : Known Name) (y : Value Name) → k.standing ≡ Settled y → IsBreak y → Calms n (Some k)
    unfolding standing_in
    broken_so k (Broken p) e h = inr (p, e)
    broken_so k _ e h = absurd h

    calm_so : (k : Known Name) (t : Standing Name) → k.standing ≡ t → IsCalm t → Calms n (Some k)
    unfolding standing_in
    calm_so k Unsettled e h = inl e
    calm_so k (Settled y) e h = broken_so k y e h
    calm_so k other e h = absurd h

    entry_so : (k : Known Name) → k.name ≡ n → IsCalm k.standing ⊎ May k.name → Calms n (Some k)
    entry_so k e (inl h) = calm_so k k.standing refl h
    entry_so k e (inr h) = absurd (cannot (subst May e h))

    calm_head : (b : Bool) (k : Known Name) (o : Option (Known Name)) → (b ≡ true → k.name ≡ n) → Entry word v (settling word v May) k → Calms n o → Calms n (elim b [ true ↦ Some k | false ↦ o ])
    calm_head true k o e h i = entry_so k (e refl) h.0
    calm_head false k o e h i = i

    pub calms : (ks : List (Known Name)) → AllOf (Entry word v (settling word v May)) ks → Calms n (entry_of K ks n)
    unfolding entry_of standing_in
    calms [] h = inl refl
    calms (k ∷ ks) h = calm_head (K.same k.name n) k (entry_of K ks n) (is word v k.name n) h.0 (calms ks h.1)

  pub unopened_rests : (s : Vat Name) (i : ℕ) (g : GiftEntry Name) → Kept word v (settling word v (MaySettle v s.gifts)) s → WordsDiffer s.gifts → slice_get s.gifts i ≡ Some g → IsNamed v g → g.opened ≡ false
      → (standing_of K s.known g.name ≡ Unsettled) ⊎ IsBroken K s g.name
  unfolding standing_of
  unopened_rests s i g h d e named o = calms (MaySettle v s.gifts) g.name (λ may. no_opening (subst (MaySettle v s.gifts) named may refl)) s.known h.1
    where
      no_opening : (p : ℕ) × IsOpenedBy p g.number s.gifts → ⊥
      no_opening x = none_opened s.gifts i x.0 g d e o x.1
