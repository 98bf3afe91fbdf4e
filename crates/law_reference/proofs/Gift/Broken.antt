-- What was not opened at the notice of its provider is broken in every later world.
use Rattle.std.proofs.Common.{◌≡◌, ℕ, zero, suc, true, false, Bool, List, [], ◌∷◌, Option, Some, refl, sym, ap, subst, ◌∙◌, ◌⊎◌, inl, inr}
use Rattle.std.specs.Prelude.{slice_get}
use Rattle.def_machine.specs.Values.{Name, Gift, Naming, naming}
use Rattle.def_machine.specs.State.{GiftEntry, Known, Standing, Unsettled, Vat}
use Rattle.def_machine.specs.Refs.{entry_of, standing_of, standing_in}
use Rattle.def_run.specs.Draws.{draw_word}
use Rattle.def_run.specs.World.{NoticeLink, names}
use Rattle.law_machine.specs.Machine.Laws.{SettledStays}
use Rattle.law_machine.specs.Machine.Breaks.{still_waits, IsBroken}
use Rattle.law_machine.proofs.Run.RunLaws.{settlings_run}
use Rattle.law_fate.specs.Name.Names.{AllOf, IsAmong, Everywhere, GiftOk, IsHad, IsKnownIn, names_in}
use Rattle.law_fate.proofs.Name.Laws.{names_known}
use Rattle.law_fate.proofs.Name.SameNames.{reference_self}
use Rattle.law_reference.specs.Gift.Gifts.{StaysBroken}
use Rattle.law_reference.proofs.Gift.BrokenForGood.{still_broken, broken_for_good}
use Rattle.law_reference.specs.Reference.ListRingless.{IsNamed}
use Rattle.law_reference.specs.Gift.Unopened.{UnopenedRest, UnopenedGiftsBreak}
use Rattle.law_reference.proofs.Gift.Runs.{all_named, rests_in_runs, stepped_well}

gift_known : (ns ms : List Name) (gs : List (GiftEntry Name)) (i : ℕ) (g : GiftEntry Name) → AllOf (GiftOk (IsHad ns ms)) gs → slice_get gs i ≡ Some g → IsKnownIn ns g.name
gift_known ns ms [] i g h e = cc
gift_known ns ms (f ∷ gs) zero g h e = let same : f ≡ g = cc in subst (λ z. IsKnownIn ns z.name) same h.0.0
gift_known ns ms (f ∷ gs) (suc i) g h e = gift_known ns ms gs i g h.1 e

module _ (word : ℕ → ℕ) (v : ℕ) where
  abbrev K : Naming Name Name
  K = naming word v

  entry_head : (b : Bool) (k : Known Name) (n : Name) (ks : List (Known Name)) (o : Option (Known Name)) → K.same k.name n ≡ b → K.same n n ≡ true → (n ≡ k.name) ⊎ IsAmong n (names_in ks) → (IsAmong n (names_in ks) → (j : Known Name) × (o ≡ Some j))
      → (j : Known Name) × ◌≡◌ {A = Option (Known Name)} (elim b [ true ↦ Some k | false ↦ o ]) (Some j)
  entry_head true k n ks o e self h f = (k, refl)
  entry_head false k n ks o e self (inl h) f = absurd (no_true (sym e ∙ (ap (λ m. K.same m n) (sym h) ∙ self)))
    where
      no_true : false ≡ true → ⊥
      no_true i = cc
  entry_head false k n ks o e self (inr h) f = f h

  -- what is known has an entry
  entry_there : (ks : List (Known Name)) (n : Name) → K.same n n ≡ true → IsAmong n (names_in ks) → (k : Known Name) × (entry_of K ks n ≡ Some k)
  unfolding entry_of
  entry_there [] n self h = absurd h
  entry_there (k ∷ ks) n self h = entry_head (K.same k.name n) k n ks (entry_of K ks n) refl self h (λ i. entry_there ks n self i)

  waits_so : (t : Standing Name) → t ≡ Unsettled → still_waits t ≡ true
  unfolding still_waits
  waits_so t e = rw e refl

  module _ (w : ℕ) (s t : Vat Name) (gifts : (i : ℕ) (g : GiftEntry Name) (k : Known Name) → slice_get s.gifts i ≡ Some g → g.provider ≡ w → g.opened ≡ false → entry_of K s.known g.name ≡ Some k → still_waits k.standing ≡ true → IsBroken K t g.name) where
    gift_breaks : (i : ℕ) (g : GiftEntry Name) → slice_get s.gifts i ≡ Some g → IsNamed v g → IsKnownIn (names_in s.known) g.name → g.provider ≡ w → g.opened ≡ false → standing_of K s.known g.name ≡ Unsettled → IsBroken K t g.name
    unfolding standing_of standing_in naming
    gift_breaks i g at named known p o e = let found = entry_there s.known g.name (subst (λ n. K.same n n ≡ true) (sym named) (reference_self (Gift v g.number) tt)) (subst (λ n. IsAmong n (names_in s.known)) (sym named) (subst (IsKnownIn (names_in s.known)) named known)) in
        gifts i g found.0 at p o found.1 (waits_so found.0.standing (sym (ap standing_in found.1) ∙ e))

vat_is : {s t : Vat Name} {o : Option (Vat Name)} → o ≡ Some s → o ≡ Some t → s ≡ t
vat_is e i = cc

pub breaks_for_good : UnopenedGiftsBreak
unfolding names
breaks_for_good script once opened first later es fs j k v w e i goes s here near =
    let rest : UnopenedRest script v s = (rests_in_runs script once).1 opened first es j e i v s here in
    let had : Everywhere (IsHad (names_in s.known) s.mails) s = (names_known script once).1 opened first es j e i v s here in
    let well = stepped_well script once opened first es j e i v s here in
    let good = broken_for_good script v w fs k first later goes s here near in
    let stay = settlings_run script (NoticeLink v w ∷ fs) k first later goes v s here in
    let kept : SettledStays (names script v) s good.0 = subst (λ z. SettledStays (names script v) s z) (vat_is stay.1 good.1) stay.2 in
    (good.0, good.1, λ n g at p o. each s good.0 n g at p o (all_named v s.gifts n g well.3 at) (gift_known (names_in s.known) s.mails s.gifts n g had.gifts at) good.2 kept (rest n g at o))
  where
    each : (s t : Vat Name) (n : ℕ) (g : GiftEntry Name) → slice_get s.gifts n ≡ Some g → g.provider ≡ w → g.opened ≡ false → IsNamed v g → IsKnownIn (names_in s.known) g.name → StaysBroken script v w s t → SettledStays (names script v) s t
        → (standing_of (names script v) s.known g.name ≡ Unsettled) ⊎ IsBroken (names script v) s g.name → IsBroken (names script v) t g.name
    each s t n g at p o named known broken kept (inl u) = gift_breaks (draw_word script.key) v w s t broken.gifts n g at named known p o u
    each s t n g at p o named known broken kept (inr b) = still_broken (names script v) g.name s t kept b
