-- A gift that stands at its host is found by its provider and key.
use Rattle.std.proofs.Common.{◌≡◌, ℕ, Bool, true, false, List, [], ◌∷◌, Option, Some, None, sym, ap, ◌∙◌, inl, inr, ◌==◌}
use Rattle.std.proofs.lemmas.Bool.{eq-eqb}
use Rattle.def_machine.specs.Values.{Name, word_of}
use Rattle.def_machine.specs.State.{GiftEntry, is_gift}
use Rattle.def_machine.specs.Arrive.{gift_at}
use Rattle.law_fate.specs.Fates.Lasting.{Each}
use Rattle.law_reference.specs.Reference.GiftPassing.{IsProvided}
use Rattle.law_reference.specs.Reference.Standing.{IsEntered}

found_or : (b : Bool) (g : GiftEntry Name) (o : Option (GiftEntry Name)) → b ≡ true → ◌≡◌ {A = Option (GiftEntry Name)} (elim b [ true ↦ Some g | false ↦ o ]) None → ⊥
found_or true g o e f = cc
found_or false g o e f = cc

later_or : (b : Bool) (g : GiftEntry Name) (o : Option (GiftEntry Name)) → ◌≡◌ {A = Option (GiftEntry Name)} (elim b [ true ↦ Some g | false ↦ o ]) None → o ≡ None
later_or true g o f = cc
later_or false g o f = f

there_or : (b c : Bool) → b ≡ true → c ≡ true → elim b [ true ↦ c | false ↦ false ] ≡ true
there_or true c e f = f
there_or false c e f = e

is_there : (p j : ℕ) (g : GiftEntry Name) → g.provider ≡ p → g.number ≡ j → is_gift p j g ≡ true
unfolding is_gift
is_there p j g e f = there_or (g.provider == p) (g.number == j) (eq-eqb g.provider p e) (eq-eqb g.number j f)

pub entered_found : (P : ℕ → ℕ) (d : List ℕ) (p j : ℕ) (gs : List (GiftEntry Name)) → Each (IsProvided P d) gs → IsEntered j gs → P (word_of j) ≡ p → gift_at p j gs ≡ None → ⊥
unfolding gift_at
entered_found P d p j [] h e f g = e
entered_found P d p j (x ∷ gs) h (inl e) f g = let told = h.0 in found_or (is_gift p j x) x (gift_at p j gs) (is_there p j x (sym told.1 ∙ ap (λ (n : ℕ). P (word_of n)) e ∙ f) e) g
entered_found P d p j (x ∷ gs) h (inr e) f g = entered_found P d p j gs h.1 e f (later_or (is_gift p j x) x (gift_at p j gs) g)
