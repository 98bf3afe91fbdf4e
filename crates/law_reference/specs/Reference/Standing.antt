-- Gifts at their host.
use Rattle.std.specs.Prelude.{◌≡◌, ℕ, List, [], ◌∷◌, ◌⊎◌, Some, slice_get}
use Rattle.def_machine.specs.Values.{Name, Naming, word_of}
use Rattle.def_machine.specs.State.{GiftEntry, Vat, Done, Gives, Throws, Ejects, Stops, Open, Ask}
use Rattle.def_machine.specs.Arrive.{Incoming, arrive}
use Rattle.law_machine.specs.Machine.Steps.{KeptBySteps}
use Rattle.law_fate.specs.Fates.FateRuns.{InRuns}

-- a gift of that provider and draw is among them
abbrev pub Stands : ℕ → ℕ → List (GiftEntry Name) → Type 0
Stands p i [] = ⊥
Stands p i (g ∷ gs) = ((g.provider ≡ p) × (g.number ≡ i)) ⊎ Stands p i gs

-- A gift that stands at a vat stands there after every step, whatever the names are and however the step ends.
abbrev pub GiftsStay : Type 0
GiftsStay = KeptBySteps {N = Name} {W = Name} (λ K s t. (p i : ℕ) → Stands p i s.gifts → Stands p i t.gifts)

-- of the gifts at the vat, where what it does gives
abbrev pub ThenStands : ℕ → ℕ → Done Name (Unit {0}) → Type 0
ThenStands p i (Gives a t) = Stands p i t.gifts
ThenStands p i (Throws x t) = Unit {0}
ThenStands p i (Ejects n v t) = Unit {0}
ThenStands p i (Stops c t) = Unit {0}

-- So does a gift once it was opened by its provider, and once it was asked for.
abbrev pub WhatIsOpenedOrAskedForStands : Type 0
WhatIsOpenedOrAskedForStands = (K : Naming Name Name) (from p i : ℕ) (x : Incoming Name Name) (s : Vat Name)
    → ThenStands from i (arrive K from (Open i x) s) × ThenStands p i (arrive K from (Ask p i x) s)

-- a gift under that key stands at its host
abbrev pub IsEntered : ℕ → List (GiftEntry Name) → Type 0
IsEntered i [] = ⊥
IsEntered i (g ∷ gs) = (g.number ≡ i) ⊎ IsEntered i gs

-- no two of them are under one key
abbrev pub DrawsDiffer : List (GiftEntry Name) → Type 0
DrawsDiffer [] = Unit {0}
DrawsDiffer (g ∷ gs) = (IsEntered g.number gs → ⊥) × DrawsDiffer gs

-- a gift under that word stands there
abbrev pub HasWord : ℕ → List (GiftEntry Name) → Type 0
HasWord x [] = ⊥
HasWord x (g ∷ gs) = (word_of g.number ≡ x) ⊎ HasWord x gs

-- no two of them are under one word
abbrev pub WordsDiffer : List (GiftEntry Name) → Type 0
WordsDiffer [] = Unit {0}
WordsDiffer (g ∷ gs) = (HasWord (word_of g.number) gs → ⊥) × WordsDiffer gs

-- No two gifts at a vat are of one draw, in every world of every run.
abbrev pub EachDrawStandsOnce : Type 0
EachDrawStandsOnce = InRuns (λ w. (v : ℕ) (s : Vat Name) → slice_get w.vats v ≡ Some s → WordsDiffer s.gifts)
