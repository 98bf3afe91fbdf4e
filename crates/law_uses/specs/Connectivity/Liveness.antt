-- Which ejectors and auditions are live.
use Rattle.std.specs.Prelude.{◌≡◌, ℕ, zero, suc, Bool, true, false, List, [], ◌∷◌}
use Rattle.def_machine.specs.Values.{Name, Naming, naming, numbering}
use Rattle.def_machine.specs.State.{Thing, Made, Ejector, Audition, Resolver, Vat, Done, Gives, Throws, Ejects, Stops}
use Rattle.law_machine.specs.Machine.Steps.{Step, does}

unfoldable pub is_live : {N : Type 0} → Thing N → Bool
is_live (Made node caught stamps) = false
is_live (Ejector live) = live
is_live (Audition live view) = live
is_live (Resolver p) = false

-- whether what bears that number is live
unfoldable pub live_at : {N : Type 0} → List (Thing N) → ℕ → Bool
live_at [] i = false
live_at (t ∷ ts) zero = is_live t
live_at (t ∷ ts) (suc i) = live_at ts i

-- what is live then was live before
abbrev pub WasLive : {N : Type 0} → Vat N → Vat N → Type 0
WasLive s t = (i : ℕ) → live_at t.things i ≡ true → live_at s.things i ≡ true

-- where what was done did not stop
abbrev pub LeavesDead : {N A : Type 0} → Vat N → Done N A → Type 0
LeavesDead s (Gives a t) = WasLive s t
LeavesDead s (Throws p t) = WasLive s t
LeavesDead s (Ejects n v t) = WasLive s t
LeavesDead s (Stops c t) = Unit {0}

abbrev pub StepsLeaveDead : {N W : Type 0} → Naming N W → Type 0
StepsLeaveDead {N} {W} K = (step : Step N W) (s : Vat N) → LeavesDead s (does K step s)

-- under global names and under local numbers
abbrev pub WhatIsMadeDies : Type 0
WhatIsMadeDies = ((word : ℕ → ℕ) (v : ℕ) → StepsLeaveDead (naming word v)) × ((word : ℕ → ℕ) → StepsLeaveDead (numbering {W = Name} word))
