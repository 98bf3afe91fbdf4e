-- That each activation is begun once: a step numbers them upwards from the vat's count.
use Rattle.std.specs.Prelude.{◌≡◌, ℕ, suc, ◌≤◌, List, [], ◌∷◌, Option, Some, None, map}
use Rattle.def_machine.specs.Values.{Name, Naming, naming, numbering}
use Rattle.def_machine.specs.State.{Vat, Happened, Took, Called}
use Rattle.law_machine.specs.Machine.Steps.{Step, does, After}

-- the activation that begins with a line
unfoldable pub begun_by : {N : Type 0} → Happened N → Option ℕ
begun_by (Took a m) = Some a
begun_by (Called a x verb args b) = b
begun_by _ = None

-- those that begin have numbers from n on, each higher than those before it, and below m
abbrev pub Rises : ℕ → List (Option ℕ) → ℕ → Type 0
Rises n [] m = n ≤ m
Rises n (None ∷ bs) m = Rises n bs m
Rises n (Some b ∷ bs) m = (n ≤ b) × Rises (suc b) bs m

-- from the vat's count before the step to its count after it; before a step nothing has happened in it
abbrev pub StepsCount : {N W : Type 0} → Naming N W → Type 0
StepsCount {N} {W} K = (step : Step N W) (s : Vat N) → s.happened ≡ [] → After (λ s t. Rises s.activations (map begun_by t.happened) t.activations) s (does K step s)

-- under global names and under local numbers
abbrev pub ActivationsAreNew : Type 0
ActivationsAreNew = ((word : ℕ → ℕ) (v : ℕ) → StepsCount (naming word v)) × ((word : ℕ → ℕ) → StepsCount (numbering {W = Name} word))
