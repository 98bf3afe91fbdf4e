-- How the calls of a step nest: a line that ends a call ends the innermost one that is open, and tells of the activation that made it.
use Rattle.std.specs.Prelude.{◌≡◌, ℕ, true, false, List, [], ◌∷◌, Option, Some, None, ◌==◌}
use Rattle.def_machine.specs.Values.{Name, Naming, naming, numbering}
use Rattle.def_machine.specs.State.{Vat, Done, Gives, Throws, Ejects, Stops, Happened, Called, Back, Thrown, Left}
use Rattle.law_machine.specs.Machine.Steps.{Step, does}
use Rattle.law_uses.specs.Connectivity.Connected.{Open}

-- the calls that are open once the innermost has ended, which that activation made
unfoldable pub closed_by : {N : Type 0} → ℕ → List (Open N) → Option (List (Open N))
closed_by a [] = None
closed_by a (c ∷ cs) = elim (a == c.caller) [ true ↦ Some cs | false ↦ None ]

-- the calls that are open after a line, the innermost first, or none where it ends no such call
unfoldable pub nested_after : {N : Type 0} → List (Open N) → Happened N → Option (List (Open N))
nested_after cs (Called a x verb args b) = Some (record { caller = a; receiver = x; verb = verb; begun = b } ∷ cs)
nested_after cs (Back a v) = closed_by a cs
nested_after cs (Thrown a p) = closed_by a cs
nested_after cs (Left a) = closed_by a cs
nested_after cs _ = Some cs

unfoldable pub nested_on : {N : Type 0} → Option (List (Open N)) → Happened N → Option (List (Open N))
nested_on None e = None
nested_on (Some cs) e = nested_after cs e

unfoldable pub nested_from : {N : Type 0} → Option (List (Open N)) → List (Happened N) → Option (List (Open N))
nested_from o [] = o
nested_from o (e ∷ es) = nested_from (nested_on o e) es

-- the calls that these lines leave open, or none where they do not nest
abbrev pub left_open : {N : Type 0} → Vat N → Option (List (Open N))
left_open s = nested_from (Some []) s.happened

-- The lines of a step nest. Where it did not stop, each call in them has ended.
abbrev pub Nested : {N A : Type 0} → Done N A → Type 0
Nested (Gives a t) = left_open t ≡ Some []
Nested (Throws p t) = left_open t ≡ Some []
Nested (Ejects n v t) = left_open t ≡ Some []
Nested {N} (Stops c t) = (cs : List (Open N)) × (left_open t ≡ Some cs)

-- before a step nothing has happened in it
abbrev pub StepsNest : {N W : Type 0} → Naming N W → Type 0
StepsNest {N} {W} K = (step : Step N W) (s : Vat N) → s.happened ≡ [] → Nested (does K step s)

-- under global names and under local numbers
abbrev pub CallsNest : Type 0
CallsNest = ((word : ℕ → ℕ) (v : ℕ) → StepsNest (naming word v)) × ((word : ℕ → ℕ) → StepsNest (numbering {W = Name} word))
