-- That what a line says was made is new: a step numbers things, var slots and lists upwards from the vat's count.
use Rattle.std.specs.Prelude.{◌≡◌, ℕ, false, List, [], ◌∷◌, ◌++◌, Option, Some, None, length, map}
use Rattle.def_machine.specs.Values.{Value, Name, Naming, naming, numbering, Spot, Own, Foreign, NoObject}
use Rattle.def_machine.specs.State.{Happened, SlotMade, ListMade, ListCame, EjectorMade, AuditionMade, PromiseMade, ObjectMade, Vat}
use Rattle.law_machine.specs.Machine.Steps.{Step, does, After}
use Rattle.law_uses.specs.Connectivity.Activations.{Rises}
use Rattle.law_uses.specs.Connectivity.Liveness.{live_at}

abbrev pub own_number : Spot → Option ℕ
own_number (Own i) = Some i
own_number (Foreign v) = None
own_number NoObject = None

-- the number of the object, ejector, audition or resolver that a line says was made
abbrev pub thing_made : {N W : Type 0} → Naming N W → Happened N → Option ℕ
thing_made K (EjectorMade a j) = own_number (K.spot j)
thing_made K (AuditionMade a n) = own_number (K.spot n)
thing_made K (PromiseMade a p r) = own_number (K.spot r)
thing_made K (ObjectMade a me x caught stamps) = own_number (K.spot me)
thing_made K _ = None

-- the number of the var slot
abbrev pub slot_made : {N : Type 0} → Happened N → Option ℕ
slot_made (SlotMade a k v) = Some k
slot_made _ = None

-- the number of the list, made or come in a note, and its members
abbrev pub list_made : {N : Type 0} → Happened N → Option (ℕ × List (Value N))
list_made (ListMade a k vs) = Some (k, vs)
list_made (ListCame k vs) = Some (k, vs)
list_made _ = None

-- The second are the first and behind them, in order, those that are told of, each with the next number.
abbrev pub Adds : {A : Type 0} → List A → List (Option (ℕ × A)) → List A → Type 0
Adds xs [] ys = xs ≡ ys
Adds xs (None ∷ os) ys = Adds xs os ys
Adds xs (Some o ∷ os) ys = (o.0 ≡ length xs) × Adds (xs ++ o.1 ∷ []) os ys

-- Of things and slots each number is higher than those before it, from the vat's count before the step to its count after it. The lists after it are those before it and those that lines tell of.
abbrev pub MadeNew : {N W : Type 0} → Naming N W → Vat N → Vat N → Type 0
MadeNew K s t = Rises (length s.things) (map (thing_made K) t.happened) (length t.things) × Rises (length s.slots) (map slot_made t.happened) (length t.slots) × Adds s.lists (map list_made t.happened) t.lists

-- after each step, however it ends, from a vat in which nothing has happened in the step and nothing is live
abbrev pub StepsMakeNew : {N W : Type 0} → Naming N W → Type 0
StepsMakeNew {N} {W} K = (step : Step N W) (s : Vat N) → s.happened ≡ [] → ((i : ℕ) → live_at s.things i ≡ false) → After (MadeNew K) s (does K step s)

-- under global names and under local numbers
abbrev pub WhatIsMadeIsNew : Type 0
WhatIsMadeIsNew = ((word : ℕ → ℕ) (v : ℕ) → StepsMakeNew (naming word v)) × ((word : ℕ → ℕ) → StepsMakeNew (numbering {W = Name} word))
