-- What a vat follows a value to, its lines tell: by what settled before the step, and by what settled or came to be viewed in the lines so far.
use Rattle.std.specs.Prelude.{ℕ, List, ◌⊎◌}
use Rattle.def_machine.specs.Values.{Value, Name, Naming, naming, numbering}
use Rattle.def_machine.specs.State.{Known, Vat}
use Rattle.def_machine.specs.Refs.{follow}
use Rattle.law_machine.specs.Machine.Steps.{Step, does, After}
use Rattle.law_machine.specs.Natives.Natives.{IsPlain}
use Rattle.law_uses.specs.Connectivity.Known.{Reaches}

-- a value is followed to what these lines lead it to, or is broken
abbrev pub FollowsTold : {N W : Type 0} → Naming N W → List (Known N) → Vat N → Type 0
FollowsTold {N} K before t = (x : Value N) → Reaches K before t.happened x (follow K t x) ⊎ IsPlain (follow K t x)

-- in the state after each step, however it ends
abbrev pub StepsFollow : {N W : Type 0} → Naming N W → Type 0
StepsFollow {N} {W} K = (step : Step N W) (s : Vat N) → After (λ s t. FollowsTold K s.known t) s (does K step s)

-- under global names and under local numbers
abbrev pub FollowingIsTold : Type 0
FollowingIsTold = ((word : ℕ → ℕ) (v : ℕ) → StepsFollow (naming word v)) × ((word : ℕ → ℕ) → StepsFollow (numbering {W = Name} word))
