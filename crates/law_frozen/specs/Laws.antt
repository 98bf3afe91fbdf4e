-- Every step of a vat leaves its state sound, and in a sound state frozen objects reach only what is frozen.
use Rattle.std.specs.Prelude.{ℕ}
use Rattle.def_machine.specs.Values.{Name, Naming, Local, naming, numbering}
use Rattle.def_machine.specs.State.{Vat}
use Rattle.law_machine.specs.Machine.Steps.{Step, Opens, Takes, Receives, Notices, does, After}
use Rattle.law_frozen.specs.Frozen.{AllOf, MessageThere, NotePasses, NounWell, Sound, FrozenReach}

-- What is asked of a step: that what it is given is bound well and holds no list but those that are there, and that no list stands by its number in a note.
abbrev pub StepWell : {N W : Type 0} → Naming N W → Vat N → Step N W → Type 0
StepWell K s (Opens tree depth root given) = AllOf (NounWell K s.things s.lists) given
StepWell K s (Takes tree depth m) = MessageThere s.lists m
StepWell K s (Receives from n) = NotePasses n
StepWell K s (Notices w) = Unit {0}

-- every step from a sound state ends in a sound state
abbrev pub StaysSound : {N W : Type 0} → Naming N W → Type 0
StaysSound {N} {W} K = (step : Step N W) (s : Vat N) → Sound K s → StepWell K s step → After (λ _. Sound K) s (does K step s)

-- under global names and under local numbers
abbrev pub StepsStaySound : Type 0
StepsStaySound = ((word : ℕ → ℕ) (v : ℕ) → StaysSound (naming word v)) × ((word : ℕ → ℕ) → StaysSound (numbering {W = Name} word))

-- in a sound state, what is reached from an object with DeepFrozen's stamp is frozen
abbrev pub ReachIsFrozen : Type 0
ReachIsFrozen = ((word : ℕ → ℕ) (v : ℕ) (s : Vat Name) → Sound (naming word v) s → FrozenReach (naming word v) s)
    × ((word : ℕ → ℕ) (s : Vat Local) → Sound (numbering {W = Name} word) s → FrozenReach (numbering {W = Name} word) s)
