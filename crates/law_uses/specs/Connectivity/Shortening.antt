-- What a vat opens for a note that asks it to shorten a way.
use Rattle.std.specs.Prelude.{◌≡◌, ℕ, []}
use Rattle.def_machine.specs.Values.{Ref, Name, Naming, naming, numbering, Foreign}
use Rattle.def_machine.specs.State.{Open, Shorten, Put, Vat}
use Rattle.def_machine.specs.Arrive.{Incoming}
use Rattle.law_machine.specs.Machine.Steps.{Receives, does, After}
use Rattle.law_uses.specs.Connectivity.Known.{AllOf, Start}
use Rattle.law_uses.specs.Connectivity.Settlings.{IsNamed, Follows}

-- a note that opens the gift of that key as an object to which the name leads, put to the vat of that object
abbrev pub OpensAsAsked : {N W : Type 0} → Naming N W → Start N W → Vat N → Incoming N W → ℕ → Put N → Type 0
OpensAsAsked {N} K E t x i q = (p n : N) × IsNamed K E x p × Follows K E t.happened (Ref p) (Ref n) × (q.note ≡ Open i n) × (K.spot n ≡ Foreign q.to)

-- Each note that is put where one arrives that asks for that; before the step nothing has happened in it and no note was put.
abbrev pub StepsShorten : {N W : Type 0} → Naming N W → Type 0
StepsShorten {N} {W} K = (from c i : ℕ) (x : Incoming N W) (s : Vat N) → s.happened ≡ [] → s.outbox ≡ []
    → After (λ s t. AllOf (OpensAsAsked K (record { step = Receives from (Shorten x c i); vat = s }) t x i) t.outbox) s (does K (Receives from (Shorten x c i)) s)

-- under global names and under local numbers
abbrev pub ShorteningsOpenWhatIsAsked : Type 0
ShorteningsOpenWhatIsAsked = ((word : ℕ → ℕ) (v : ℕ) → StepsShorten (naming word v)) × ((word : ℕ → ℕ) → StepsShorten (numbering {W = Name} word))
