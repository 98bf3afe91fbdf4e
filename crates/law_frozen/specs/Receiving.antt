-- What a vat receives of a peer, whatever that says, leaves its state sound.
use Rattle.std.specs.Prelude.{ℕ}
use Rattle.def_machine.specs.Values.{Name, Naming, naming, numbering}
use Rattle.def_machine.specs.State.{Note, Vat}
use Rattle.def_machine.specs.Arrive.{Incoming}
use Rattle.def_machine.specs.Receive.{Sight, receive}
use Rattle.law_machine.specs.Machine.Steps.{After}
use Rattle.law_frozen.specs.Frozen.{NotePasses, Sound}

-- where no list stands by its number in the note
abbrev pub KeptByReceiving : {N W : Type 0} → Naming N W → Type 0
KeptByReceiving {N} {W} K = (sight : Sight N) (from : ℕ) (n : Note (Incoming N W)) (s : Vat N) → Sound K s → NotePasses n → After (λ _. Sound K) s (receive K sight from n s)

-- under global names and under local numbers
abbrev pub ReceivingStaysSound : Type 0
ReceivingStaysSound = ((word : ℕ → ℕ) (v : ℕ) → KeptByReceiving (naming word v)) × ((word : ℕ → ℕ) → KeptByReceiving (numbering {W = Name} word))
