-- What is answered and written of what is due.
use Rattle.std.specs.Prelude.{◌≡◌, ◌⊎◌, ℕ, List, []}
use Rattle.std.specs.declared.option.Option.{Option}
use Rattle.std.specs.Io.KnownBytes.{Appends}
use Rattle.ev_io.specs.Words.{IsPrefix}
use Rattle.ev_see_top.specs.Due.{Debt}
use Rattle.ev_see_top.specs.declared.status.SeeStatus.{SeeStatus}
use Rattle.ev_see_top.specs.declared.status.SeeStatus.TheVariants.{ReadFault, WriteFault, Memory}

-- a status that tells no fault and no want of memory
abbrev pub IsPlain : SeeStatus → Type 0
IsPlain ReadFault = ⊥
IsPlain WriteFault = ⊥
IsPlain Memory = ⊥
IsPlain _ = Unit {0}

-- it ends so, or with a fault of writing that has its cause
abbrev pub EndsBy : Type 0 → SeeStatus → SeeStatus → Type 0
EndsBy Cause status result = (result ≡ status) ⊎ ((result ≡ WriteFault) × Cause)

-- all of it, with its status
abbrev pub IsPaid : Debt → SeeStatus → List ℕ → List ℕ → Type 0
IsPaid debt result written noted = (result ≡ debt.status) × (written ≡ debt.out) × (noted ≡ debt.err)

-- fronts of it, where a sink failed
abbrev pub IsCutShort : Debt → SeeStatus → List ℕ → List ℕ → Type 0
IsCutShort debt result written noted = (result ≡ WriteFault) × IsPrefix written debt.out × IsPrefix noted debt.err

-- nothing, where the source failed or memory ran out
abbrev pub IsUnpaid : SeeStatus → List ℕ → List ℕ → Type 0
IsUnpaid result written noted = ((result ≡ ReadFault) ⊎ (result ≡ Memory)) × (written ≡ []) × (noted ≡ [])

-- a status with its whole text written, or a fault of writing with a front of it
abbrev pub Ends : SeeStatus → List ℕ → Option (List ℕ) → Option (List ℕ) → SeeStatus → Type 0
Ends status text told told' result =
    (noted : List ℕ) × Appends told told' noted × (((result ≡ status) × (noted ≡ text)) ⊎ ((result ≡ WriteFault) × IsPrefix noted text))

-- by what the two sinks held before and hold now
abbrev pub Finishes : Debt → Option (List ℕ) → Option (List ℕ) → Option (List ℕ) → Option (List ℕ) → SeeStatus → Type 0
Finishes debt held held' told told' result =
    (written : List ℕ) × (noted : List ℕ) × Appends held held' written × Appends told told' noted × (IsPaid debt result written noted ⊎ IsCutShort debt result written noted)

-- of some debt that is due
abbrev pub Pays : (Debt → Type 0) → Option (List ℕ) → Option (List ℕ) → Option (List ℕ) → Option (List ℕ) → SeeStatus → Type 0
Pays Due held held' told told' result =
    (written : List ℕ) × (noted : List ℕ) × Appends held held' written × Appends told told' noted
    × (((debt : Debt) × Due debt × (IsPaid debt result written noted ⊎ IsCutShort debt result written noted)) ⊎ IsUnpaid result written noted)
