-- What is answered and written of what is due, and what is read for it.
use Rattle.std.specs.Prelude.{◌≡◌, ◌⊎◌, ◌≤◌, ◌+◌, ℕ, Bool, true, false, List, [], length, Result, Ok, Err}
use Rattle.std.specs.declared.option.Option.{Option}
use Rattle.std.specs.Io.KnownBytes.{Appends, Consumes}
use Rattle.ev_io.specs.Words.{IsPrefix}
use Rattle.ev_io.specs.Debt.{Debt, IsFor, most_bytes, too_long}
use Rattle.ev_io.specs.declared.reply.Early.{Early}
use Rattle.ev_io.specs.declared.reply.Early.TheVariants as early
use Rattle.ev_io.specs.declared.status.Status.{Status}
use Rattle.ev_io.specs.declared.status.Status.TheVariants.{Done, Usage, ReadFault, WriteFault, TooLong, ScriptRefused, ProgramRefused, FuelSpent, TooDeep, WordRepeated, Memory}

-- ---- a status

-- the status of a call that read all of its input
abbrev pub IsOfWhole : Status → Type 0
IsOfWhole Done = Unit {0}
IsOfWhole (ScriptRefused r) = Unit {0}
IsOfWhole (ProgramRefused r) = Unit {0}
IsOfWhole (FuelSpent step) = Unit {0}
IsOfWhole (TooDeep step) = Unit {0}
IsOfWhole (WordRepeated first second) = Unit {0}
IsOfWhole _ = ⊥

-- the status of a call that began to read
abbrev pub IsOfRead : Status → Type 0
IsOfRead TooLong = Unit {0}
IsOfRead status = IsOfWhole status

-- ---- what is written of it

-- A status with its whole text written, or a write fault with a front of it.
abbrev pub Finishes : Option (List ℕ) → Option (List ℕ) → Status → List ℕ → Status → Type 0
Finishes held held' status text result = (written : List ℕ) × Appends held held' written
    × (((result ≡ status) × (written ≡ text)) ⊎ ((result ≡ WriteFault) × IsPrefix written text))

-- so, or want of memory with a front of it
abbrev pub Settles : Option (List ℕ) → Option (List ℕ) → Debt → Status → Type 0
Settles held held' debt result = Finishes held held' debt.status debt.text result
    ⊎ ((result ≡ Memory) × (written : List ℕ) × Appends held held' written × IsPrefix written debt.text)

-- ---- what is due for an input

-- what is due for the bytes of a source, by whether they are more than are read
abbrev pub IsDueOfCounted : Bool → (List ℕ → Status → List ℕ → Type 0) → List ℕ → Status → List ℕ → Type 0
IsDueOfCounted true Due input status text = IsFor status text too_long
IsDueOfCounted false Due input status text = Due input status text

-- ---- what is answered

-- a front of a text that is due
abbrev pub IsFrontOfDue : (Status → List ℕ → Type 0) → List ℕ → Type 0
IsFrontOfDue Due written = (debt : Debt) × Due debt.status debt.text × IsPrefix written debt.text

-- What was answered and appended: just what is due, but a fault or want of memory may stand in its place, where anything was asked for.
-- With a fault of writing a front of the text was appended; with want of memory too, or nothing; with a fault of reading nothing.
abbrev pub PaysWith : Type 0 → (Status → List ℕ → Type 0) → Status → List ℕ → Type 0
PaysWith Asked Due ReadFault written = Asked × (written ≡ [])
PaysWith Asked Due WriteFault written = IsFrontOfDue Due written
PaysWith Asked Due Memory written = Asked × ((written ≡ []) ⊎ IsFrontOfDue Due written)
PaysWith Asked Due status written = Due status written

abbrev pub Pays : Type 0 → (Status → List ℕ → Type 0) → Option (List ℕ) → Option (List ℕ) → Status → Type 0
Pays Asked Due held held' status = (written : List ℕ) × Appends held held' written × PaysWith Asked Due status written

-- ---- what is read

-- how many bytes of the source a call took, by its status
abbrev pub TookFor : Status → ℕ → Type 0
TookFor Usage count = count ≡ 0
TookFor TooLong count = count ≡ most_bytes + 1
TookFor WriteFault count = count ≤ most_bytes + 1
TookFor Memory count = count ≤ most_bytes + 1
TookFor _ count = count ≤ most_bytes

abbrev pub Reads : Option (List ℕ) → Option (List ℕ) → Status → Type 0
Reads left left' status = (taken : List ℕ) × Consumes left left' taken × TookFor status (length taken)

-- the same for what came of it, of whose status this tells, or for what came in its place
abbrev pub ReadsFor : {A : Type 0} → (A → Status) → Option (List ℕ) → Option (List ℕ) → Result A Early → Type 0
ReadsFor status left left' (Ok x) = Reads left left' (status x)
ReadsFor status left left' (Err early.ReadFault) = Reads left left' ReadFault
ReadsFor status left left' (Err early.Memory) = Reads left left' Memory
