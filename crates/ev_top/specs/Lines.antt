-- What is due for the commands that answer lines, and for a script that is generated.
use Rattle.std.specs.Prelude.{◌≡◌, ℕ, List, Some, None, Result, Ok, Err}
use Rattle.std.specs.declared.option.Option.{Option}
use Rattle.ev_generate.specs.Generated.{generated}
use Rattle.ev_sturdy.specs.Telling.{Ending}
use Rattle.ev_io.specs.Debt.{IsFor, bytes_refused}
use Rattle.ev_io.specs.declared.status.Status.{Status}
use Rattle.ev_io.specs.declared.status.Status.TheVariants.{Done, WordRepeated}

-- the text of the script that is generated for a number
abbrev pub IsDueOfGenerated : ℕ → Status → List ℕ → Type 0
IsDueOfGenerated n status text = (status ≡ Done) × (text ≡ generated n)

-- the status of an end, by the two draws that gave one number
abbrev pub status_of : Option (ℕ × ℕ) → Status
status_of None = Done
status_of (Some draws) = WordRepeated draws.0 draws.1

-- what is due for the lines of `sturdy`, or for bytes that are none
abbrev pub IsDueOfSturdy : Result Ending ℕ → Status → List ℕ → Type 0
IsDueOfSturdy (Ok ending) status text = (status ≡ status_of ending.repeated) × (text ≡ ending.text)
IsDueOfSturdy (Err rule) status text = IsFor status text (bytes_refused rule)

-- what is due for the orders of `mint`, or for bytes that are none
abbrev pub IsDueOfMint : Result (List ℕ) ℕ → Status → List ℕ → Type 0
IsDueOfMint (Ok told) status text = (status ≡ Done) × (text ≡ told)
IsDueOfMint (Err rule) status text = IsFor status text (bytes_refused rule)
