-- What is due for the text of a run.
use Rattle.std.specs.Prelude.{◌≡◌, ℕ, nat_lt, List, length, Result, Ok, Err}
use Rattle.def_event.specs.declared.trace.Trace.{Trace}
use Rattle.ev_check_text.specs.Checks.{Checks}
use Rattle.ev_io.specs.Debt.{IsFor, bytes_refused, most_bytes}
use Rattle.ev_io.specs.Paying.{IsDueOfCounted}
use Rattle.ev_io.specs.declared.status.Status.{Status}
use Rattle.ev_io.specs.declared.status.Status.TheVariants.{Done}
use Rattle.ev_trace.specs.Reading.{read as trace_from}

-- the judgement on its trace, or the refusal of bytes that are none
abbrev pub IsDueOfTrace : Result Trace ℕ → Status → List ℕ → Type 0
IsDueOfTrace (Ok trace) status text = (status ≡ Done) × Checks trace text
IsDueOfTrace (Err rule) status text = IsFor status text (bytes_refused rule)

-- what is due for bytes that were all read
abbrev pub IsDueOfBytes : List ℕ → Status → List ℕ → Type 0
IsDueOfBytes input status text = IsDueOfTrace (trace_from input) status text

-- what is due for all that a source has
abbrev pub IsDueOfInput : List ℕ → Status → List ℕ → Type 0
IsDueOfInput input status text = IsDueOfCounted (nat_lt most_bytes (length input)) IsDueOfBytes input status text
