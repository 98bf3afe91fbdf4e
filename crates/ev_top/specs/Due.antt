-- What a call owes: its status and its text, by its command and the bytes that were read.
use Rattle.std.specs.Prelude.{◌≡◌, ℕ, Bool, true, nat_lt, ◌&&◌, List, length, Some, None, IsSome, Result}
use Rattle.std.specs.declared.option.Option.{Option}
use Rattle.ev_generate.specs.Generated.{generated}
use Rattle.ev_io.specs.Debt.{IsFor, most_bytes, usage}
use Rattle.ev_top.specs.Expansion.{IsDueOfText, text_from}
use Rattle.ev_sturdy.specs.Telling as sturdy
use Rattle.ev_mint.specs.Telling as mint
use Rattle.ev_top.specs.Commands.{reads}
use Rattle.ev_check_text.specs.Due.{IsDueOfTrace}
use Rattle.ev_trace.specs.Reading.{read as trace_from}
use Rattle.ev_top.specs.Lines.{IsDueOfGenerated, IsDueOfMint, IsDueOfSturdy}
use Rattle.ev_top.specs.Machine.{text_of}
use Rattle.ev_script.specs.Script.{read as script_from}
use Rattle.ev_top.specs.Summary.{summary_of}
use Rattle.ev_top.specs.declared.command.Command.{Command}
use Rattle.ev_top.specs.declared.command.Command.TheVariants.{Run, Expand, Generate, Sum, Sturdy, Mint, Check}
use Rattle.ev_io.specs.declared.status.Status.{Status}
use Rattle.ev_top.specs.RunDue.{IsDueOfScript, debt_of}
use Rattle.ev_top.specs.declared.reply.Owed.{Owed}
use Rattle.ev_io.specs.declared.reply.Early.{Early}
use Rattle.ev_io.specs.Paying as paying
use Rattle.ev_io.specs.Paying.{IsDueOfCounted}

-- ---- a call

-- what is due for bytes that were all read; a script is generated, and its run summed up, whatever they are
abbrev pub IsDueOfBytes : Command → List ℕ → Status → List ℕ → Type 0
IsDueOfBytes (Run wire) input status text = IsDueOfScript (text_of wire) (script_from input) status text
IsDueOfBytes Expand input status text = IsDueOfText (text_from input) status text
IsDueOfBytes (Generate n) input status text = IsDueOfGenerated n status text
IsDueOfBytes (Sum n) input status text = IsDueOfScript summary_of (script_from (generated n)) status text
IsDueOfBytes Sturdy input status text = IsDueOfSturdy (sturdy.due input) status text
IsDueOfBytes Mint input status text = IsDueOfMint (mint.due input) status text
IsDueOfBytes Check input status text = IsDueOfTrace (trace_from input) status text

-- what is due for the bytes of a source, by whether they are more than are read
abbrev pub IsDueOfInput : Bool → Command → List ℕ → Status → List ℕ → Type 0
IsDueOfInput long command = IsDueOfCounted long (IsDueOfBytes command)

-- what is due for a command, or for words that are none
abbrev pub IsDue : Option Command → List ℕ → Status → List ℕ → Type 0
IsDue None input status text = IsFor status text usage
IsDue (Some command) input status text = IsDueOfInput (reads command && nat_lt most_bytes (length input)) command input status text

-- What was answered and appended for a command: just what is due, but a fault or want of memory may stand in its place, where the words are one.
abbrev pub PaysWith : Status → List ℕ → Option Command → List ℕ → Type 0
PaysWith status written command input = paying.PaysWith (IsSome command) (IsDue command input) status written

abbrev pub Pays : Option (List ℕ) → Option (List ℕ) → Status → Option Command → List ℕ → Type 0
Pays held held' status command input = paying.Pays (IsSome command) (IsDue command input) held held' status

-- the words are a command that reads what the source has
abbrev pub IsReading : Option Command → Type 0
IsReading None = ⊥
IsReading (Some command) = reads command ≡ true

-- what was read for what is owed, or for what came in its place
abbrev pub ReadsFor : Option (List ℕ) → Option (List ℕ) → Result Owed Early → Type 0
ReadsFor left left' result = paying.ReadsFor (λ owed. (debt_of owed).status) left left' result
