-- Why each answer comes.
use Rattle.std.specs.Prelude.{◌≡◌, ◌⊎◌, ◌<◌, ◌≤◌, ℕ, true, List, length, slice_get, Some, None, Ok, Err}
use Rattle.std.specs.declared.option.Option.{Option}
use Rattle.def_machine.specs.State.{Stop, Repeated}
use Rattle.ev_reader.specs.Program.{Answers}
use Rattle.ev_reader.specs.declared.fault.ProgramFault.TheVariants.{At}
use Rattle.ev_reader.specs.declared.fault.Stage.{Stage as Part}
use Rattle.def_run.specs.World.{run, Run as Machine, World, Stopped}
use Rattle.ev_reader.specs.declared.accepted.Scoped.{Scoped}
use Rattle.ev_script.specs.declared.script.Script.{Script}
use Rattle.ev_script.specs.declared.script.VatScript.{VatScript}
use Rattle.ev_generate.specs.Generated.{generated}
use Rattle.ev_sturdy.specs.Telling as sturdy
use Rattle.ev_mint.specs.Telling as mint
use Rattle.ev_trace.specs.Reading.{read as trace_from}
use Rattle.ev_top.specs.Commands.{reads}
use Rattle.ev_io.specs.Debt.{most_bytes}
use Rattle.ev_top.specs.Expansion.{text_from}
use Rattle.ev_world.specs.Running.{script_of}
use Rattle.ev_top.specs.Machine.{greatest_depth}
use Rattle.ev_top.specs.Programs.{AreRead, IsFirstRefused, IsRead, safe_names}
use Rattle.ev_script.specs.Script.{read as script_from}
use Rattle.ev_top.specs.declared.command.Command.{Command}
use Rattle.ev_top.specs.declared.command.Command.TheVariants.{Run, Expand, Generate, Sum, Sturdy, Mint, Check}
use Rattle.ev_io.specs.declared.status.Stage.TheVariants as stages
use Rattle.ev_io.specs.declared.status.Status.{Status}
use Rattle.ev_io.specs.declared.status.Status.TheVariants.{ReadFault, WriteFault, ProgramRefused, Memory}

-- a fault or want of memory
abbrev pub IsInterrupted : Status → Type 0
IsInterrupted ReadFault = Unit {0}
IsInterrupted WriteFault = Unit {0}
IsInterrupted Memory = Unit {0}
IsInterrupted _ = ⊥

-- an answer comes where a fact holds, but a fault or want of memory may stand in its place
abbrev pub Follows : (Status → Type 0) → Status → Type 0 → Type 0
Follows Is status fact = fact → Is status ⊎ IsInterrupted status

-- it comes there, and nowhere else
abbrev pub ComesWhere : (Status → Type 0) → Status → Type 0 → Type 0
ComesWhere Is status fact = (Is status → fact) × Follows Is status fact

-- the words are a command that reads, and the source has more bytes than are read
abbrev pub IsLong : Option Command → List ℕ → Type 0
IsLong None input = ⊥
IsLong (Some command) input = (reads command ≡ true) × (most_bytes < length input)

-- the whole input breaks the rule of this number, or the script that is generated and run does
abbrev pub Breaks : ℕ → Option Command → List ℕ → Type 0
Breaks rule None input = ⊥
Breaks rule (Some (Run wire)) input = (length input ≤ most_bytes) × (script_from input ≡ Err rule)
Breaks rule (Some Expand) input = (length input ≤ most_bytes) × (text_from input ≡ Err rule)
Breaks rule (Some (Generate n)) input = ⊥
Breaks rule (Some (Sum n)) input = script_from (generated n) ≡ Err rule
Breaks rule (Some Sturdy) input = (length input ≤ most_bytes) × (sturdy.due input ≡ Err rule)
Breaks rule (Some Mint) input = (length input ≤ most_bytes) × (mint.due input ≡ Err rule)
Breaks rule (Some Check) input = (length input ≤ most_bytes) × (trace_from input ≡ Err rule)

-- in the answers to the whole input, the second of these draws gives what the first gave
abbrev pub DrawsAgain : ℕ → ℕ → Option Command → List ℕ → Type 0
DrawsAgain first second command input = (command ≡ Some Sturdy) × (length input ≤ most_bytes)
    × (ending : sturdy.Ending) × (sturdy.due input ≡ Ok ending) × (ending.repeated ≡ Some (first, second))

-- ---- programs

-- the command runs that script: the whole input is it, or it is generated
abbrev pub HasScript : Option Command → List ℕ → Script → Type 0
HasScript None input script = ⊥
HasScript (Some (Run wire)) input script = (length input ≤ most_bytes) × (script_from input ≡ Ok script)
HasScript (Some (Sum n)) input script = script_from (generated n) ≡ Ok script
HasScript (Some _) input script = ⊥

-- and the sources of its vats are read to these programs, in order
abbrev pub HasPrograms : Option Command → List ℕ → Script → List Scoped → Type 0
HasPrograms command input script programs = HasScript command input script × AreRead script.vats script.vats programs

-- the whole input is the text of that program, which is of no vat
abbrev pub HasText : List ℕ → List ℕ → Type 0
HasText input program = (length input ≤ most_bytes) × (text_from input ≡ Ok program)

-- the command runs a script, and the vat of that number is the first whose source is refused, with this fault
abbrev pub HasRefused : ℕ → Part → ℕ → ℕ → Option Command → List ℕ → Type 0
HasRefused vat part kind place command input = (script : Script) × HasScript command input script × IsFirstRefused script.vats vat (At part kind place)

-- The same; or the whole input is a text that is refused so, and the number is 0.
abbrev pub HasFault : ℕ → Part → ℕ → ℕ → Option Command → List ℕ → Type 0
HasFault vat part kind place None input = ⊥
HasFault vat part kind place (Some (Run wire)) input = HasRefused vat part kind place (Some (Run wire)) input
HasFault vat part kind place (Some (Sum n)) input = HasRefused vat part kind place (Some (Sum n)) input
HasFault vat part kind place (Some Expand) input = (vat ≡ 0) × (program : List ℕ) × HasText input program × Answers (Err (At part kind place)) program safe_names
HasFault vat part kind place (Some _) input = ⊥

-- the command runs a script, and no tree is read of the source of one of its vats
abbrev pub HasUnread : Option Command → List ℕ → Type 0
HasUnread command input = (script : Script) × HasScript command input script × (place : ℕ) × (vat : VatScript) × (slice_get script.vats place ≡ Some vat)
    × ((scoped : Scoped) → IsRead script.vats vat (Ok scoped) → ⊥)

-- The same; or the whole input is a text of which no tree is read.
abbrev pub HasNoTree : Option Command → List ℕ → Type 0
HasNoTree None input = ⊥
HasNoTree (Some (Run wire)) input = HasUnread (Some (Run wire)) input
HasNoTree (Some (Sum n)) input = HasUnread (Some (Sum n)) input
HasNoTree (Some Expand) input = (program : List ℕ) × HasText input program × ((scoped : Scoped) → Answers (Ok scoped) program safe_names → ⊥)
HasNoTree (Some _) input = ⊥

abbrev pub IsProgramRefused : Status → Type 0
IsProgramRefused (ProgramRefused r) = Unit {0}
IsProgramRefused _ = ⊥

-- a program is refused because its run goes astray
abbrev pub IsAstray : Status → Type 0
IsAstray (ProgramRefused r) = r.stage ≡ stages.Astray
IsAstray _ = ⊥

-- the machine's run of a script whose programs are these
abbrev pub run_of : Script → List Scoped → Machine
run_of script programs = run (script_of script programs greatest_depth)

-- the command runs that script, whose programs are read, and its run stops in this step
abbrev pub StopsIn : Script → Stop → ℕ → Option Command → List ℕ → Type 0
StopsIn script stop step command input = (programs : List Scoped) × HasPrograms command input script programs
    × (world : World) × (run_of script programs ≡ Stopped stop step world)

-- the same of some script
abbrev pub Stops : Stop → ℕ → Option Command → List ℕ → Type 0
Stops stop step command input = (script : Script) × StopsIn script stop step command input

-- the second of these draws gives what the first gave, in those answers or in a step of that run
abbrev pub RepeatsWord : ℕ → ℕ → Option Command → List ℕ → Type 0
RepeatsWord first second command input = DrawsAgain first second command input ⊎ ((step : ℕ) × Stops (Repeated first second) step command input)
