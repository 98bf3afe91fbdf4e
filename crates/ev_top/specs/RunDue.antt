-- What is due for a script or for bytes that are none: a status and a text, by what its sources are read as and by the run of the machine.
use Rattle.std.specs.Prelude.{◌≡◌, ◌⊎◌, ◌+◌, ℕ, List, [], ◌∷◌, ◌++◌, length, Result, Ok, Err, string_bytes}
use Rattle.std.specs.declared.option.Option.{Option}
use Rattle.std.specs.Io.KnownBytes.{Appends}
use Rattle.def_kernel.specs.declared.node.Node.{Node}
use Rattle.def_machine.specs.State.{Fuel, Deep, Repeated, Astray}
use Rattle.ev_reader.specs.declared.fault.ProgramFault.{ProgramFault}
use Rattle.def_run.specs.World as machine
use Rattle.def_run.specs.World.{run, Goes, Stopped}
use Rattle.ev_reader.specs.declared.accepted.Scoped.{Scoped}
use Rattle.ev_script.specs.Rules.{IsAdmitted}
use Rattle.ev_script.specs.declared.script.Script.{Script}
use Rattle.ev_script.specs.declared.script.VatScript.{VatScript}
use Rattle.ev_io.specs.Words.{IsPrefix}
use Rattle.ev_io.specs.Debt.{Debt, IsFor, bytes_refused}
use Rattle.law_schedule.specs.Scripts.{machine_script, tree_at}
use Rattle.ev_world.specs.Running.{script_of}
use Rattle.ev_top.specs.Machine.{greatest_depth, text_of, vat_of_step}
use Rattle.ev_top.specs.Programs.{AreRead, ReadAs, IsDueOfFault, names_for}
use Rattle.ev_top.specs.declared.reply.Owed.{Owed}
use Rattle.ev_top.specs.declared.reply.Owed.TheVariants as owing
use Rattle.ev_io.specs.declared.status.Refusal.{Refusal}
use Rattle.ev_io.specs.declared.status.Stage.TheVariants as stages
use Rattle.ev_io.specs.declared.status.Status.{Status}
use Rattle.ev_io.specs.declared.status.Status.TheVariants.{Done, WriteFault, TooLong, ScriptRefused, ProgramRefused, FuelSpent, TooDeep, WordRepeated, Memory}

-- ---- a run

-- where no stage refuses a program, and its run goes astray in a step of that vat
abbrev pub astray : ℕ → Refusal
astray vat = record { vat = vat; stage = stages.Astray; kind = 0; place = 0 }

-- What is due for a run with this text: its status tells how it ended, at its end or in a step that stopped, for fuel or for
-- depth, or where a draw gave what an earlier one gave. A run goes astray where a noun is met that nothing binds; then the program
-- of the vat whose step it was is refused, and its text ends with the line of that stop.
abbrev pub due_of_run : Script → List ℕ → machine.Run → Debt
due_of_run script text (Goes w) = record { status = Done; text = text }
due_of_run script text (Stopped Fuel step w) = record { status = FuelSpent step; text = text }
due_of_run script text (Stopped Deep step w) = record { status = TooDeep step; text = text }
due_of_run script text (Stopped Astray step w) = record { status = ProgramRefused (astray (vat_of_step script step)); text = text }
due_of_run script text (Stopped (Repeated i j) step w) = record { status = WordRepeated i j; text = text }

-- what is told of the machine's run on a script: its text, say, or a summary
abbrev pub Telling : Type 0
Telling = machine.Script → List ℕ

-- the same for the machine's run on a script, of which that is told
abbrev pub due_of_machine : Telling → Script → machine.Script → Debt
due_of_machine tell script theirs = due_of_run script (tell theirs) (run theirs)

-- what is due for a script whose programs have these trees: its run
abbrev pub IsDueOfTrees : Telling → Script → List (List Node) → Status → List ℕ → Type 0
IsDueOfTrees tell script trees status text = IsFor status text (due_of_machine tell script (machine_script greatest_depth (tree_at trees) script))

-- what is due by what the source of the vat of that number and name is read as: what is due for its tree, or its refusal
abbrev pub IsDueOfAnswer : ℕ → List ℕ → (List Node → Status → List ℕ → Type 0) → Result Scoped ProgramFault → Status → List ℕ → Type 0
IsDueOfAnswer vat name Due (Ok scoped) status text = Due scoped.tree status text
IsDueOfAnswer vat name Due (Err fault) status text = IsDueOfFault vat name fault status text

-- What is due for a script, where the sources of its first vats were read to these trees, by the vats that come next: the first
-- source that is refused is the answer, and else the run.
abbrev pub IsDueOfVats : Telling → Script → List (List Node) → List VatScript → Status → List ℕ → Type 0
IsDueOfVats tell script trees [] status text = IsDueOfTrees tell script trees status text
IsDueOfVats tell script trees (vat ∷ more) status text = ReadAs vat.source (names_for script.vats vat)
    (λ answer. IsDueOfAnswer (length trees) vat.name (λ tree. IsDueOfVats tell script (trees ++ tree ∷ []) more) answer status text)

-- what is due for a script, or for bytes that are none
abbrev pub IsDueOfScript : Telling → Result Script ℕ → Status → List ℕ → Type 0
IsDueOfScript tell (Ok script) status text = IsDueOfVats tell script [] script.vats status text
IsDueOfScript tell (Err rule) status text = IsFor status text (bytes_refused rule)

-- ---- what is owed

-- what is due for what is owed: a reply, or the run of a script whose programs are read
abbrev pub debt_of : Owed → Debt
debt_of (owing.Reply reply) = record { status = reply.status; text = string_bytes reply.text }
debt_of (owing.Run run) = due_of_machine (text_of run.wire) run.script (script_of run.script run.programs.items greatest_depth)

-- the script of a run that is owed is one, and its programs are those of its vats
abbrev pub MayRun : Owed → Type 0
MayRun (owing.Reply reply) = Unit {0}
MayRun (owing.Run run) = IsAdmitted run.script × AreRead run.script.vats run.script.vats run.programs.items
