-- Each script that a call runs meets what the laws of runs ask.
use Rattle.std.proofs.Common.{◌≡◌, ℕ, List, Option, Some, None, Ok, sym, subst}
use Rattle.def_run.specs.World as machine
use Rattle.ev_generate.specs.Generated.{generated}
use Rattle.ev_script.specs.declared.script.Script.{Script}
use Rattle.law_read.proofs.ReadScripts.Meets.{accepted}
use Rattle.law_read.specs.ReadScripts.Accepted.{MeetsTheLaws}
use Rattle.ev_top.specs.Causes.{HasScript}
use Rattle.ev_top.specs.Headline.{IsToRun}
use Rattle.law_schedule.specs.Scripts.{tree_at}
use Rattle.ev_top.specs.Machine.{greatest_depth}
use Rattle.ev_top.specs.Programs.{trees_of}
use Rattle.ev_script.specs.Script.{read as script_from}
use Rattle.ev_top.specs.declared.command.Command.{Command}
use Rattle.ev_top.specs.declared.command.Command.TheVariants.{Run, Expand, Generate, Sum, Sturdy, Mint, Check}

-- it is read from bytes
pub bytes_of : (command : Option Command) (input : List ℕ) (script : Script) → HasScript command input script → (bytes : List ℕ) × (script_from bytes ≡ Ok script)
bytes_of None input script has = absurd has
bytes_of (Some (Run wire)) input script has = (input, has.1)
bytes_of (Some (Sum n)) input script has = (generated n, has)
bytes_of (Some Expand) input script has = absurd has
bytes_of (Some (Generate n)) input script has = absurd has
bytes_of (Some Sturdy) input script has = absurd has
bytes_of (Some Mint) input script has = absurd has
bytes_of (Some Check) input script has = absurd has

pub lawful : (command : Option Command) (input : List ℕ) (script : machine.Script) → IsToRun command input script → MeetsTheLaws script
lawful command input script (read, programs, (has, are), is) =
    let found = bytes_of command input read has in
    subst MeetsTheLaws (sym is) (accepted found.0 read found.1 greatest_depth (tree_at (trees_of programs)))
