-- In the run that a call owes no line uses what is not known by the lines before it, nor does one of what is read of its text.
use Rattle.std.proofs.Common.{ℕ, List, Option, Some, None, Ok, IfSome, sym, subst}
use Rattle.def_run.specs.World as machine
use Rattle.ev_script.proofs.Admitted.{read_admitted}
use Rattle.ev_world.specs.Running.{tree_in}
use Rattle.law_read.proofs.ReadTexts.ScriptsRead.{texts_of_scripts}
use Rattle.law_read.proofs.ReadUses.Held.{uses_hold}
use Rattle.ev_top.specs.Headline.{HoldsUses, IsToRun, RunsHoldUses}
use Rattle.ev_top.specs.Machine.{greatest_depth}
use Rattle.ev_top.specs.declared.command.Command.{Command}
use Rattle.ev_top.proofs.Astray.{are_read_to}
use Rattle.ev_top.proofs.Lawful.{bytes_of}

uses_in : (command : Option Command) (input : List ℕ) (script : machine.Script) → IsToRun command input script → HoldsUses script
uses_in command input script (read, programs, (has, are), is) =
    let found = bytes_of command input read has in
    let trees = are_read_to read programs (read_admitted found.0 (Ok read) found.1) are in
    let held = uses_hold found.0 read found.1 greatest_depth (tree_in programs) trees in
    subst HoldsUses (sym is) (held.0, held.1, λ low. texts_of_scripts found.0 read found.1 greatest_depth (tree_in programs) trees low)

pub runs_hold_uses : (left : Option (List ℕ)) (command : Option Command) → IfSome left (λ input. RunsHoldUses command input)
runs_hold_uses None command = tt
runs_hold_uses (Some input) command = λ script runs. uses_in command input script runs
