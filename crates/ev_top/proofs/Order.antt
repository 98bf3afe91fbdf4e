-- In the run that a call owes no message is taken too early, by the machine's history, by its lines and by what is read of its text.
use Rattle.std.proofs.Common.{◌≡◌, ℕ, List, Option, Some, None, Ok, IfSome, sym, subst}
use Rattle.def_run.specs.World as machine
use Rattle.def_run.specs.World.{Run, Goes, Stopped}
use Rattle.def_run.specs.Text.{history_of}
use Rattle.ev_script.proofs.Admitted.{read_admitted}
use Rattle.ev_world.specs.Running.{tree_in}
use Rattle.law_order.specs.Ordering.Example as example
use Rattle.law_order.specs.Ordering.Order.{Ordered}
use Rattle.law_order.proofs.Whole.Ordered.{runs_are_ordered}
use Rattle.law_read.proofs.ReadOrder.Kept.{order_kept}
use Rattle.law_read.proofs.ReadScripts.Meets.{accepted}
use Rattle.law_schedule.specs.Scripts.{machine_script}
use Rattle.ev_top.specs.Headline.{HoldsOrder, IsToRun, RunsHoldOrder}
use Rattle.ev_top.specs.Machine.{greatest_depth}
use Rattle.ev_top.specs.declared.command.Command.{Command}
use Rattle.ev_top.proofs.Astray.{are_read_to}
use Rattle.ev_top.proofs.Lawful.{bytes_of}

-- the history, as it is named in both
one_history : (r : Run) → Ordered (example.history_of r) → Ordered (history_of r)
unfolding history_of example.history_of
one_history (Goes w) h = h
one_history (Stopped c k w) h = h

order_in : (command : Option Command) (input : List ℕ) (script : machine.Script) → IsToRun command input script → HoldsOrder script
order_in command input script (read, programs, (has, are), is) =
    let found = bytes_of command input read has in
    let trees = are_read_to read programs (read_admitted found.0 (Ok read) found.1) are in
    let meets = accepted found.0 read found.1 greatest_depth (tree_in programs) in
    let ordered = one_history (machine.run (machine_script greatest_depth (tree_in programs) read)) (runs_are_ordered (machine_script greatest_depth (tree_in programs) read) meets.0 meets.1 meets.2) in
    let kept = order_kept found.0 read found.1 greatest_depth (tree_in programs) trees ordered in
    subst HoldsOrder (sym is) (ordered, kept.0, kept.1)

pub runs_hold_order : (left : Option (List ℕ)) (command : Option Command) → IfSome left (λ input. RunsHoldOrder command input)
runs_hold_order None command = tt
runs_hold_order (Some input) command = λ script runs. order_in command input script runs
