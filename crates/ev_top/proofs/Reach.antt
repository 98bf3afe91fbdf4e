-- In the run that a call owes, what bears DeepFrozen's stamp reaches frozen values alone, what is used is connected, and a stop leaves what the run came to.
use Rattle.std.proofs.Common.{◌⊎◌, inl, inr, ◌∷◌, ℕ, List, Option, Some, None, IfSome}
use Rattle.def_run.specs.World as machine
use Rattle.def_run.specs.World.{World}
use Rattle.law_uses.specs.Connectivity.Begotten.{LinesConnected, TakenBegotten}
use Rattle.law_uses.proofs.Connectivity.RunKnows.{opened_connected, run_connected, ended_connected, opened_begotten, run_begotten, ended_begotten}
use Rattle.law_uses.proofs.Connectivity.FineRuns.{opened_connect, run_connect}
use Rattle.law_frozen.specs.Runs.{ReachIsFrozenIn}
use Rattle.law_frozen.proofs.RunSound.{reach_at_the_end, reach_in_runs}
use Rattle.def_run.specs.World.{Run}
use Rattle.law_machine.specs.Halting.Halted.{OpeningStops, EntryStops}
use Rattle.law_machine.proofs.Halting.Halted.{stopped_leave}
use Rattle.ev_top.specs.Headline.{ComesTo, StampedReachFrozenAlone, StopsAsItCame, UsesAreConnected}
use Rattle.ev_top.specs.declared.command.Command.{Command}

frozen_in : (script : machine.Script) (world : World) → ComesTo script world → ReachIsFrozenIn script world
frozen_in script world (inl (ps, rest, split, opened)) = (reach_in_runs script).0 ps rest world split opened
frozen_in script world (inr (inl (es, rest, split, lead))) = (reach_in_runs script).1 lead.0 world es 1 lead.1 lead.2
frozen_in script world (inr (inr ends)) = reach_at_the_end script world ends

pub frozen_alone : (left : Option (List ℕ)) (command : Option Command) → IfSome left (λ input. StampedReachFrozenAlone command input)
frozen_alone None command = tt
frozen_alone (Some input) command = λ script runs world comes. frozen_in script world comes

lines_in : (script : machine.Script) (world : World) → ComesTo script world → LinesConnected script world × TakenBegotten script world
lines_in script world (inl (ps, rest, split, opened)) = (opened_connected script ps rest world split opened, opened_begotten script ps rest world split opened)
lines_in script world (inr (inl (es, rest, split, lead))) = (run_connected script lead.0 world es 1 lead.1 lead.2, run_begotten script lead.0 world es 1 lead.1 lead.2)
lines_in script world (inr (inr ends)) = (ended_connected script world ends, ended_begotten script world ends)

pub uses_connected : (left : Option (List ℕ)) (command : Option Command) → IfSome left (λ input. UsesAreConnected command input)
uses_connected None command = tt
uses_connected (Some input) command = λ script runs. ((λ ps rest w e i. opened_connect script ps w i, λ w x es k e i. run_connect script w x es k e i), λ world comes. lines_in script world comes)

came_before : (script : machine.Script) (world : World) (r : Run) → OpeningStops script world r ⊎ EntryStops script world r → ComesTo script world
came_before script world r (inl (ps, rest, p, split, opened, stops)) = inl (ps, p ∷ rest, split, opened)
came_before script world r (inr (opened, es, rest, e, split, opens, leads, stops)) = inr (inl (es, e ∷ rest, split, (opened, opens, leads)))

pub stops_as_it_came : (left : Option (List ℕ)) (command : Option Command) → IfSome left (λ input. StopsAsItCame command input)
stops_as_it_came None command = tt
stops_as_it_came (Some input) command = λ script runs stop step left ends. let (world, stops, leaves) = stopped_leave script stop step left ends in (world, came_before script world (machine.Stopped stop step left) stops, leaves)
