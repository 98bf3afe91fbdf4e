-- A run that is in order is shown in order.
use Rattle.def_run.specs.World.{run}
use Rattle.def_run.specs.Text.{draws_of, history_of}
use Rattle.law_trace.proofs.Shown.Whole.{shown_in_order}
use Rattle.law_trace.specs.Told.Told.{WhatIsCarriedWasSent, RunsAreShownInOrder}
use Rattle.law_trace.proofs.Told.Placed.{in_place}
use Rattle.law_trace.proofs.Told.Brought.{carries_were_sent}
use Rattle.law_trace.proofs.Told.Apart.{messages_named, names_apart}

pub carried_was_sent : WhatIsCarriedWasSent
carried_was_sent script = carries_were_sent script

pub shown_runs : RunsAreShownInOrder
shown_runs script once follow ordered = shown_in_order (draws_of (run script)) (history_of (run script)) (in_place script (draws_of (run script))) (messages_named script once) (carries_were_sent script) (names_apart script once follow) ordered
