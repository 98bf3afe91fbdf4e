-- The history of a run, and what is read of its text, hold uses.
use Rattle.std.proofs.Common.{None}
use Rattle.def_run.specs.World.{run}
use Rattle.def_event.specs.Uses.{JudgesUses}
use Rattle.law_uses.proofs.KnownUses.Whole.{runs_hold_uses}
use Rattle.law_read.proofs.ReadScripts.Meets.{accepted}
use Rattle.law_schedule.specs.Scripts.{machine_script}
use Rattle.law_text.specs.Text.Runs.{events_of}
use Rattle.law_read.specs.ReadUses.Uses.{TextsHoldUses}
use Rattle.law_read.proofs.ReadUses.Judged.{judged_as_read}

pub uses_hold : TextsHoldUses
uses_hold bytes s e depth tree are =
    let m = machine_script depth tree s in
    let meets = accepted bytes s e depth tree in
    let held : JudgesUses (events_of (run m)) None = runs_hold_uses m meets.0 meets.2 in
    (held, (judged_as_read bytes s e depth tree are).judged.0 held)
