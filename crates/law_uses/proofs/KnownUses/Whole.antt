-- No line of a run fails the judge of uses.
use Rattle.def_run.specs.World.{run}
use Rattle.def_run.specs.Text.{draws_of}
use Rattle.law_uses.proofs.SettledApart.Settled.{settled_apart}
use Rattle.law_uses.proofs.Uses.Texts.{messages_are_as_sent}
use Rattle.law_uses.specs.KnownUses.KnownUses.{HistoriesHoldUses, RunsHoldUses}
use Rattle.law_uses.proofs.KnownUses.Texts.{lines_use_what_is_known}
use Rattle.law_uses.proofs.KnownUses.Back.{calls_give_back_what_is_known}

pub histories_hold_uses : HistoriesHoldUses
histories_hold_uses script draws apart k e at = let sent = messages_are_as_sent script draws k e at in (lines_use_what_is_known script draws apart k e at, calls_give_back_what_is_known script draws apart k e at, sent.0, sent.1)

pub runs_hold_uses : RunsHoldUses
runs_hold_uses script once follows = histories_hold_uses script (draws_of (run script)) (once, follows, settled_apart script once follows)
