-- What is told of a step.
use Rattle.std.specs.Prelude.{ℕ, List}
use Rattle.def_run.specs.Names.{Names, Told, names_after}
use Rattle.def_run.specs.Numbers.{Vats, frames_of, lines_of, name_at_vat}
use Rattle.def_machine.specs.State.{Vat}
use Rattle.def_machine.specs.Values.{Name, Local}
use Rattle.def_run.specs.Connections.{Connection}
use Rattle.def_run.specs.Text.{shown_events}
use Rattle.ev_resident.specs.Names.{Named}
use Rattle.ev_resident.specs.OutcomeStanding.{NamesStand}
use Rattle.ev_resident.specs.Framing.{AreOutgoing}
use Rattle.ev_resident.specs.declared.outgoing.Outgoing.{Outgoing}
use Rattle.ev_step_text.specs.Accounts.{More}
use Rattle.ev_step_text.specs.declared.account.Account.{Account}

-- the names of the numbers of vat u, by what the step told, and a note before it
abbrev pub naming_then : Vats → ℕ → Names → Vat Local → Vat Local → List Name → List Told → Local → Name
naming_then w u t s last messages brought = name_at_vat w.members u (names_after u t last messages brought s)

-- After a step that found the vat so, and left it so, its names stand for those of the run, its lines are told, and the frames to be pushed
-- on its ways are those of the run.
pub record IsTold (w : Vats) (u : ℕ) (t : Names) (s last : Vat Local) (cs : List (Connection Local)) (messages : List Name) (brought : List Told) (before after : Account) (ys : List Outgoing) (n : Named) : Type 0 where
  pub names : NamesStand s.drawn u s (names_after u t last messages brought s) n
  pub history : More before after (shown_events s.drawn (lines_of w.ways u (naming_then w u t s last messages brought) s.happened))
  pub outgoing : AreOutgoing s.drawn (frames_of s (naming_then w u t s last messages brought) s.outbox cs) ys
