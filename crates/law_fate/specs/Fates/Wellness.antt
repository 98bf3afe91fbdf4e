-- In every world of a run all is well in each vat, and with each note under way.
use Rattle.std.specs.Prelude.{◌≡◌, ℕ, Some, slice_get}
use Rattle.def_machine.specs.Values.{Name}
use Rattle.def_machine.specs.State.{Vat}
use Rattle.def_run.specs.World.{Link, World}
use Rattle.law_fate.specs.Fates.Lasting.{Each, KnownWell, NoteWell}
use Rattle.law_fate.specs.Fates.FateRuns.{InRuns}

pub record WorldWell (w : World) : Type 0 where
  -- what is known of each name, in each vat
  pub vats : (v : ℕ) (s : Vat Name) → slice_get w.vats v ≡ Some s → Each KnownWell s.known
  -- each note on each link
  pub links : Each (λ (l : Link). Each NoteWell l.notes) w.links

abbrev pub RunsStayWell : Type 0
RunsStayWell = InRuns WorldWell
