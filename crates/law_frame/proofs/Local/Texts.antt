-- The texts of two runs that stand for one another.
use Rattle.std.proofs.Common.{refl, sym, append-nil}
use Rattle.def_event.specs.Lines.{render, render_run}
use Rattle.def_run.specs.World.{Goes, Stopped}
use Rattle.def_run.specs.Text as theirs
use Rattle.def_run.specs.Text.{shown_events, stop_text, history_of, draws_of, vat_names}
use Rattle.def_run.specs.Numbers.{Runs, Halts}
use Rattle.def_run.specs.LocalText as ours
use Rattle.law_frame.specs.Local.Statements.{TextsMirror}

pub texts_mirror : TextsMirror
unfolding theirs.text theirs.wire_text ours.text ours.wire_text stop_text history_of draws_of
texts_mirror script (Goes w) (Runs W) h = (
  rw (h.drawn, h.history) (sym (append-nil (render_run (vat_names script) (shown_events w.drawn w.history)))),
  rw (h.drawn, h.history) (sym (append-nil (render (vat_names script) (shown_events w.drawn w.history)))),
)
texts_mirror script (Stopped c k w) (Halts d n W) h = (rw (h.0, h.1, h.2, h.3) refl, rw (h.0, h.1, h.2, h.3) refl)
texts_mirror script (Goes w) (Halts d n W) h = absurd h
texts_mirror script (Stopped c k w) (Runs W) h = absurd h
