-- The text of a run in numbers.
use Rattle.std.specs.Prelude.{[], ◌∷◌, ◌++◌}
use Rattle.def_event.specs.Lines.{render, render_run}
use Rattle.def_machine.specs.Values.{Words}
use Rattle.def_run.specs.Text.{shown_events, stop_line, vat_names}
use Rattle.def_run.specs.Text.{opened_text}
use Rattle.def_run.specs.World.{Script}
use Rattle.def_run.specs.Numbers.{Course, Runs, Halts}
use Rattle.def_run.specs.Numbers.{opened_numbers}

unfoldable pub text : Script → Course → Words
text script (Runs w) = render_run (vat_names script) (shown_events w.drawn w.history)
text script (Halts c k w) = render_run (vat_names script) (shown_events w.drawn w.history) ++ (stop_line c k ++ 10 ∷ [])

-- the text with the frames
unfoldable pub wire_text : Script → Course → Words
wire_text script (Runs w) = render (vat_names script) (shown_events w.drawn w.history)
wire_text script (Halts c k w) = render (vat_names script) (shown_events w.drawn w.history) ++ (stop_line c k ++ 10 ∷ [])

-- opens each definition of this file, and of those below
unfoldable pub opened_text_by_numbers : Unit {0}
unfolding text wire_text opened_numbers opened_text
opened_text_by_numbers = tt
