-- The text of a run in the vats' own numbers in which vats are hostile.
use Rattle.std.specs.Prelude.{List, [], ◌∷◌, ◌++◌}
use Rattle.def_event.specs.declared.event.Event.{Event as ShownEvent}
use Rattle.def_event.specs.Lines.{render, render_run}
use Rattle.def_machine.specs.Values.{Words}
use Rattle.def_run.specs.Text.{stop_line, vat_names}
use Rattle.def_hostile.specs.Hostile.{Play}
use Rattle.def_hostile.specs.HostileText.{shown_lines}
use Rattle.def_hostile.specs.Numbers.{Cast, Performed, Performs, Ceases}
use Rattle.def_hostile.specs.HostileText.{opened_hostile_text}
use Rattle.def_hostile.specs.Numbers.{opened_hostile_numbers}

unfoldable pub shown_cast : Cast → List ShownEvent
shown_cast c = shown_lines c.vats.drawn c.claims c.lines

unfoldable pub text : Play → Performed → Words
text play (Performs c) = render_run (vat_names play.script) (shown_cast c)
text play (Ceases e k c) = render_run (vat_names play.script) (shown_cast c) ++ (stop_line e k ++ 10 ∷ [])

-- the text with the frames
unfoldable pub wire_text : Play → Performed → Words
wire_text play (Performs c) = render (vat_names play.script) (shown_cast c)
wire_text play (Ceases e k c) = render (vat_names play.script) (shown_cast c) ++ (stop_line e k ++ 10 ∷ [])

-- opens each definition of this file, and of those below
unfoldable pub opened_numbers_text : Unit {0}
unfolding shown_cast text wire_text opened_hostile_numbers opened_hostile_text
opened_numbers_text = tt
