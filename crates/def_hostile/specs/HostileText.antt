-- The text of a run in which vats are hostile.
use Rattle.std.specs.Prelude.{ℕ, List, [], ◌∷◌, ◌++◌}
use Rattle.def_event.specs.declared.event.Event.{Event as ShownEvent}
use Rattle.def_event.specs.declared.event.Event.TheVariants as event
use Rattle.def_event.specs.declared.raw.RawLine.TheVariants as raw
use Rattle.def_event.specs.Lines.{render, render_run}
use Rattle.def_machine.specs.Values.{Words}
use Rattle.def_run.specs.Text.{stop_line, vat_names}
use Rattle.def_hostile.specs.Claims.{Claim, spelled_event}
use Rattle.def_hostile.specs.ShownMarks.{shown_event}
use Rattle.def_hostile.specs.Hostile.{Play, Line, Told, Injected, NotInjected, Refused, Unread, LeftFrame, Scene, Acted, Plays, Breaks}
use Rattle.def_run.specs.Text.{opened_text}
use Rattle.def_hostile.specs.Hostile.{opened_hostile}
use Rattle.def_hostile.specs.ShownMarks.{opened_shown_marks}

-- a line, where these words were drawn and those gifts are claimed
unfoldable pub shown_line : List ℕ → List Claim → Line → List ShownEvent
shown_line draws cs (Told e) = shown_event draws (spelled_event cs e)
shown_line draws cs (Injected k v w bytes) = event.Raw (raw.Inject k v w bytes) ∷ []
shown_line draws cs (NotInjected k v w) = event.Raw (raw.InjectCut k v w) ∷ []
shown_line draws cs (Refused k v w place) = event.Raw (raw.Malformed k v w place) ∷ []
shown_line draws cs (Unread k v w bytes) = event.Raw (raw.Bytes k v w bytes) ∷ []
shown_line draws cs (LeftFrame v w bytes) = event.Raw (raw.LeftBytes v w bytes) ∷ []

unfoldable pub shown_lines : List ℕ → List Claim → List Line → List ShownEvent
shown_lines draws cs [] = []
shown_lines draws cs (l ∷ ls) = shown_line draws cs l ++ shown_lines draws cs ls

unfoldable pub shown_scene : Scene → List ShownEvent
shown_scene s = shown_lines s.world.drawn s.claims s.lines

unfoldable pub text : Play → Acted → Words
text play (Plays s) = render_run (vat_names play.script) (shown_scene s)
text play (Breaks c k s) = render_run (vat_names play.script) (shown_scene s) ++ (stop_line c k ++ 10 ∷ [])

-- the text with the frames
unfoldable pub wire_text : Play → Acted → Words
wire_text play (Plays s) = render (vat_names play.script) (shown_scene s)
wire_text play (Breaks c k s) = render (vat_names play.script) (shown_scene s) ++ (stop_line c k ++ 10 ∷ [])

-- opens each definition of this file, and of those below
unfoldable pub opened_hostile_text : Unit {0}
unfolding shown_line shown_lines shown_scene text wire_text opened_text opened_hostile opened_shown_marks
opened_hostile_text = tt
