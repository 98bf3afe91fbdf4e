-- The lines of a run are told step by step: what a world's history shows by the words drawn so far is what it shows in the end.
use Rattle.std.specs.Prelude.{◌≡◌, ℕ, zero, List, ◌++◌, length}
use Rattle.def_event.specs.declared.event.Event.{Event as ShownEvent}
use Rattle.def_event.specs.Lines.{render, render_run}
use Rattle.def_run.specs.Text.{vat_names, shown_events, draws_of, history_of, text, wire_text}
use Rattle.def_run.specs.World.{Script, Program, Entry, World, Run, Goes, begins, open_from, steps_from, run}
use Rattle.law_fate.specs.Name.Runs.{KnowsOnce}

abbrev pub IsFrontOf : List ShownEvent → List ShownEvent → Type 0
IsFrontOf xs ys = (zs : List ShownEvent) × (ys ≡ xs ++ zs)

-- What the events so far show, gifts by the words drawn so far, is the front of what the run shows, gifts by all words that are drawn in it; whether the run goes to its end or stops.
abbrev pub IsShownFirst : World → Run → Type 0
IsShownFirst x r = IsFrontOf (shown_events x.drawn x.history) (shown_events (draws_of r) (history_of r))

-- so it is of a world of a run, and any entries that come after it
abbrev pub LinesAreShownSoFar : Type 0
LinesAreShownSoFar = (script : Script) → KnowsOnce script → (w x : World) (es fs : List Entry) (k l : ℕ) → open_from script zero script.vats (begins script) ≡ Goes w → steps_from script es k w ≡ Goes x → IsShownFirst x (steps_from script fs l x)

-- of a world that a script's schedule comes through, and the whole run
abbrev pub RunsShowLinesSoFar : Type 0
RunsShowLinesSoFar = (script : Script) → KnowsOnce script → (w x : World) (es fs : List Entry) → script.schedule ≡ es ++ fs → open_from script zero script.vats (begins script) ≡ Goes w → steps_from script es 1 w ≡ Goes x → IsShownFirst x (run script)

-- and of the world after some of the opening turns
abbrev pub OpeningTurnsShowLinesSoFar : Type 0
OpeningTurnsShowLinesSoFar = (script : Script) → KnowsOnce script → (x : World) (ps rest : List Program) → script.vats ≡ ps ++ rest → open_from script zero ps (begins script) ≡ Goes x → IsShownFirst x (open_from script (length ps) rest x) × IsShownFirst x (run script)

-- ---- texts

abbrev pub BeginsText : List ℕ → List ℕ → Type 0
BeginsText xs ys = (zs : List ℕ) × (ys ≡ xs ++ zs)

-- the text of the events so far is the front of that of the run, without frames and with them
abbrev pub IsWrittenFirst : Script → World → Run → Type 0
IsWrittenFirst script x r = BeginsText (render_run (vat_names script) (shown_events x.drawn x.history)) (text script r) × BeginsText (render (vat_names script) (shown_events x.drawn x.history)) (wire_text script r)

abbrev pub TextsAreWrittenSoFar : Type 0
TextsAreWrittenSoFar = (script : Script) → KnowsOnce script
    → ((x : World) (ps rest : List Program) → script.vats ≡ ps ++ rest → open_from script zero ps (begins script) ≡ Goes x → IsWrittenFirst script x (run script))
    × ((w x : World) (es fs : List Entry) → script.schedule ≡ es ++ fs → open_from script zero script.vats (begins script) ≡ Goes w → steps_from script es 1 w ≡ Goes x → IsWrittenFirst script x (run script))
