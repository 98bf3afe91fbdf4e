-- How a run in the code ended, and its text.
use Rattle.std.specs.Prelude.{◌≡◌, ℕ, List, [], ◌∷◌, ◌++◌, Result, string_bytes, IfOk}
use Rattle.def_event.specs.Lines.{render}
use Rattle.def_event.specs.declared.event.Event.{Event as ShownEvent}
use Rattle.def_run.specs.Numbers.{Course, begins, open_from, steps_from, then_runs}
use Rattle.def_machine.specs.State.{Stop, Fuel, Deep, Repeated, Astray}
use Rattle.def_machine.specs.Values.{Words}
use Rattle.def_run.specs.Text.{stop_line}
use Rattle.def_run.specs.World.{Script}
use Rattle.ev_base.specs.declared.memory.Memory.{Memory}
use Rattle.ev_resident.specs.declared.VatStop.{VatStop}
use Rattle.ev_resident.specs.declared.VatStop.TheVariants as stop
use Rattle.ev_world.specs.declared.run.RunEnd.{RunEnd}
use Rattle.ev_world.specs.declared.run.RunEnd.TheVariants as end
use Rattle.ev_world.specs.declared.run.Told.{Told}

-- the openings and the entries of a run, without the closing list
abbrev pub course_of : Script → Course
course_of S = then_runs (open_from S 0 S.vats (begins S)) (steps_from S S.schedule 1)

-- it ended so, and its text is this
abbrev pub Tells : Told → RunEnd → List ℕ → Type 0
Tells told e text = (told.end ≡ e) × (string_bytes told.text ≡ text)

-- the line of a stop
abbrev pub line_of_stop : Stop → ℕ → List ℕ
line_of_stop c k = stop_line c k ++ 10 ∷ []

abbrev pub stopped_text : List Words → List ShownEvent → Stop → ℕ → List ℕ
stopped_text names history c k = render names history ++ line_of_stop c k

-- how a run ended where a step of that number stopped so, with the line that tells of it, unless memory ran out
abbrev pub StoppedAs : VatStop → ℕ → Result Told Memory → Type 0
StoppedAs stop.Fuel k r = IfOk r (λ told. Tells told (end.FuelSpent k) (line_of_stop Fuel k))
StoppedAs stop.Deep k r = IfOk r (λ told. Tells told (end.TooDeep k) (line_of_stop Deep k))
StoppedAs (stop.WordRepeated i j) k r = IfOk r (λ told. Tells told (end.WordRepeated i j) (line_of_stop (Repeated i j) k))
StoppedAs stop.Astray k r = IfOk r (λ told. Tells told (end.Astray k) (line_of_stop Astray k))
StoppedAs stop.Memory k r = IfOk r (λ told. ⊥)
