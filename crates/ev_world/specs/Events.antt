-- The events of a run in numbers of which its text has a line each, and the end that a stop is.
use Rattle.std.specs.Prelude.{◌≡◌, ℕ, List, filter, Result, IfOk}
use Rattle.def_event.specs.Lines.{is_no_frame}
use Rattle.def_event.specs.declared.event.Event.{Event as ShownEvent}
use Rattle.def_run.specs.Numbers.{Course, Runs, Halts}
use Rattle.def_run.specs.Text.{shown_events}
use Rattle.ev_base.specs.declared.memory.Memory.{Memory}
use Rattle.ev_resident.specs.declared.VatStop.{VatStop}
use Rattle.ev_resident.specs.declared.VatStop.TheVariants as stop
use Rattle.ev_world.specs.declared.run.RunEnd.{RunEnd}
use Rattle.ev_world.specs.declared.run.RunEnd.TheVariants as end

abbrev pub events_of : Course → List ShownEvent
events_of (Runs w) = filter is_no_frame (shown_events w.drawn w.history)
events_of (Halts c k w) = filter is_no_frame (shown_events w.drawn w.history)

-- how a run ended of which the step of that number stopped so, unless memory ran out
abbrev pub EndsAs : VatStop → ℕ → Result RunEnd Memory → Type 0
EndsAs stop.Fuel k r = IfOk r (λ e. e ≡ end.FuelSpent k)
EndsAs stop.Deep k r = IfOk r (λ e. e ≡ end.TooDeep k)
EndsAs (stop.WordRepeated i j) k r = IfOk r (λ e. e ≡ end.WordRepeated i j)
EndsAs stop.Astray k r = IfOk r (λ e. e ≡ end.Astray k)
EndsAs stop.Memory k r = IfOk r (λ e. ⊥)
