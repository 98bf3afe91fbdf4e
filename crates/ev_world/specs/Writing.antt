-- A run whose lines are written after each step.
use Rattle.std.specs.Prelude.{◌≡◌, ℕ, Bool, List, [], ◌++◌, Result, Ok, Err}
use Rattle.std.specs.declared.option.Option.{Option}
use Rattle.std.specs.Io.KnownBytes.{Appends}
use Rattle.def_event.specs.Lines.{render}
use Rattle.def_run.specs.Numbers.{Course, Runs, Halts, Vats, run}
use Rattle.def_machine.specs.State as machine
use Rattle.def_machine.specs.Values.{Words}
use Rattle.def_run.specs.Text.{shown_events}
use Rattle.def_run.specs.World.{Script}
use Rattle.ev_resident.specs.declared.VatStop.{VatStop}
use Rattle.ev_resident.specs.declared.VatStop.TheVariants.{Fuel, Deep, WordRepeated, Astray, Memory}
use Rattle.ev_world.specs.Running.{end_of, told_text}
use Rattle.ev_world.specs.Standing.{Comes, IsWorld, told_so}
use Rattle.ev_world.specs.declared.run.RunEnd.{RunEnd}
use Rattle.ev_world.specs.declared.world.World.{World}
use Rattle.ev_world.specs.declared.writing.Halt.{Halt}
use Rattle.ev_world.specs.declared.writing.Halt.TheVariants.{Stopped, Unwritten}
use Rattle.ev_world.specs.declared.writing.Unfinished.{Unfinished}

-- the state, as if nothing had been told
abbrev pub untold : Vats → Vats
untold w = record w { history = [] }

-- the lines of a state, where the vats have these names, with the frames where they are asked for
abbrev pub text_at : List Words → Bool → Vats → List ℕ
text_at names wire w = render names (told_so wire (shown_events w.drawn w.history))

-- the lines of the steps of a course
abbrev pub text_to : List Words → Bool → Course → List ℕ
text_to names wire (Runs w) = text_at names wire w
text_to names wire (Halts c k w) = text_at names wire w

-- the first begins the second
abbrev pub IsFront : List ℕ → List ℕ → Type 0
IsFront xs ys = (zs : List ℕ) × (ys ≡ xs ++ zs)

-- a front of that text was appended
abbrev pub AppendsFront : Option (List ℕ) → Option (List ℕ) → List ℕ → Type 0
AppendsFront held held' text = (written : List ℕ) × Appends held held' written × IsFront written text

-- the whole text was appended, or what was to be written was not finished and a front of it was
abbrev pub WritesSo : {A E : Type 0} → Option (List ℕ) → Option (List ℕ) → Result A E → List ℕ → Type 0
WritesSo held held' (Ok a) text = Appends held held' text
WritesSo held held' (Err e) text = AppendsFront held held' text

-- ---- a step

-- The first course is the second, with what that state told before it. One that halts told no more.
abbrev pub IsBehind : Vats → Course → Course → Type 0
IsBehind w (Runs y) (Runs x) = y ≡ record x { history = w.history ++ x.history }
IsBehind w (Halts c k y) (Halts d j x) = (c ≡ d) × (k ≡ j) × (y.drawn ≡ w.drawn) × (y.history ≡ w.history)
IsBehind w (Runs y) (Halts d j x) = ⊥
IsBehind w (Halts c k y) (Runs x) = ⊥

-- A step from that state came to the first course, as it comes to the second where nothing was told before, and what was told is told alike.
abbrev pub IsStep : Vats → Course → Course → Type 0
IsStep w course alone = IsBehind w course alone × ((y : Vats) → course ≡ Runs y → shown_events y.drawn w.history ≡ shown_events w.drawn w.history)

-- Between two steps the lines of a state are written, and the code holds all else of it.
pub record IsWritten (S : Script) (names : List Words) (wire : Bool) (held held' : Option (List ℕ)) (w : Vats) (c : World) : Type 0 where
  pub world : IsWorld S (untold w) c
  pub written : Appends held held' (text_at names wire w)

-- ---- what a step comes to

-- a step of that number stopped so, and the lines of the steps before are written
abbrev pub StopsWith : machine.Stop → ℕ → List Words → Bool → Option (List ℕ) → Option (List ℕ) → Course → Type 0
StopsWith c step names wire held held' course = (w : Vats) × (course ≡ Halts c step w) × Appends held held' (text_at names wire w)

-- where memory ran out a front of the lines is written
abbrev pub StopsAs : VatStop → ℕ → List Words → Bool → Option (List ℕ) → Option (List ℕ) → Course → Type 0
StopsAs Fuel step names wire held held' course = StopsWith machine.Fuel step names wire held held' course
StopsAs Deep step names wire held held' course = StopsWith machine.Deep step names wire held held' course
StopsAs (WordRepeated i j) step names wire held held' course = StopsWith (machine.Repeated i j) step names wire held held' course
StopsAs Astray step names wire held held' course = StopsWith machine.Astray step names wire held held' course
StopsAs Memory step names wire held held' course = AppendsFront held held' (text_to names wire course)

-- and so where a write failed
abbrev pub EndsAs : Halt → List Words → Bool → Option (List ℕ) → Option (List ℕ) → Course → Type 0
EndsAs (Stopped h) names wire held held' course = StopsAs h.stop h.step names wire held held' course
EndsAs (Unwritten why) names wire held held' course = AppendsFront held held' (text_to names wire course)

-- what one step, or steps one after the other, came to in the code and in what is written
abbrev pub IsCourse : Script → List Words → Bool → Option (List ℕ) → Option (List ℕ) → Result (Unit {0}) Halt → Course → World → Type 0
IsCourse S names wire held held' (Ok u) course c = Comes (λ (w : Vats). IsWritten S names wire held held' w c) course
IsCourse S names wire held held' (Err halt) course c = EndsAs halt names wire held held' course

-- ---- the run

-- What the steps of a run came to, one after the other, in the code and in what is written. Where they did not go on, the run ended so.
abbrev pub GoesTo : Script → List Words → Bool → Option (List ℕ) → Option (List ℕ) → Result (Unit {0}) Halt → Course → World → Type 0
GoesTo S names wire held held' (Ok u) course c = Comes (λ (w : Vats). IsWritten S names wire held held' w c) course
GoesTo S names wire held held' (Err halt) course c = EndsAs halt names wire held held' (run S)

-- the whole text of the run was appended, and that is how it ended; or a front of the text was appended
abbrev pub WritesRun : Script → Bool → Option (List ℕ) → Option (List ℕ) → Result RunEnd Unfinished → Type 0
WritesRun S wire held held' (Ok e) = (e ≡ end_of (run S)) × Appends held held' (told_text wire S)
WritesRun S wire held held' (Err why) = AppendsFront held held' (told_text wire S)
