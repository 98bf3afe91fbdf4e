-- A play without hostile vats in the vats' own numbers, beside the run of its script in numbers.
use Rattle.std.specs.Prelude.{◌≡◌, ℕ, zero, false, List, [], ◌∷◌, ◌++◌, ◌⊎◌, Some, slice_get, map}
use Rattle.def_machine.specs.Values.{Local}
use Rattle.def_machine.specs.State.{Note, Vat, Stop, Done, Stops}
use Rattle.def_machine.specs.Arrive.{Incoming, arrive}
use Rattle.def_machine.specs.Receive.{receive}
use Rattle.def_run.specs.Connections.{Heard}
use Rattle.def_run.specs.Numbers as run
use Rattle.def_run.specs.Numbers.{Frame, Way, Vats, Course, Runs, Halts, way_at, ready, begins, open_from, steps_from, numbers}
use Rattle.def_run.specs.Vats.{Member, heard_in}
use Rattle.def_run.specs.World.{Script, Program, Entry}
use Rattle.def_hostile.specs.Arrivals.{sees, brings_nothing}
use Rattle.def_hostile.specs.Claims.{Claim}
use Rattle.def_hostile.specs.Hostile.{Play, Does, Told}
use Rattle.def_hostile.specs.Numbers.{Cast, Performed, Performs, Ceases, starts, opens_from, does, does_all, performs}

-- no vat is hostile, and what is done is the schedule
abbrev pub honest : Script → Play
honest script = record { script = script; hostile = []; doings = map Does script.schedule }

-- The cast of the vats of such a play: nothing is injected, nothing is claimed, and the lines are those of their history.
abbrev pub cast_of : Script → List Claim → Vats → Cast
cast_of script made X = record { vats = X; outsiders = (starts (honest script)).outsiders; raws = (starts (honest script)).raws; made = made; claims = []; lines = map Told X.history }

-- ---- outcomes

-- A step stopped at Y that began at X, and told and drew nothing.
pub record StoppedFrom (Y X : Vats) : Type 0 where
  pub drawn : Y.drawn ≡ X.drawn
  pub history : Y.history ≡ X.history

-- What is done goes where the run in numbers goes, to the cast of its vats, or stops as it does: for the same reason, in the same step, with what there was before that step.
abbrev pub ComesTo : Script → Course → Performed → Type 0
ComesTo script (Runs Y) p = (made : List Claim) × (p ≡ Performs (cast_of script made Y))
ComesTo script (Halts e n Y) p = (made : List Claim) × (X : Vats) × StoppedFrom Y X × (p ≡ Ceases e n (cast_of script made X))

-- The same of the end. The closing list stands in the lines; the run has it in its history, and the vats of the cast are those before it.
abbrev pub EndsIn : Script → Course → Performed → Type 0
EndsIn script (Runs Y) p = (made : List Claim) × (X : Vats) × (run.close script X ≡ Runs Y) × (p ≡ Performs (record (cast_of script made X) { lines = map Told Y.history }))
EndsIn script (Halts e n Y) p = (made : List Claim) × (X : Vats) × StoppedFrom Y X × (p ≡ Ceases e n (cast_of script made X))

-- ---- what is asked of a state

-- one outcome, or both stop for one reason
abbrev pub SameOutcome : Done Local (Unit {0}) → Done Local (Unit {0}) → Type 0
SameOutcome d e = (d ≡ e) ⊎ ((c : Stop) × (s : Vat Local) × (t : Vat Local) × (d ≡ Stops c s) × (e ≡ Stops c t))

-- What its receiver hears in the first frame of each way that is not cut tells it something, and is received as it arrives.
abbrev pub FramesAreReceived : Script → Vats → Type 0
FramesAreReceived script X = (v u : ℕ) (l : Way) (x : Frame) (xs : List Frame) (m : Member) (h : Heard Local (Note (Incoming Local Local)))
    → way_at v u X.ways ≡ Some l → l.cut ≡ false → l.frames ≡ x ∷ xs → slice_get X.members u ≡ Some m → heard_in v x.op m ≡ Some h
    → (brings_nothing (numbers script) v m h.read ≡ false) × SameOutcome (receive (numbers script) (sees v m) v h.read (ready X m.vat)) (arrive (numbers script) v h.read (ready X m.vat))

-- in each state that the schedule comes through
abbrev pub FramesAreReceivedInTheRun : Script → Type 0
FramesAreReceivedInTheRun script = (es rest : List Entry) (W X : Vats) → script.schedule ≡ es ++ rest → open_from script zero script.vats (begins script) ≡ Runs W → steps_from script es 1 W ≡ Runs X → FramesAreReceived script X

-- ---- laws

-- Each entry does with the cast of a state what the run in numbers makes of the state.
abbrev pub StepsAlike : Type 0
StepsAlike = (script : Script) (X : Vats) → FramesAreReceived script X → (made : List Claim) (e : Entry) (k : ℕ) → ComesTo script (run.step script e k X) (does (honest script) (Does e) k (cast_of script made X))

-- So does the play of the whole run in numbers, and of each front of it.
abbrev pub PlaysAreRunsInNumbers : Type 0
PlaysAreRunsInNumbers = (script : Script) → FramesAreReceivedInTheRun script
    → ((ps rest : List Program) → script.vats ≡ ps ++ rest → ComesTo script (open_from script zero ps (begins script)) (opens_from (honest script) zero ps (starts (honest script))))
    × ((es rest : List Entry) (W : Vats) (made : List Claim) → script.schedule ≡ es ++ rest → open_from script zero script.vats (begins script) ≡ Runs W → ComesTo script (steps_from script es 1 W) (does_all (honest script) (map Does es) 1 (cast_of script made W)))
    × EndsIn script (run.run script) (performs (honest script))
