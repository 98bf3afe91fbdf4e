-- What a vat hears in the next frame by its own numbers is what it reads of the note in names.
use Rattle.std.specs.Prelude.{◌≡◌, ℕ, List, ◌∷◌, Some, length, map, slice_get}
use Rattle.def_op.specs.Frames.{Operation}
use Rattle.def_machine.specs.Values.{Name, Local}
use Rattle.def_machine.specs.State.{Note, Vat}
use Rattle.def_machine.specs.Arrive.{Incoming}
use Rattle.def_run.specs.Connections.{Heard}
use Rattle.def_run.specs.Wire.{connected_at, frame_due}
use Rattle.def_run.specs.World.{World, names_of, read_note}
use Rattle.law_fate.specs.Name.Names.{names_in}
use Rattle.def_machine.specs.Maps as maps
use Rattle.def_machine.specs.Maps.{incoming}
use Rattle.law_machine.specs.Renamed.Stands.{Is, found}
use Rattle.law_frame.specs.Frame.Alike.{table_heard, names_heard}
use Rattle.law_frame.specs.Frame.Positions.{exported_with}
use Rattle.law_frame.specs.Heard.Hearing.{BetweenVats, as_heard}
use Rattle.def_run.specs.Vats.{Member, heard_in}
use Rattle.def_run.specs.Numbers.{Vats}
use Rattle.law_frame.specs.Local.Mirrors.{Mirrors, LearntAre}

-- what is new, whatever it is called
abbrev pub unnamed : {W : Type 0} → W → Unit {0}
unnamed a = tt

-- What vat u, which is m in numbers, hears in a frame from v is what it reads of note n in names: what comes to be known has the numbers behind those known before.
pub record HearsSo (x : World) (v u : ℕ) (s : Vat Name) (n : Note Name) (h : Heard Local (Note (Incoming Local Local))) : Type 0 where
  pub read : maps.note (incoming (found u (table_heard x u s n)) unnamed) h.read ≡ maps.note (incoming Is unnamed) (as_heard v u (read_note (names_of s) n))
  pub imports : map (found u (table_heard x u s n)) h.after.imports ≡ map Is (exported_with x v u n)
  pub known : h.after.known ≡ length (names_heard (names_in s.known) n)
  pub learnt : LearntAre u (table_heard x u s n) h.after.learnt

-- In each world of a run where the runs mirror each other, the next frame on a way that is not cut is heard so.
abbrev pub FramesAreHeardByNumbers : Type 0
FramesAreHeardByNumbers = BetweenVats (λ x v u s l. (X : Vats) (m : Member) → Mirrors x X → slice_get X.members u ≡ Some m → (n : Note Name) (ns : List (Note Name)) → l.notes ≡ n ∷ ns
    → (o : Operation) → frame_due (connected_at v u x.connections) (connected_at u v x.connections) ≡ Some o
    → (h : Heard Local (Note (Incoming Local Local))) × (heard_in v o m ≡ Some h) × HearsSo x v u s n h)
