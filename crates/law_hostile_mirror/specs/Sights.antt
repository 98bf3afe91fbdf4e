-- What the tables of an honest vat tell of a note that comes in, in numbers and in names.
use Rattle.std.specs.Prelude.{◌≡◌, ℕ, ◌<◌, false, Some, length, slice_get}
use Rattle.def_machine.specs.State.{Vat}
use Rattle.def_machine.specs.Values.{Name}
use Rattle.def_run.specs.Entered.{sight_by}
use Rattle.def_run.specs.Vats.{Member}
use Rattle.def_run.specs.Wire.{connected_at}
use Rattle.def_run.specs.World.{names_of}
use Rattle.def_hostile.specs.Arrivals.{sees}
use Rattle.def_hostile.specs.Hostile.{Play, Scene, is_empty, is_hostile}
use Rattle.def_hostile.specs.Numbers.{Cast}
use Rattle.law_machine.specs.Renamed.Stands.{Table, IsTable}
use Rattle.law_hostile_frame.specs.Mirrors.{SceneMirrors}
use Rattle.law_hostile_frame.specs.Tables.{table_in}
use Rattle.law_hostile_mirror.specs.Receives.{SightsAgree}

-- what stands in the one table stands in the other
abbrev pub GoesOn : Table → Table → Type 0
GoesOn t z = ((k : ℕ) (n : Name) → slice_get t.names k ≡ Some n → slice_get z.names k ≡ Some n) × ((k : ℕ) (n : Name) → slice_get t.mails k ≡ Some n → slice_get z.mails k ≡ Some n) × ((h p j : ℕ) → t.exports h p ≡ Some j → z.exports h p ≡ Some j)

-- Where scene and cast stand for one another, the tables of an honest vat tell the same of its peer's notes, by each table that tells things apart and goes on from that of the scene.
abbrev pub SightsAgreeInScenes : Type 0
SightsAgreeInScenes = (play : Play) (v u : ℕ) (s : Scene) (c : Cast) (t : Vat Name) (m : Member) (T : Table) → SceneMirrors play s c → is_empty play.hostile ≡ false → is_hostile play u ≡ false → v < length c.vats.members
    → slice_get s.world.vats u ≡ Some t → slice_get c.vats.members u ≡ Some m → IsTable u T → GoesOn (table_in s.world u t) T → SightsAgree u T (sees v m) (sight_by (names_of t) (connected_at u v s.world.connections).tables)
