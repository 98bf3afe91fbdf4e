-- When the run in numbers stands where the machine's run stands.
use Rattle.std.specs.Prelude.{◌≡◌, ℕ, ◌≤◌, ◌<◌, false, List, [], ◌∷◌, Some, drop, length, map, slice_get}
use Rattle.def_machine.specs.Values.{Name, Object, Gift, Local}
use Rattle.def_machine.specs.State.{Vat}
use Rattle.def_run.specs.Connections.{Learnt}
use Rattle.def_run.specs.Wire.{Connected, connected_at}
use Rattle.def_run.specs.World.{Link, World, Run, Goes, Stopped, readied}
use Rattle.law_fate.specs.Name.Names.{AllOf, names_in}
use Rattle.law_machine.specs.Renamed.Stands.{Table, Is, found, StandsFor}
use Rattle.law_reference.specs.Reference.Exports.{exported_at}
use Rattle.law_reference.specs.Reference.Tables.{table_of}
use Rattle.law_frame.specs.Frame.Together.{TablesMay, changed_tables}
use Rattle.law_frame.specs.Frame.OwnFrames.{refers}
use Rattle.def_run.specs.Vats.{Member, connection_for}
use Rattle.def_run.specs.Numbers.{Frame, Way, Vats, Course, Runs, Halts, way_at, far_name, ready}

-- ---- links

pub record WayMirrors (l : Link) (x : Way) : Type 0 where
  pub from : x.from ≡ l.from
  pub to : x.to ≡ l.to
  pub cut : x.cut ≡ l.cut
  pub notes : map (λ (f : Frame). f.note) x.frames ≡ l.notes

-- one after the other
abbrev pub WaysMirror : List Link → List Way → Type 0
WaysMirror [] [] = Unit {0}
WaysMirror (l ∷ ls) (x ∷ xs) = WayMirrors l x × WaysMirror ls xs
WaysMirror [] (x ∷ xs) = ⊥
WaysMirror (l ∷ ls) [] = ⊥

-- The frames on the way are those that its sender, with connection c, wrote, and that have not arrived at the vat with connection d.
pub record FramesDue (c d : Connected) (x : Way) : Type 0 where
  pub ops : map (λ (f : Frame). f.op) x.frames ≡ drop d.heard c.written
  pub arrived : d.heard ≤ length c.written

-- ---- vats

-- what a vat learnt as gifts are those gifts
abbrev pub LearntAre : ℕ → Table → List (Learnt Local) → Type 0
LearntAre u t gs = AllOf (λ g. found u t g.name ≡ Is (Gift g.host g.number)) gs

-- each object that another vat exported to vat u, as the notes tell, is what the numbers of that vat have at the position
abbrev pub PositionsMirror : World → Vats → ℕ → Type 0
PositionsMirror w W u = (h p j : ℕ) → exported_at w.links u h p ≡ Some j → far_name W.members u h p ≡ Object h j

-- vat u, which is in state s, and is m in numbers
pub record VatMirrors (w : World) (W : Vats) (u : ℕ) (s : Vat Name) (m : Member) : Type 0 where
  pub placed : s.number ≡ u
  pub stands : StandsFor u (table_of w u s) (ready W m.vat) (readied w s)
  pub known : m.names.known ≡ names_in s.known
  pub mails : m.names.mails ≡ s.mails
  pub positions : PositionsMirror w W u
  pub peers : length m.connections ≡ length W.members
  pub connections : (v : ℕ) → v < length W.members → changed_tables (found u (table_of w u s)) (connection_for v m) ≡ changed_tables Is (connected_at u v w.connections).tables
  pub learnt : LearntAre u (table_of w u s) m.learnt

-- no message has a number in what vat u has for each of so many vats
abbrev pub HoldReferences : ℕ → ℕ → List Connected → Type 0
HoldReferences u n cs = (v : ℕ) → v < n → TablesMay refers (connected_at u v cs).tables

-- ---- worlds

pub record Mirrors (w : World) (W : Vats) : Type 0 where
  pub fuel : W.fuel ≡ w.fuel
  pub drawn : W.drawn ≡ w.drawn
  pub history : W.history ≡ w.history
  pub count : length W.members ≡ length w.vats
  pub ways : WaysMirror w.links W.ways
  pub ends : (v u : ℕ) (x : Way) → way_at v u W.ways ≡ Some x → (v < length W.members) × (u < length W.members)
  pub frames : (v u : ℕ) (x : Way) → way_at v u W.ways ≡ Some x → x.cut ≡ false → FramesDue (connected_at v u w.connections) (connected_at u v w.connections) x
  pub references : (v : ℕ) → v < length W.members → HoldReferences v (length W.members) w.connections
  pub vats : (u : ℕ) (s : Vat Name) (m : Member) → slice_get w.vats u ≡ Some s → slice_get W.members u ≡ Some m → VatMirrors w W u s m

-- Both run on so, or both stop in the same step, for the same reason, with the same draws and history.
abbrev pub RunMirrors : Run → Course → Type 0
RunMirrors (Goes w) (Runs W) = Mirrors w W
RunMirrors (Stopped c k w) (Halts d n W) = (c ≡ d) × (k ≡ n) × (W.drawn ≡ w.drawn) × (W.history ≡ w.history)
RunMirrors (Goes w) (Halts d n W) = ⊥
RunMirrors (Stopped c k w) (Runs W) = ⊥
