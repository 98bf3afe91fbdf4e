-- When the run with hostile vats in the vats' own numbers stands where the run in names stands.
use Rattle.std.specs.Prelude.{◌≡◌, ℕ, ◌<◌, true, false, List, [], Some, is_some, length, map, slice_get}
use Rattle.def_machine.specs.Values.{Name, Object, Gift, Local, Obj, Prom, Far, Mess}
use Rattle.def_machine.specs.State.{Vat}
use Rattle.def_run.specs.Connections.{learnt_at}
use Rattle.def_run.specs.Marks.{base}
use Rattle.def_run.specs.Names.{Names}
use Rattle.def_run.specs.Numbers.{Way, Vats, way_at, far_name, name_at_vat, left_member, ready}
use Rattle.def_run.specs.Vats.{Member, connection_for}
use Rattle.def_run.specs.Wire.{connected_at, is_object}
use Rattle.def_run.specs.World.{World, has_name, left_vat, readied}
use Rattle.def_hostile.specs.Claims.{Claim, is_claimed, is_made}
use Rattle.def_hostile.specs.Hostile.{Play, Scene, Acted, Plays, Breaks, is_empty, is_hostile}
use Rattle.def_hostile.specs.HostileText as names
use Rattle.def_hostile.specs.Numbers.{Cast, Performed, Performs, Ceases}
use Rattle.def_hostile.specs.Made.{made_by}
use Rattle.def_hostile.specs.NumbersText as numbers
use Rattle.def_hostile.specs.Outsiders.{Outsider}
use Rattle.law_fate.specs.Name.Names.{AllOf, names_in}
use Rattle.law_machine.specs.Renamed.Stands.{Is, found, StandsFor}
use Rattle.law_frame.specs.Frame.Together.{changed_tables}
use Rattle.law_frame.specs.Local.Mirrors.{WaysMirror, FramesDue, HoldReferences, LearntAre}
use Rattle.law_hostile_frame.specs.Tables.{had_at, table_in}

-- ---- vats

-- each object that another vat has exported to vat u is what the numbers of that vat have at the position
abbrev pub PositionsMirror : World → Vats → ℕ → Type 0
PositionsMirror w W u = (h p j : ℕ) → had_at w.connections u h p ≡ Some j → far_name W.members u h p ≡ Object h j

-- vat u, which is in state s, and is m in numbers
pub record VatMirrors (w : World) (W : Vats) (u : ℕ) (s : Vat Name) (m : Member) : Type 0 where
  pub placed : s.number ≡ u
  pub stands : StandsFor u (table_in w u s) (ready W m.vat) (readied w s)
  pub known : m.names.known ≡ names_in s.known
  pub mails : m.names.mails ≡ s.mails
  pub positions : PositionsMirror w W u
  pub peers : length m.connections ≡ length W.members
  pub connections : (v : ℕ) → v < length W.members → changed_tables (found u (table_in w u s)) (connection_for v m) ≡ changed_tables Is (connected_at u v w.connections).tables
  pub learnt : LearntAre u (table_in w u s) m.learnt

-- An honest vat u. Where a vat is hostile, what it knows as a gift, under a key without a mark, is what it learnt as one.
pub record HonestMirrors (play : Play) (w : World) (W : Vats) (u : ℕ) (s : Vat Name) (m : Member) : Type 0 where
  pub vat : VatMirrors w W u s m
  pub knows : is_empty play.hostile ≡ false → (h i : ℕ) → (h ≡ u → ⊥) → base i ≡ i → has_name (names_in s.known) (Gift h i) ≡ is_some (learnt_at h i m.learnt)

-- a number of a hostile vat that has these names: an object of its own, or a name that is none
abbrev pub IsPlain : List Name → Local → Type 0
IsPlain ns (Obj i) = Unit {0}
IsPlain ns (Prom k) = (n : Name) × (slice_get ns k ≡ Some n) × (is_object n ≡ false)
IsPlain ns (Far h p) = ⊥
IsPlain ns (Mess j) = ⊥

-- A hostile vat h, whose record is r, has in numbers three counts and what it exported, and nothing is left at it.
pub record OutsiderMirrors (w : World) (W : Vats) (play : Play) (h : ℕ) (r : Vat Name) (o : Outsider) (g : Member) : Type 0 where
  pub objects : o.objects ≡ length r.things
  pub promises : o.promises ≡ r.promises
  pub messages : o.messages ≡ r.messages
  pub exports : (u : ℕ) → u < length W.members → map (name_at_vat W.members h g.names) (connection_for u g).exports ≡ (connected_at h u w.connections).tables.exports
  pub plain : (u : ℕ) → u < length W.members → AllOf (IsPlain g.names.known) (connection_for u g).exports
  pub peers : length g.connections ≡ length W.members
  pub idle : left_vat play.script r ≡ []
  pub empty : (ms : List Member) (t : Names) → left_member play.script ms h (record g { names = t }) ≡ []

-- Fuel, draws, lines, raw frames and claims are the same; the gifts that draws made are told by the logs of honest vats, and in numbers by a list; frames on the ways are those that were written and have not arrived.
pub record SceneMirrors (play : Play) (s : Scene) (c : Cast) : Type 0 where
  pub fuel : c.vats.fuel ≡ s.world.fuel
  pub drawn : c.vats.drawn ≡ s.world.drawn
  pub history : c.vats.history ≡ s.world.history
  pub lines : c.lines ≡ s.lines
  pub raws : c.raws ≡ s.raws
  pub claims : c.claims ≡ s.claims
  pub made : (h i : ℕ) → is_claimed c.made h i ≡ is_made play.hostile h i s.world.links
  -- what a vat put in its last step stands there
  pub puts : (u : ℕ) (m : Member) → slice_get c.vats.members u ≡ Some m → AllOf (λ (g : Claim). is_claimed c.made g.host g.number ≡ true) (made_by m.vat.outbox)
  pub count : length c.vats.members ≡ length s.world.vats
  pub outsiders : length c.outsiders ≡ length s.world.vats
  pub ways : WaysMirror s.world.links c.vats.ways
  pub ends : (v u : ℕ) (x : Way) → way_at v u c.vats.ways ≡ Some x → (v < length c.vats.members) × (u < length c.vats.members)
  pub frames : (v u : ℕ) (x : Way) → way_at v u c.vats.ways ≡ Some x → x.cut ≡ false → FramesDue (connected_at v u s.world.connections) (connected_at u v s.world.connections) x
  pub references : (v : ℕ) → v < length c.vats.members → HoldReferences v (length c.vats.members) s.world.connections
  pub honest : (u : ℕ) (t : Vat Name) (m : Member) → is_hostile play u ≡ false → slice_get s.world.vats u ≡ Some t → slice_get c.vats.members u ≡ Some m → HonestMirrors play s.world c.vats u t m
  pub hostile : (h : ℕ) (r : Vat Name) (o : Outsider) (g : Member) → is_hostile play h ≡ true → slice_get s.world.vats h ≡ Some r → slice_get c.outsiders h ≡ Some o → slice_get c.vats.members h ≡ Some g
      → OutsiderMirrors s.world c.vats play h r o g

-- Both go on so, or both stop in the same step, for the same reason, with one text.
abbrev pub ActsMirror : Play → Acted → Performed → Type 0
ActsMirror play (Plays s) (Performs c) = SceneMirrors play s c
ActsMirror play (Breaks e k s) (Ceases f n c) = (e ≡ f) × (k ≡ n) × (numbers.shown_cast c ≡ names.shown_scene s)
ActsMirror play (Plays s) (Ceases f n c) = ⊥
ActsMirror play (Breaks e k s) (Performs c) = ⊥
