-- What a step of an honest vat leaves, where some vats are hostile.
use Rattle.std.specs.Prelude.{◌≡◌, ℕ, ◌<◌, true, false, List, [], Some, is_some, length, slice_get}
use Rattle.def_machine.specs.State.{Vat}
use Rattle.def_machine.specs.Values.{Name, Local, Gift, host_of}
use Rattle.def_run.specs.Connections.{learnt_at}
use Rattle.def_run.specs.Marks.{base}
use Rattle.def_run.specs.Names.{names_after}
use Rattle.def_run.specs.Numbers.{Vats, Runs, Brought, left_by}
use Rattle.def_run.specs.Vats.{Member}
use Rattle.def_run.specs.Wire.{Connected, connected_at}
use Rattle.def_run.specs.World.{Event, World, Goes, has_name}
use Rattle.def_hostile.specs.Claims.{Claim, is_claimed, is_made}
use Rattle.def_hostile.specs.Hostile as names
use Rattle.def_hostile.specs.Hostile.{Play, Scene, is_empty, is_hostile}
use Rattle.def_hostile.specs.Made.{made_by}
use Rattle.def_hostile.specs.Numbers as numbers
use Rattle.def_hostile.specs.Numbers.{Cast}
use Rattle.def_hostile.specs.Outsiders.{Outsider}
use Rattle.law_fate.specs.Name.Names.{AllOf, names_in}
use Rattle.law_machine.specs.Renamed.Stands.{IsTable, StandsFor}
use Rattle.law_frame.specs.Local.Mirrors.{WaysMirror, LearntAre, HoldReferences}
use Rattle.law_frame.specs.Local.Steps.{world_left}
use Rattle.law_frame.specs.Local.Writing.{PutsSo, ConnectionsMirror, AllDue}
use Rattle.law_hostile_frame.specs.Mirrors.{PositionsMirror, HonestMirrors, OutsiderMirrors, ActsMirror}
use Rattle.law_hostile_frame.specs.Tables.{table_in}
use Rattle.law_hostile_mirror.specs.Gifts.{HaveLinks}

-- The two runs stood for one another at scene s and cast c. A step of honest vat u, whose member is m, finds world x and vats X, which are those of s and c but for a frame that arrived, off its way already.
-- It left state r in names and state p in numbers; connections ds are those of the world once what arrived was heard, and b is what it brought.
pub record HonestStepStands (play : Play) (s : Scene) (c : Cast) (x : World) (X : Vats) (u : ℕ) (m : Member) (b : Brought) (r : Vat Name) (p : Vat Local) (head : List Event) (ds : List Connected) : Type 0 where
  -- what there was before
  pub before : c.vats.history ≡ s.world.history
  pub lines : c.lines ≡ s.lines
  pub raws : c.raws ≡ s.raws
  pub claims : c.claims ≡ s.claims
  pub outsiders : length c.outsiders ≡ length x.vats
  pub made : (h i : ℕ) → is_claimed c.made h i ≡ is_made play.hostile h i x.links
  pub earlier : (t : ℕ) (k : Member) → slice_get X.members t ≡ Some k → AllOf (λ (g : Claim). is_claimed c.made g.host g.number ≡ true) (made_by k.vat.outbox)
  pub history : X.history ≡ x.history
  pub count : length X.members ≡ length x.vats
  pub ways : WaysMirror x.links X.ways
  pub due : AllDue (length X.members) ds X.ways
  pub references : (v : ℕ) → v < length X.members → HoldReferences v (length X.members) ds
  pub unheard : (v z : ℕ) → (u ≡ v → ⊥) → connected_at v z ds ≡ connected_at v z x.connections
  pub heard : (z : ℕ) → (connected_at u z ds).tables.exports ≡ (connected_at u z x.connections).tables.exports
  -- other vats
  pub others : (v : ℕ) (t : Vat Name) (k : Member) → (u ≡ v → ⊥) → is_hostile play v ≡ false → slice_get x.vats v ≡ Some t → slice_get X.members v ≡ Some k → HonestMirrors play x X v t k
  pub hostile : (h : ℕ) (t : Vat Name) (o : Outsider) (g : Member) → is_hostile play h ≡ true → slice_get x.vats h ≡ Some t → slice_get c.outsiders h ≡ Some o → slice_get X.members h ≡ Some g → OutsiderMirrors x X play h t o g
  -- the vat itself
  pub here : u < length X.members
  pub own : is_hostile play u ≡ false
  pub positions : PositionsMirror x X u
  pub table : IsTable u (table_in (world_left x u r head ds) u r)
  pub stands : StandsFor u (table_in (world_left x u r head ds) u r) p r
  pub puts : PutsSo u r
  -- what it has exported is its own
  pub hosts : (v : ℕ) → AllOf (λ n. host_of n ≡ u) (connected_at u v (world_left x u r head ds).connections).tables.exports
  pub links : HaveLinks u x.links r.outbox
  pub named : names_after u m.names m.vat b.carried b.told p ≡ record { known = names_in r.known; mails = r.mails }
  pub peers : length b.connections ≡ length X.members
  pub connections : ConnectionsMirror u (table_in (world_left x u r head ds) u r) (length X.members) b.connections ds
  pub learnt : LearntAre u (table_in (world_left x u r head ds) u r) b.learnt
  pub knows : is_empty play.hostile ≡ false → (h i : ℕ) → (h ≡ u → ⊥) → base i ≡ i → has_name (names_in r.known) (Gift h i) ≡ is_some (learnt_at h i b.learnt)

-- Then they stand for one another after it.
abbrev pub HonestStepsMirror : Type 0
HonestStepsMirror = (play : Play) (n : ℕ) (s : Scene) (c : Cast) (x : World) (X : Vats) (u : ℕ) (m : Member) (b : Brought) (r : Vat Name) (p : Vat Local) (head : List Event) (ds : List Connected)
    → HonestStepStands play s c x X u m b r p head ds → ActsMirror play (names.acted n s [] (Goes (world_left x u r head ds))) (numbers.acted n u c (Runs (left_by X u head m b p)))
