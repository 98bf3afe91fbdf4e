-- What a step that goes leaves.
use Rattle.std.specs.Prelude.{◌≡◌, ℕ, ◌<◌, List, [], ◌++◌, Some, length, slice_get}
use Rattle.def_machine.specs.Values.{Name, host_of, Local}
use Rattle.def_machine.specs.State.{Vat}
use Rattle.def_run.specs.Wire.{Connected, connected_at, write_all}
use Rattle.def_run.specs.World as machine
use Rattle.def_run.specs.World.{Event, World, put_at, events_of}
use Rattle.law_fate.specs.Name.Names.{AllOf, names_in}
use Rattle.law_machine.specs.Renamed.Stands.{StandsFor}
use Rattle.law_reference.specs.Reference.Logs.{exports}
use Rattle.law_reference.specs.Reference.Tables.{table_of, EachHasTable}
use Rattle.law_frame.specs.Frame.Exports.{KeepsPositions}
use Rattle.def_run.specs.Names.{names_after}
use Rattle.def_run.specs.Vats.{Member}
use Rattle.def_run.specs.Numbers.{Vats, Brought, nothing_brought, left_by}
use Rattle.law_frame.specs.Local.Mirrors.{Mirrors, VatMirrors, WaysMirror, LearntAre, HoldReferences}
use Rattle.law_frame.specs.Local.Naming.{Tells}
use Rattle.law_frame.specs.Local.Writing.{PutsSo, ConnectionsMirror, AllDue}

-- the world that a step of vat u leaves to the next one, where it left that vat in state r and the connections were so once what arrived was heard
abbrev pub world_left : World → ℕ → Vat Name → List Event → List Connected → World
world_left x u r head ds = record { fuel = r.fuel; drawn = r.drawn; vats = put_at u r x.vats; links = machine.push_all u r.outbox x.links; connections = write_all u r.outbox ds; history = x.history ++ head ++ events_of x.links u r.happened }

-- The step of vat u, whose member is m, left state r in names and state p in numbers; connections ds are those of the world once what arrived was heard, and b is what it brought. Members and ways are as the step found them, with a frame that arrived off its way already.
-- The two runs stood for one another so far, and of the step is known: its state in numbers stands for that in names, by the table of the world after it, in which each vat has a table; the names that its numbers have are those of that table; what it has in numbers for others stood for what it has in names once what arrived was heard; objects keep their positions; and what a vat exported, all of it its own, is what the notes that were put tell.
pub record StepStands (x : World) (X : Vats) (u : ℕ) (m : Member) (b : Brought) (r : Vat Name) (p : Vat Local) (head : List Event) (ds : List Connected) : Type 0 where
  pub history : X.history ≡ x.history
  pub count : length X.members ≡ length x.vats
  pub ways : WaysMirror x.links X.ways
  pub due : AllDue (length X.members) ds X.ways
  pub others : (v : ℕ) (s : Vat Name) (k : Member) → (u ≡ v → ⊥) → slice_get x.vats v ≡ Some s → slice_get X.members v ≡ Some k → VatMirrors x X v s k
  pub references : (v : ℕ) → v < length X.members → HoldReferences v (length X.members) ds
  pub unheard : (v z : ℕ) → (u ≡ v → ⊥) → connected_at v z ds ≡ connected_at v z x.connections
  pub here : u < length X.members
  pub tables : EachHasTable (world_left x u r head ds)
  pub stands : StandsFor u (table_of (world_left x u r head ds) u r) p r
  pub puts : PutsSo u r
  pub named : names_after u m.names m.vat b.carried b.told p ≡ record { known = names_in r.known; mails = r.mails }
  pub peers : length b.connections ≡ length X.members
  pub connections : ConnectionsMirror u (table_of (world_left x u r head ds) u r) (length X.members) b.connections ds
  pub learnt : LearntAre u (table_of (world_left x u r head ds) u r) b.learnt
  pub keeps : (v : ℕ) → KeepsPositions x (world_left x u r head ds) v
  pub hosts : (h v : ℕ) → AllOf (λ n. host_of n ≡ h) (exports (λ i. i) (world_left x u r head ds).links h v)
  pub logged : (h v : ℕ) → (h ≡ v → ⊥) → h < length X.members → v < length X.members → (connected_at h v (world_left x u r head ds).connections).tables.exports ≡ exports (λ i. i) (world_left x u r head ds).links h v

-- Then they stand for one another after it.
abbrev pub StepsMirror : Type 0
StepsMirror = (x : World) (X : Vats) (u : ℕ) (m : Member) (b : Brought) (r : Vat Name) (p : Vat Local) (head : List Event) (ds : List Connected)
    → StepStands x X u m b r p head ds → Mirrors (world_left x u r head ds) (left_by X u head m b p)

-- A step that no note brought, of vat u in state s, whose member is m: what it told, and what the laws of the machine say of the world after it.
pub record OwnStepStands (x : World) (X : Vats) (u : ℕ) (s : Vat Name) (m : Member) (r : Vat Name) (p : Vat Local) (head : List Event) : Type 0 where
  pub at : slice_get x.vats u ≡ Some s
  pub there : slice_get X.members u ≡ Some m
  pub tables : EachHasTable (world_left x u r head x.connections)
  pub stands : StandsFor u (table_of (world_left x u r head x.connections) u r) p r
  pub puts : PutsSo u r
  pub tells : Tells u s r [] []
  pub keeps : (v : ℕ) → KeepsPositions x (world_left x u r head x.connections) v
  pub hosts : (h v : ℕ) → AllOf (λ n. host_of n ≡ h) (exports (λ i. i) (world_left x u r head x.connections).links h v)
  pub logged : (h v : ℕ) → (h ≡ v → ⊥) → h < length X.members → v < length X.members → (connected_at h v (world_left x u r head x.connections).connections).tables.exports ≡ exports (λ i. i) (world_left x u r head x.connections).links h v

-- From all that stands for one another before it, it leaves what does so.
abbrev pub OwnStepsMirror : Type 0
OwnStepsMirror = (x : World) (X : Vats) (u : ℕ) (s : Vat Name) (m : Member) (r : Vat Name) (p : Vat Local) (head : List Event)
    → Mirrors x X → OwnStepStands x X u s m r p head → Mirrors (world_left x u r head x.connections) (left_by X u head m (nothing_brought m) p)
