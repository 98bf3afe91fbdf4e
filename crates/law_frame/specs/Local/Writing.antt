-- What a step puts, by the numbers of its vat and in names.
use Rattle.std.specs.Prelude.{◌≡◌, ℕ, ◌<◌, true, false, List, Some, get_or, length}
use Rattle.def_machine.specs.Values.{Name, Local}
use Rattle.def_machine.specs.State.{Put, Vat}
use Rattle.def_run.specs.Connections.{Connection, asked_in}
use Rattle.def_run.specs.Wire.{Connected, connected_at, sight, write_all}
use Rattle.def_run.specs.World as machine
use Rattle.def_run.specs.World.{Link}
use Rattle.law_fate.specs.Name.Names.{AllOf, HostIsTrue, names_in}
use Rattle.law_fate.specs.Name.Runs.{InEachVat}
use Rattle.law_reference.specs.Reference.AnswerNames.{PutsNameAnswers}
use Rattle.def_machine.specs.Maps as maps
use Rattle.law_machine.specs.Renamed.Stands.{Table, Is, found, IsTable, StandsFor}
use Rattle.law_frame.specs.Frame.Together.{NoteMay, changed_tables}
use Rattle.law_frame.specs.Frame.OwnFrames.{refers}
use Rattle.def_run.specs.Vats.{unconnected}
use Rattle.def_run.specs.Numbers as numbers
use Rattle.def_run.specs.Numbers.{Way, way_at, all_written, frames_of}
use Rattle.law_frame.specs.Local.Mirrors.{WaysMirror, FramesDue, HoldReferences}

-- What is asked of the state in names that a step of vat u leaves: whose it is, that it knows true hosts, that no message is named as a reference in a note that it put, nor asked for by one, and that each note says what the answer that it asks for is called.
pub record PutsSo (u : ℕ) (r : Vat Name) : Type 0 where
  pub placed : r.number ≡ u
  pub hosts : AllOf HostIsTrue r.known
  pub referring : AllOf (λ (p : Put Name). NoteMay refers p.note) r.outbox
  pub asking : AllOf (λ (p : Put Name). AllOf (λ n. refers n ≡ true) (asked_in (sight u p.to) p.note)) r.outbox
  pub answers : PutsNameAnswers r

-- so it is of each vat in every world of every run
abbrev pub EachPutsSo : Type 0
EachPutsSo = InEachVat (λ w u s. PutsSo u s)

-- What vat u has in numbers for each of so many vats stands for what it has in names.
abbrev pub ConnectionsMirror : ℕ → Table → ℕ → List (Connection Local) → List Connected → Type 0
ConnectionsMirror u t n cs ds = (v : ℕ) → v < n → changed_tables (found u t) (get_or cs v unconnected) ≡ changed_tables Is (connected_at u v ds).tables

-- each way that is not cut ends at two of so many vats, and has the frames that are due on it
abbrev pub AllDue : ℕ → List Connected → List Way → Type 0
AllDue n ds xs = (a b : ℕ) (x : Way) → way_at a b xs ≡ Some x → (a < n) × (b < n) × (x.cut ≡ false → FramesDue (connected_at a b ds) (connected_at b a ds) x)

-- Where state p in numbers stands for state r in names after a step of vat u, f gives names as the table does, and connections and links before stood for one another: those with what the step put stand for one another too, with the very frames that the machine writes.
abbrev pub WritingsMirror : Type 0
WritingsMirror = (u n : ℕ) (t : Table) → IsTable u t → (r : Vat Name) (p : Vat Local) → StandsFor u t p r → t.names ≡ names_in r.known → PutsSo u r
    → (f : Local → Name) → maps.vat f p ≡ r → (cs : List (Connection Local)) (ds : List Connected) → length cs ≡ n → ConnectionsMirror u t n cs ds → HoldReferences u n ds
    → (ConnectionsMirror u t n (all_written p p.outbox cs) (write_all u r.outbox ds) × HoldReferences u n (write_all u r.outbox ds) × (length (all_written p p.outbox cs) ≡ n))
    × ((ls : List Link) (xs : List Way) → WaysMirror ls xs → AllDue n ds xs → WaysMirror (machine.push_all u r.outbox ls) (numbers.push_all u (frames_of p f p.outbox cs) xs) × AllDue n (write_all u r.outbox ds) (numbers.push_all u (frames_of p f p.outbox cs) xs))
