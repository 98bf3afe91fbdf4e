-- That the run in numbers is the machine's run: the parts of it.
use Rattle.std.specs.Prelude.{◌≡◌, ℕ}
use Rattle.def_machine.specs.Values.{Name}
use Rattle.def_machine.specs.State.{Vat}
use Rattle.def_run.specs.World as machine
use Rattle.def_run.specs.World.{Script, Entry, World, Run}
use Rattle.def_run.specs.Text as theirs
use Rattle.def_machine.specs.Maps as maps
use Rattle.def_run.specs.Vats.{Member}
use Rattle.def_run.specs.Numbers as numbers
use Rattle.def_run.specs.Numbers.{Vats, Course, name_at_vat, ready}
use Rattle.def_run.specs.LocalText as ours
use Rattle.law_frame.specs.Local.Mirrors.{Mirrors, RunMirrors, VatMirrors}

-- The state of a vat in names is its state in numbers with the name of each number in its place.
abbrev pub StatesAreNamed : Type 0
StatesAreNamed = (w : World) (W : Vats) (u : ℕ) (s : Vat Name) (m : Member) → VatMirrors w W u s m → maps.vat (name_at_vat W.members u m.names) (ready W m.vat) ≡ machine.readied w s

abbrev pub StartMirrors : Type 0
StartMirrors = (script : Script) → Mirrors (machine.begins script) (numbers.begins script)

-- ---- steps that no vat takes

abbrev pub CutsMirror : Type 0
CutsMirror = (script : Script) (k v u : ℕ) (w : World) (W : Vats) → Mirrors w W → RunMirrors (machine.cut script k v u w) (numbers.cut script k v u W)

abbrev pub IdlesMirror : Type 0
IdlesMirror = (script : Script) (k : ℕ) (w : World) (W : Vats) → Mirrors w W → RunMirrors (machine.idle script k w) (numbers.idle script k W)

-- the closing list
abbrev pub ClosingsMirror : Type 0
ClosingsMirror = (script : Script) (w : World) (W : Vats) → Mirrors w W → RunMirrors (machine.close script w) (numbers.close script W)

-- ---- texts

abbrev pub TextsMirror : Type 0
TextsMirror = (script : Script) (r : Run) (c : Course) → RunMirrors r c → (ours.text script c ≡ theirs.text script r) × (ours.wire_text script c ≡ theirs.wire_text script r)
