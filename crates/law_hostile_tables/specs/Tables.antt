-- The table by which the numbers of an honest vat are read, in runs with hostile vats: of what kinds its entries are, and whose.
use Rattle.std.specs.Prelude.{◌≡◌, ℕ, Some, slice_get}
use Rattle.def_machine.specs.Values.{Name, Object, Sent, Msg, Foreign, NoObject, spot_of, host_of}
use Rattle.def_machine.specs.State.{Vat}
use Rattle.def_run.specs.Wire.{connected_at, write_all}
use Rattle.law_fate.specs.Name.Names.{AllOf}
use Rattle.law_hostile_frame.specs.Tables.{table_in}
use Rattle.law_injected.specs.HostileRuns.{IsHostile}
use Rattle.law_lawful.specs.Lawful.{InScenes}
use Rattle.law_machine.specs.Renamed.Stands.{Table}
use Rattle.law_hostile_tables.specs.Steps.{InOwnSteps}

-- What the vat knows are no objects, what it has had are messages, and what others exported to it are objects of theirs.
abbrev pub IsOfItsKinds : ℕ → Table → Type 0
IsOfItsKinds u t = ((k : ℕ) (n : Name) → slice_get t.names k ≡ Some n → spot_of u n ≡ NoObject)
    × ((k : ℕ) (n : Name) → slice_get t.mails k ≡ Some n → (m : Msg) × (n ≡ Sent m))
    × ((h p j : ℕ) → t.exports h p ≡ Some j → spot_of u (Object h j) ≡ Foreign h)

abbrev pub TablesAreOfTheirKinds : Type 0
TablesAreOfTheirKinds = InScenes (λ play w. (u : ℕ) (s : Vat Name) → slice_get w.vats u ≡ Some s → (IsHostile play u → ⊥) → IsOfItsKinds u (table_in w u s))

abbrev pub OwnStepsLeaveKinds : Type 0
OwnStepsLeaveKinds = InOwnSteps (λ play w u s r. IsOfItsKinds u (table_in w u r))

-- Once what such a step put is written, what the vat has exported to each is its own.
abbrev pub OwnStepsExportTheirOwn : Type 0
OwnStepsExportTheirOwn = InOwnSteps (λ play w u s r. (v : ℕ) → AllOf (λ n. host_of n ≡ u) (connected_at u v (write_all u r.outbox w.connections)).tables.exports)
