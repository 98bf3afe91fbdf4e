-- What a vat hosts, in every world of a run: where its names end, what its unopened gifts wait for, and the next answers of what it holds.
use Rattle.std.specs.Prelude.{◌≡◌, ℕ, [], Some, slice_get}
use Rattle.def_machine.specs.Values.{Name, host_of}
use Rattle.def_machine.specs.State.{Viewed, Known, Vat}
use Rattle.def_machine.specs.Refs.{entry_of}
use Rattle.def_run.specs.World.{Script, names}
use Rattle.law_order.specs.Arrivals.Tellings.{OwnNamesEnd}
use Rattle.law_order.specs.Runs.Beginnings.{InRunsOf, InRuns}

-- What a vat hosts is followed there to data, to an object, or to what it hosts.
abbrev pub OwnNamesEndInRuns : Type 0
OwnNamesEndInRuns = InRuns (λ script w. (v : ℕ) (s : Vat Name) → slice_get w.vats v ≡ Some s → OwnNamesEnd (names script v) v s)

-- A name with a view is of another vat: nobody is to be told of it, and it holds nothing.
abbrev pub ViewedNamesAreEmpty : Type 0
ViewedNamesAreEmpty = (script : Script) → InRunsOf script (λ w. (v : ℕ) (s : Vat Name) (n g : Name) (k : Known Name) → slice_get w.vats v ≡ Some s → entry_of (names script v) s.known n ≡ Some k → k.standing ≡ Viewed g
    → (host_of n ≡ v → ⊥) × (k.told ≡ []) × (k.held ≡ []))
