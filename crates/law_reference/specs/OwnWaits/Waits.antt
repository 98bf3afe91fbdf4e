-- Which names wait on another.
use Rattle.std.specs.Prelude.{◌≡◌, ℕ}
use Rattle.def_machine.specs.Values.{Name, host_of}
use Rattle.def_machine.specs.State.{WaitsOn, Vat}
use Rattle.def_machine.specs.Refs.{standing_of}
use Rattle.def_run.specs.World.{Script, names}
use Rattle.law_reference.specs.Reference.Rest.{InEachVat}

-- A name that waits on another is the vat's own.
abbrev pub WaitsAreOwn : Script → ℕ → Vat Name → Type 0
WaitsAreOwn script v s = (n q : Name) → standing_of (names script v) s.known n ≡ WaitsOn q → host_of n ≡ v

-- So it is in each vat of every world of a run.
abbrev pub WaitsAreOwnInRuns : Type 0
WaitsAreOwnInRuns = InEachVat WaitsAreOwn
