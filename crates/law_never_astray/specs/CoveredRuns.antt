-- That in the runs of accepted programs the objects of each vat carry their captures.
use Rattle.std.specs.Prelude.{◌≡◌, ℕ, zero, List, ◌++◌, Some, None, slice_get}
use Rattle.def_machine.specs.Values.{Words, Name}
use Rattle.def_machine.specs.State.{Vat}
use Rattle.def_run.specs.World.{Script, Program, Entry, World, Goes, begins, given, tree_at, open_from, steps_from}
use Rattle.def_kernel.specs.Trees.{IsTree}
use Rattle.ev_reader.specs.Scopes.{first_fault}
use Rattle.law_never_astray.specs.Covered.{Carries}
use Rattle.law_never_astray.specs.CoveredLaws.{AreGiven}

-- Each program is a tree in which the check of scopes finds no fault inside the names that it is given: those of the vats that it
-- knows, and names of the safe scope.
abbrev pub IsAccepted : Script → Type 0
IsAccepted script = (v : ℕ) (p : Program) → slice_get script.vats v ≡ Some p → IsTree p.tree × ((names : List Words) × (first_fault p.tree names ≡ None) × AreGiven (given script.vats p.knows) names)

-- the objects of each vat carry their captures
abbrev pub AllCarry : Script → World → Type 0
AllCarry script w = (v : ℕ) (s : Vat Name) → slice_get w.vats v ≡ Some s → Carries (tree_at script.vats v) s

-- Law: so it is after any of the opening turns, and after all of them and any entries.
abbrev pub AllCarryInRuns : Type 0
AllCarryInRuns = (script : Script) → IsAccepted script
    → ((ps rest : List Program) (w : World) → script.vats ≡ ps ++ rest → open_from script zero ps (begins script) ≡ Goes w → AllCarry script w)
    × ((w x : World) (es : List Entry) (k : ℕ) → open_from script zero script.vats (begins script) ≡ Goes w → steps_from script es k w ≡ Goes x → AllCarry script x)
