-- That what a vat is to take is on data or on an object of its own.
use Rattle.std.specs.Prelude.{◌≡◌, ℕ, zero, List, ◌++◌, Some, slice_get}
use Rattle.def_machine.specs.Values.{Value, Ref, Name, Naming, Own}
use Rattle.def_machine.specs.State.{Message, Known, Vat}
use Rattle.def_run.specs.World.{Script, Program, Entry, World, Goes, names, begins, open_from, steps_from}
use Rattle.law_fate.specs.Name.Names.{AllOf}
use Rattle.law_fate.specs.Name.Runs.{KnowsOnce}
use Rattle.law_never_astray.specs.CoveredRuns.{IsAccepted}

module _ {N W : Type 0} (K : Naming N W) where
  -- it is no name, or the name of an object of the vat
  abbrev pub IsNear : Value N → Type 0
  IsNear x = (n : N) → x ≡ Ref n → (i : ℕ) × (K.spot n ≡ Own i)

  abbrev pub TargetNear : Message N → Type 0
  TargetNear m = IsNear m.target

  -- so is each reaction on a name
  abbrev pub ReactsNear : Known N → Type 0
  ReactsNear k = AllOf TargetNear k.reactions

  -- so it is of each message that waits in the queue, and of each reaction
  abbrev pub TargetsNear : List (Message N) → List (Known N) → Type 0
  TargetsNear qs ks = AllOf TargetNear qs × AllOf ReactsNear ks

-- so it is at each vat
abbrev pub AllNear : Script → World → Type 0
AllNear script w = (v : ℕ) (s : Vat Name) → slice_get w.vats v ≡ Some s → TargetsNear (names script v) s.queue s.known

-- Law: so it is after any of the opening turns, and after all of them and any entries.
abbrev pub TargetsAreNearInRuns : Type 0
TargetsAreNearInRuns = (script : Script) → KnowsOnce script → IsAccepted script
    → ((ps rest : List Program) (w : World) → script.vats ≡ ps ++ rest → open_from script zero ps (begins script) ≡ Goes w → AllNear script w)
    × ((w x : World) (es : List Entry) (k : ℕ) → open_from script zero script.vats (begins script) ≡ Goes w → steps_from script es k w ≡ Goes x → AllNear script x)
