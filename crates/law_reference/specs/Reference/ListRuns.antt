-- That no list leads back to itself in any run.
use Rattle.std.specs.Prelude.{◌≡◌, ℕ, zero, List, ◌++◌, Some, slice_get, length}
use Rattle.def_machine.specs.Values.{Value, Name}
use Rattle.def_machine.specs.State.{Vat}
use Rattle.def_run.specs.World.{Script, Program, Entry, World, Goes, names, begins, open_from, steps_from}
use Rattle.law_fate.specs.Name.Runs.{KnowsOnce}
use Rattle.law_reference.specs.Reference.Cuts.{NoticesFollowCuts}
use Rattle.law_reference.specs.Reference.Lists.{NoListLeadsBack, LeadingEndsIn}

-- No list leads back to itself, and so one comes from each value, by no more members than there are lists, to values without members.
abbrev pub ListsEndIn : Script → World → Type 0
ListsEndIn script w = (v : ℕ) (s : Vat Name) → slice_get w.vats v ≡ Some s → NoListLeadsBack (names script v) s × ((x : Value Name) → LeadingEndsIn (names script v) (length s.lists) s x)

-- In each vat of the world after any of the opening turns, and after all of them and any entries in which notices stand behind their cuts.
abbrev pub ListsEndInRuns : Type 0
ListsEndInRuns = (script : Script) → KnowsOnce script
    → ((ps rest : List Program) (w : World) → script.vats ≡ ps ++ rest → open_from script zero ps (begins script) ≡ Goes w → ListsEndIn script w)
    × ((w x : World) (es : List Entry) (k : ℕ) → NoticesFollowCuts es → open_from script zero script.vats (begins script) ≡ Goes w → steps_from script es k w ≡ Goes x → ListsEndIn script x)
