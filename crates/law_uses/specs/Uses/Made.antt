-- That each object, ejector, audition and resolver of a vat is made by one line.
use Rattle.std.specs.Prelude.{◌≡◌, ℕ, ◌≤◌, Bool, true, false, Option, Some, None, slice_get, ◌==◌}
use Rattle.def_machine.specs.State.{Vat}
use Rattle.def_machine.specs.Values.{Name}
use Rattle.def_run.specs.World.{Script, Event, Here, World, names}
use Rattle.law_fate.specs.Fates.Fate.{once, total}
use Rattle.law_uses.specs.Connectivity.News.{thing_made}
use Rattle.law_uses.specs.Connectivity.Begotten.{InEachRun}

-- one where it is that number
unfoldable pub made_one : ℕ → Option ℕ → ℕ
made_one i None = 0
made_one i (Some j) = once (j == i)

-- one where it is so, else none
unfoldable pub where_so : Bool → ℕ → ℕ
where_so true n = n
where_so false n = 0

-- one where a line of vat v says that it made the thing of that number
unfoldable pub makes : Script → ℕ → ℕ → Event → ℕ
makes script v i (Here u e) = where_so (u == v) (made_one i (thing_made (names script u) e))
makes script v i _ = 0

-- at most one line of a vat says that it made the thing of a number
abbrev pub ThingsAreMadeOnce : Script → World → Type 0
ThingsAreMadeOnce script w = (v : ℕ) (s : Vat Name) → slice_get w.vats v ≡ Some s → (i : ℕ) → total (makes script v i) w.history ≤ 1

-- in the world after any of the opening turns, and after all of them and any entries
abbrev pub ThingsAreMadeOnceInRuns : Type 0
ThingsAreMadeOnceInRuns = InEachRun ThingsAreMadeOnce
