-- Where a vat is told that a name settled, it did not know what became of it.
use Rattle.std.specs.Prelude.{◌≡◌, ℕ, zero, false, List, ◌++◌, ◌⊎◌, Some, slice_get}
use Rattle.def_machine.specs.Values.{Words, Name, Broken}
use Rattle.def_machine.specs.State.{Unsettled, Settled, Vat}
use Rattle.def_machine.specs.Refs.{standing_of}
use Rattle.def_run.specs.World.{Script, Program, Entry, Link, World, Goes, begins, open_from, steps_from, link_at, names}
use Rattle.law_fate.specs.Name.Names.{IsAmong}
use Rattle.law_fate.specs.Name.Runs.{KnowsOnce}
use Rattle.law_reference.specs.Reference.Cuts.{NoticesFollowCuts}
use Rattle.law_order.specs.ToldOnce.Told.{news_in}

-- A name of which a note under way to v tells that it settled, on a link that is not cut, is unsettled at v, or broken there.
abbrev pub TellsNew : Script → World → Type 0
TellsNew script w = (u v : ℕ) (s : Vat Name) (l : Link) → slice_get w.vats v ≡ Some s → link_at u v w.links ≡ Some l → l.cut ≡ false → (n : Name) → IsAmong n (news_in l.notes)
    → (standing_of (names script v) s.known n ≡ Unsettled) ⊎ ((p : Words) × (standing_of (names script v) s.known n ≡ Settled (Broken p)))

abbrev pub NewsIsNew : Type 0
NewsIsNew = (script : Script) → KnowsOnce script
    → ((ps rest : List Program) (w : World) → script.vats ≡ ps ++ rest → open_from script zero ps (begins script) ≡ Goes w → TellsNew script w)
    × ((w x : World) (es : List Entry) (k : ℕ) → NoticesFollowCuts es → open_from script zero script.vats (begins script) ≡ Goes w → steps_from script es k w ≡ Goes x → TellsNew script x)
