-- Where a gift is opened, it had not settled.
use Rattle.std.specs.Prelude.{◌≡◌, ℕ, zero, List, ◌++◌, ◌⊎◌, Some, slice_get}
use Rattle.def_machine.specs.Values.{Words, Name, Gift, Broken}
use Rattle.def_machine.specs.State.{Open, Unsettled, Settled, Vat}
use Rattle.def_machine.specs.Refs.{standing_of}
use Rattle.def_run.specs.World.{Script, Program, Entry, Link, World, Goes, begins, open_from, steps_from, link_at, names}
use Rattle.law_fate.specs.Name.Names.{IsAmong}
use Rattle.law_fate.specs.Name.Runs.{KnowsOnce}

-- The gift that a note under way to v opens is unsettled at v, or broken there.
abbrev pub OpensNew : Script → World → Type 0
OpensNew script w = (u v : ℕ) (s : Vat Name) (l : Link) → slice_get w.vats v ≡ Some s → link_at u v w.links ≡ Some l → (i : ℕ) (n : Name) → IsAmong (Open i n) l.notes
    → (standing_of (names script v) s.known (Gift v i) ≡ Unsettled) ⊎ ((p : Words) × (standing_of (names script v) s.known (Gift v i) ≡ Settled (Broken p)))

abbrev pub OpenedGiftsAreNew : Type 0
OpenedGiftsAreNew = (script : Script) → KnowsOnce script
    → ((ps rest : List Program) (w : World) → script.vats ≡ ps ++ rest → open_from script zero ps (begins script) ≡ Goes w → OpensNew script w)
    × ((w x : World) (es : List Entry) (k : ℕ) → open_from script zero script.vats (begins script) ≡ Goes w → steps_from script es k w ≡ Goes x → OpensNew script x)
