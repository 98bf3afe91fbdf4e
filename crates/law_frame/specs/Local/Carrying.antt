-- A note that is carried, in names and in numbers.
use Rattle.std.specs.Prelude.{◌≡◌, ℕ, zero, List}
use Rattle.def_machine.specs.Values.{Name}
use Rattle.def_machine.specs.State.{Note}
use Rattle.def_run.specs.World as machine
use Rattle.def_run.specs.World.{Script, Entry, Carry, World, Goes, with_link, with_notes}
use Rattle.law_fate.specs.Name.Runs.{KnowsOnce}
use Rattle.law_reference.specs.Reference.Cuts.{NoticesFollowCuts}
use Rattle.def_run.specs.Numbers as numbers
use Rattle.def_run.specs.Numbers.{Frame, Vats, with_way}
use Rattle.law_frame.specs.Local.Mirrors.{Mirrors, RunMirrors}

-- the world once these notes are left on the link
abbrev pub taken : World → ℕ → ℕ → List (Note Name) → World
taken x v u ns = record x { links = with_link (with_notes ns) v u x.links }

-- and in numbers, once these frames are left on the way
abbrev pub off : Vats → ℕ → ℕ → List Frame → Vats
off X v u fs = record X { ways = with_way (λ l. record l { frames = fs }) v u X.ways }

-- In a run in which each notice stands behind a cut of the same two vats, an entry that carries leads where it does in names, from all that stands for the world that it finds: a frame arrives and the step goes or stops, or there is none to arrive.
abbrev pub CarriesMirror : Type 0
CarriesMirror = (script : Script) → KnowsOnce script → (w x : World) (es : List Entry) (k : ℕ) → NoticesFollowCuts es → machine.open_from script zero script.vats (machine.begins script) ≡ Goes w → machine.steps_from script es k w ≡ Goes x
    → (X : Vats) → Mirrors x X → (v u n : ℕ) → RunMirrors (machine.step script (Carry v u) n x) (numbers.step script (Carry v u) n X)
