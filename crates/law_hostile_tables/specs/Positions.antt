-- Where what a vat exported stands: the names that it told its peer first, in order, by its own table for that peer.
use Rattle.std.specs.Prelude.{◌≡◌, ℕ, List}
use Rattle.def_machine.specs.Values.{host_of}
use Rattle.def_run.specs.World.{World}
use Rattle.def_run.specs.Wire.{connected_at}
use Rattle.def_hostile.specs.Hostile.{Play, Scene, Plays, Doing, does_all}
use Rattle.law_fate.specs.Name.Names.{AllOf}
use Rattle.law_frame.specs.Frame.Growing.{IsFront}
use Rattle.law_frame.specs.Frame.OwnFrames.{refers}
use Rattle.law_frame.specs.Frame.Together.{TablesMay}
use Rattle.law_injected.specs.HostileRuns.{IsHostile}
use Rattle.law_lawful.specs.Lawful.{InScenes}

-- each vat has exported to each other what it had, in its place, and maybe more behind it
abbrev pub ExportsGrow : World → World → Type 0
ExportsGrow w y = (h v : ℕ) → IsFront (connected_at h v w.connections).tables.exports (connected_at h v y.connections).tables.exports

-- So it is from each scene of a run in which a vat is hostile to each later one, whoever exports.
abbrev pub PositionsAreKept : Type 0
PositionsAreKept = (play : Play) (h : ℕ) → IsHostile play h → (ds : List Doing) (k : ℕ) (s t : Scene) → does_all play ds k s ≡ Plays t → ExportsGrow s.world t.world

-- What stands there is of the vat that exported it,
abbrev pub ExportsAreOfTheirHosts : Type 0
ExportsAreOfTheirHosts = InScenes (λ play w. (h v : ℕ) → AllOf (λ n. host_of n ≡ h) (connected_at h v w.connections).tables.exports)

-- and no message has a number in any connection.
abbrev pub NoMessageHasANumber : Type 0
NoMessageHasANumber = InScenes (λ play w. (h v : ℕ) → TablesMay refers (connected_at h v w.connections).tables)
