-- What a lawful frame says that a name settled to.
use Rattle.std.specs.Prelude.{ℕ, List}
use Rattle.def_op.specs.Frames.{Operation}
use Rattle.def_machine.specs.Values.{Name}
use Rattle.def_machine.specs.State.{Note, Vat}
use Rattle.def_run.specs.World.{World}
use Rattle.def_hostile.specs.Hostile.{Play}
use Rattle.law_fate.specs.Fates.Lasting.{NoteWell}
use Rattle.law_injected.specs.HostileRuns.{IsSpoken}

-- In any world a frame that the judge accepts settles a name to no promise, and its message is named as one.
abbrev pub FramesSettleWell : Type 0
FramesSettleWell = (play : Play) (w : World) (h u : ℕ) (t : Vat Name) (n : Note Name) (o : Operation) (new : List Name) → IsSpoken play w h u t n o new → NoteWell n
