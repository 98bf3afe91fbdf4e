-- In every world that is reached with hostile vats, what objects with DeepFrozen's stamp reach is frozen.
use Rattle.std.specs.Prelude.{◌≡◌, ℕ, true, List}
use Rattle.def_op.specs.Frames.{Operation}
use Rattle.def_machine.specs.Values.{Name}
use Rattle.def_machine.specs.State.{Note, Vat, is_in}
use Rattle.def_run.specs.World.{Script, World}
use Rattle.law_machine.specs.Run.Moves.{Deed, AnyNotice}
use Rattle.law_adversary.specs.Moves.{FramesReached}
use Rattle.law_frozen.specs.Frozen.{NotePasses}
use Rattle.law_frozen.specs.Runs.{ReachIsFrozenIn}

-- a hostile vat makes and learns what it likes
abbrev pub AnyDeed : World → ℕ → Vat Name → Deed → Type 0
AnyDeed w v s d = Unit {0}

-- and says any note in which no list stands by its number
abbrev pub SaysPassing : World → ℕ → ℕ → Vat Name → Note Name → Type 0
SaysPassing w v u s n = NotePasses n

-- also in a frame, whatever operation it is and names it makes
abbrev pub FramesPassing : World → ℕ → ℕ → Vat Name → Note Name → Operation → List Name → Type 0
FramesPassing w v u s n op new = NotePasses n

-- It holds of each world that is reached so, whichever vats are hostile.
abbrev pub ReachIsFrozenInReached : Type 0
ReachIsFrozenInReached = (script : Script) (hs : List ℕ) (w : World) → FramesReached script (λ v. is_in v hs ≡ true) AnyNotice AnyDeed SaysPassing FramesPassing w → ReachIsFrozenIn script w
