-- What holds at the start, and is kept by each move in which frames of bytes may be put, holds of each world that is so reached; and what is reached without such frames is so reached.
use Rattle.std.proofs.Common.{◌≡◌, ℕ, List, [], ◌∷◌, sym}
use Rattle.def_op.specs.Frames.{Operation}
use Rattle.def_machine.specs.Values.{Name}
use Rattle.def_machine.specs.State.{Note, Vat}
use Rattle.def_run.specs.World as world
use Rattle.def_run.specs.World.{Script, World}
use Rattle.law_machine.specs.Run.Moves.{Deed, Follows, Reached}
use Rattle.law_adversary.specs.Moves.{FrameMove, Usual, FramesFollow, FramesReached, FramesLift}

module _ (script : Script) (Hostile : ℕ → Type 0) (MayNotice : World → ℕ → ℕ → Type 0) (May : World → ℕ → Vat Name → Deed → Type 0) (Lawful : World → ℕ → ℕ → Vat Name → Note Name → Type 0) (Frames : World → ℕ → ℕ → Vat Name → Note Name → Operation → List Name → Type 0) where
  module _ (J : World → Type 0) (begun : J (world.begins script)) (law : (w y : World) → FramesReached script Hostile MayNotice May Lawful Frames w → J w → FrameMove script Hostile MayNotice May Lawful Frames w y → J y) where
    at_start : (y : World) → y ≡ world.begins script → J y
    at_start y e = rw (sym e) at begun

    follows : (ws : List World) (y : World) → FramesFollow script Hostile MayNotice May Lawful Frames ws y → J y
    follows [] y f = at_start y f
    follows (w ∷ ws) y f = law w y (ws, f.1) (follows ws w f.1) f.0

  usual_follow : (ws : List World) (y : World) → Follows script Hostile MayNotice May Lawful ws y → FramesFollow script Hostile MayNotice May Lawful Frames ws y
  usual_follow [] y f = f
  usual_follow (w ∷ ws) y f = (Usual f.0, usual_follow ws w f.1)

  pub usual_reached : (y : World) → Reached script Hostile MayNotice May Lawful y → FramesReached script Hostile MayNotice May Lawful Frames y
  usual_reached y r = (r.0, usual_follow r.0 y r.1)

  pub frames_lifted : FramesLift script Hostile MayNotice May Lawful Frames
  frames_lifted J begun law y r = follows J begun law r.0 y r.1
