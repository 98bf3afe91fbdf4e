-- Each scene of a run is reached by moves in which what hostile vats say is lawful.
use Rattle.std.proofs.Common.{◌≡◌, ℕ, List, [], ◌∷◌, subst}
use Rattle.def_machine.specs.Values.{Value, Ref, Name}
use Rattle.def_machine.specs.State.{Passed, Passeds, Plain, AGift, Many, NoMore, More, Note, Deliver, Open, Ask, SettledTo, Elsewhere, Shorten}
use Rattle.def_run.specs.World.{World, put_at}
use Rattle.def_hostile.specs.Hostile.{Play}
use Rattle.law_machine.specs.Run.Moves.{AnyNotice}
use Rattle.law_adversary.specs.Moves.{FrameMove, Usual, Recorded, Framed, Received, FramesFollow, FramesReached}
use Rattle.law_fate.specs.Name.Names.{Bit, PassedOk, PassedsOk, ValueOk, NoteOk, IsHad, names_in}
use Rattle.law_injected.specs.HostileRuns.{AnyDeed, NothingSaid, IsHostile, IsSpoken, IsReached}
use Rattle.law_lawful.specs.Claims.{IsMade}
use Rattle.law_lawful.specs.Lawful.{AnyWord, IsLawful, RunsAreLawful}
use Rattle.law_lawful.proofs.Learnt.{spoken_known}
use Rattle.law_lawful.proofs.Reached.{in_scenes, spoken_between}

-- what is so of each name, and that
module _ (P Q : Bit Name → Type 0) where
  abbrev Both : Bit Name → Type 0
  Both b = P b × Q b

  value_both : (y : Value Name) → ValueOk P y → ValueOk Q y → ValueOk Both y
  value_both (Ref n) h k = (h, k)
  value_both other h k = tt

  mutual
    passed_both : (y : Passed Name) → PassedOk P y → PassedOk Q y → PassedOk Both y
    passed_both (Plain y) h k = value_both y h k
    passed_both (AGift g i) h k = ((h.0, k.0), (h.1, k.1))
    passed_both (Many ys) h k = all_both ys h k

    all_both : (ys : Passeds Name) → PassedsOk P ys → PassedsOk Q ys → PassedsOk Both ys
    all_both NoMore h k = tt
    all_both (More y ys) h k = (passed_both y h.0 k.0, all_both ys h.1 k.1)

  note_both : (n : Note Name) → NoteOk P n → NoteOk Q n → NoteOk Both n
  note_both (Deliver d n verb ys) h k = ((h.0, k.0), (h.1, k.1), all_both ys h.2 k.2)
  note_both (Open i n) h k = ((h.0, k.0), (h.1, k.1))
  note_both (Ask p i n) h k = ((h.0, k.0), (h.1, k.1))
  note_both (SettledTo n y) h k = ((h.0, k.0), passed_both y h.1 k.1)
  note_both (Elsewhere n c) h k = ((h.0, k.0), (h.1, k.1))
  note_both (Shorten n c i) h k = ((h.0, k.0), (h.1, k.1))

module _ (play : Play) where
  -- a hostile vat is no honest one
  apart : (v u : ℕ) → IsHostile play v → (IsHostile play u → ⊥) → v ≡ u → ⊥
  apart v u bad honest e = honest (subst (λ x. IsHostile play x) e bad)

  lawful_move : (w y : World) → IsReached play w → FrameMove play.script (IsHostile play) AnyNotice AnyDeed NothingSaid (IsSpoken play) w y → FrameMove play.script (IsHostile play) AnyNotice AnyDeed NothingSaid IsLawful w y
  lawful_move w y r (Usual m) = Usual m
  lawful_move w y r (Recorded h b es e) = Recorded h b es e
  lawful_move w y r (Framed v u s t z ds n o new bad i p x f e) = let b = spoken_between play w r v u t n o new bad x in
      Framed v u s t z ds n o new bad i p (note_both (IsMade AnyWord (put_at v t w.vats) t.drawn) (IsHad (names_in t.known) t.mails) n b.0 (spoken_known play w v u t n o new x), apart v u bad x.honest, b.1, b.2) f e
  lawful_move w y r (Received h b k a v l n ns s t i c j q x f e) = Received h b k a v l n ns s t i c j q x f e

  follow : (ws : List World) (y : World) → FramesFollow play.script (IsHostile play) AnyNotice AnyDeed NothingSaid (IsSpoken play) ws y → FramesFollow play.script (IsHostile play) AnyNotice AnyDeed NothingSaid IsLawful ws y
  follow [] y h = h
  follow (w ∷ ws) y h = (lawful_move w y (ws, h.1) h.0, follow ws w h.1)

pub runs_lawful : RunsAreLawful
runs_lawful = in_scenes (λ play w. FramesReached play.script (IsHostile play) AnyNotice AnyDeed NothingSaid IsLawful w) (λ play w r. (r.0, follow play r.0 w r.1))
