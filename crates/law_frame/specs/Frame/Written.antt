-- Each frame under way is what its sender wrote as its note was put.
use Rattle.std.specs.Prelude.{◌≡◌, ℕ, true, false, List, [], ◌∷◌, ◌++◌, Some, slice_get, length}
use Rattle.def_op.specs.Frames.{Operation, spelling}
use Rattle.def_machine.specs.Values.{Name}
use Rattle.def_machine.specs.State.{Note, Vat, is_in}
use Rattle.def_run.specs.Connections.{Connection, asked_in, exported_note, frame_now}
use Rattle.def_run.specs.Wire.{Connected, connected_at, sight}
use Rattle.def_run.specs.World.{Script, Program, Entry, Link, World, Goes, link_at, next_frame, begins, open_from, steps_from}
use Rattle.law_machine.specs.Run.Moves.{Reached, AnyNotice}
use Rattle.law_frame.specs.Frame.Growing.{TablesGrow}

module _ (v u : ℕ) (c : Connected) where
  -- These are the frames of those notes from v to u, in order, up to the last that was put; c is what v has for u, and what it exported to u and asked it for before is that.
  -- Each was written by the tables that v had as the note was put.
  abbrev pub AreWritten : List Name → List Name → List (Note Name) → List Operation → Type 0
  AreWritten exported asked [] [] = (exported ≡ c.tables.exports) × (asked ≡ c.tables.questions)
  AreWritten exported asked (n ∷ ns) (o ∷ os) = (t : Connection Name) × (t.exports ≡ exported) × (t.questions ≡ asked) × TablesGrow t c.tables × (o ≡ frame_now (sight v u) n t)
      × AreWritten (exported_note (sight v u) t.answers n exported) (asked ++ asked_in (sight v u) n) ns os
  AreWritten exported asked [] (o ∷ os) = ⊥
  AreWritten exported asked (n ∷ ns) [] = ⊥

  -- So the notes under way have their frames behind those that have arrived at u, which has d for v. And u has in order all that v asked it for in what has arrived.
  abbrev pub HaveTheirFrames : Connected → List (Note Name) → Type 0
  HaveTheirFrames d notes = (front rest : List Operation) × (exported : List Name) × (c.written ≡ front ++ rest) × (length front ≡ d.heard) × AreWritten exported d.tables.answers notes rest

-- on the link from v to u, which is not cut, and where u is a vat
abbrev pub LinkHasFrames : World → ℕ → ℕ → Type 0
LinkHasFrames w v u = (v ≡ u → ⊥) → (l : Link) (s : Vat Name) → link_at v u w.links ≡ Some l → l.cut ≡ false → slice_get w.vats u ≡ Some s
    → HaveTheirFrames v u (connected_at v u w.connections) (connected_at u v w.connections) l.notes

-- In each world that is reached, whichever vats are hostile and whatever they say.
abbrev pub NotesHaveTheirFrames : Type 0
NotesHaveTheirFrames = (script : Script) (hs : List ℕ) (w : World) → Reached script (λ v. is_in v hs ≡ true) AnyNotice (λ w v s d. Unit {0}) (λ w v u s n. Unit {0}) w → (v u : ℕ) → LinkHasFrames w v u

-- So in each world of a run of a script: the bytes of the next frame to arrive are what its sender wrote, as the note was put, by tables that have only grown since; and what the sender had asked the receiver for by then is what has arrived there.
abbrev pub NextFramesAreWritten : Type 0
NextFramesAreWritten = (script : Script) (w x : World) (es : List Entry) (k : ℕ) → open_from script 0 script.vats (begins script) ≡ Goes w → steps_from script es k w ≡ Goes x
    → (v u : ℕ) (l : Link) (s : Vat Name) (n : Note Name) (ns : List (Note Name)) → (v ≡ u → ⊥) → link_at v u x.links ≡ Some l → l.cut ≡ false → slice_get x.vats u ≡ Some s → l.notes ≡ n ∷ ns
    → (t : Connection Name) × TablesGrow t (connected_at v u x.connections).tables × (t.questions ≡ (connected_at u v x.connections).tables.answers)
    × (next_frame v u x.connections ≡ spelling (frame_now (sight v u) n t))
