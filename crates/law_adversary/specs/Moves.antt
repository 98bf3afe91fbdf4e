-- The moves of a world in which hostile vats put frames of bytes: each move, lines alone, what a hostile vat says in a frame, and notes that an honest vat receives by its own entries.
use Rattle.std.specs.Prelude.{◌≡◌, ℕ, false, List, [], ◌∷◌, ◌++◌, Some, slice_get}
use Rattle.def_op.specs.Frames.{Operation}
use Rattle.def_machine.specs.Values.{Name}
use Rattle.def_machine.specs.State.{Note, Vat, Gives, send_out}
use Rattle.def_machine.specs.Receive.{Sight, receive}
use Rattle.def_run.specs.Deeds.{Deed}
use Rattle.def_run.specs.Entered.{entered, imports_placed, sight_by}
use Rattle.def_run.specs.Wire.{connected_at, with_connected, hear_at, write_all}
use Rattle.def_run.specs.World.{Script, Event, Carried, Link, World, link_at, next_frame, readied, begins, names, names_of, read_note}
use Rattle.def_hostile.specs.Hostile.{said_on}
use Rattle.law_machine.specs.Run.Moves.{Move, Performs, went, without}

-- what vat v, being s, has in numbers for vat a tells it of its names
abbrev pub sight_at : World → ℕ → ℕ → Vat Name → Sight Name
sight_at w a v s = sight_by (names_of s) (connected_at v a w.connections).tables

-- a note by the entries of vat v, being s, at which it arrives from vat a, by what that exported to it
abbrev pub entered_at : World → ℕ → ℕ → Vat Name → Note Name → Note Name
entered_at w a v s n = entered v a (connected_at a v w.connections).tables.exports (names_of s) n

-- World y, in which vat v, being t, has heard that note of vat a in world w: what it imported stands there as its entries, and what it put is written behind that.
abbrev pub placed_from : ℕ → ℕ → Note Name → World → Vat Name → World → World
placed_from a v n w t y = record y { connections = write_all v t.outbox (imports_placed v a (hear_at a v n w.connections)) }

-- The world y in which a vat v of the world w put a frame for u: on its connection stand the operation, the names that the frame makes, and what it asks for.
abbrev pub framed_on : World → ℕ → ℕ → Operation → Note Name → List Name → World → World
framed_on w v u op n new y = record y { connections = with_connected (said_on u op n new) v u w.connections }

-- which vats are hostile, which notices may be, what the records of hostile vats may do, what these say without a frame, and what in which frames
module _ (script : Script) (Hostile : ℕ → Type 0) (MayNotice : World → ℕ → ℕ → Type 0) (May : World → ℕ → Vat Name → Deed → Type 0) (Lawful : World → ℕ → ℕ → Vat Name → Note Name → Type 0) (Frames : World → ℕ → ℕ → Vat Name → Note Name → Operation → List Name → Type 0) where
  pub data FrameMove (w y : World) : Type 0 where
    Usual : Move script Hostile MayNotice May Lawful w y → FrameMove w y
    -- where a vat is hostile: lines, and nothing else
    Recorded : (h : ℕ) → Hostile h → (es : List Event) → y ≡ record w { history = w.history ++ es } → FrameMove w y
    -- a hostile vat says n to u in a frame: its record makes the names, the note stands on its link, and the frame on its connection
    Framed : (v u : ℕ) (s t r : Vat Name) (ds : List Deed) (n : Note Name) (op : Operation) (new : List Name) → Hostile v → slice_get w.vats v ≡ Some s → Performs script Hostile MayNotice May Lawful w v ds (readied w s) t → Frames w v u t n op new → send_out u n t ≡ Gives tt r
        → y ≡ framed_on w v u op n new (went v w [] r) → FrameMove w y
    -- where a vat is hostile: a note comes to an honest vat, which receives it by its own entries, and imports what is new as those
    Received : (h : ℕ) → Hostile h → (k a v : ℕ) (l : Link) (n : Note Name) (ns : List (Note Name)) (s t : Vat Name) → (Hostile v → ⊥) → link_at a v w.links ≡ Some l → l.cut ≡ false → l.notes ≡ n ∷ ns → slice_get w.vats v ≡ Some s
        → receive (names script v) (sight_at w a v s) a (read_note (names_of s) (entered_at w a v s n)) (readied w s) ≡ Gives tt t
        → y ≡ placed_from a v (entered_at w a v s n) w t (went v (without a v ns w) (Carried k a v (entered_at w a v s n) (next_frame a v w.connections) ∷ []) t) → FrameMove w y

  -- by such moves that world follows on those, the last first
  abbrev pub FramesFollow : List World → World → Type 0
  FramesFollow [] y = y ≡ begins script
  FramesFollow (w ∷ ws) y = FrameMove w y × FramesFollow ws w

  abbrev pub FramesReached : World → Type 0
  FramesReached y = (ws : List World) × FramesFollow ws y

  -- what holds at the start, and is kept by each move, holds of each world that is so reached
  abbrev pub FramesLift : Type 1
  FramesLift = (J : World → Type 0) → J (begins script) → ((w y : World) → FramesReached w → J w → FrameMove w y → J y) → (y : World) → FramesReached y → J y
