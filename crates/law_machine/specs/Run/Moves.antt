-- The moves of a world: openings and entries of honest vats, notes that come to hostile vats, and what hostile vats say.
use Rattle.std.specs.Prelude.{◌≡◌, ℕ, zero, false, List, [], ◌∷◌, ◌++◌, Some, None, length, slice_get}
use Rattle.def_machine.specs.Values.{Name, Root}
use Rattle.def_machine.specs.State.{Message, Note, Vat, Gives, send_out}
use Rattle.law_machine.specs.Machine.Steps.{Step, Opens as Starts, Takes, Receives, Notices, does}
pub use Rattle.def_run.specs.Deeds.{Deed, NewObject, NewPromise, NewMessage, NewLone, Learns}
unfoldable pub use Rattle.def_run.specs.Deeds.{perform, hear_message, hear}
use Rattle.def_run.specs.Wire.{Connected}
use Rattle.def_run.specs.World.{Script, Program, Entry, Turn, Carry, CutLink, NoticeLink, Event, Carried, Link, World, Goes, with_link, with_notes, link_at, push_all, events_of, connections_after, next_frame, heard_by, put_at, readied, begins, names, names_of, read_note, given, tree_at, open_vat, open_from, step, steps_from}

-- the world in which a vat went on to t: its lines behind those, its notes on its links
unfoldable pub went : ℕ → World → List Event → Vat Name → World
went v w head t = record {
  fuel = t.fuel;
  drawn = t.drawn;
  vats = put_at v t w.vats;
  links = push_all v t.outbox w.links;
  connections = connections_after v t head w.connections;
  history = w.history ++ head ++ events_of w.links v t.happened;
}

-- a note leaves its link
unfoldable pub without : ℕ → ℕ → List (Note Name) → World → World
without a v ns w = record w { links = with_link (with_notes ns) a v w.links }

-- and nothing is done with it
unfoldable pub left_link : ℕ → ℕ → ℕ → Note Name → List (Note Name) → World → World
left_link k a v n ns w = record w { links = with_link (with_notes ns) a v w.links; history = w.history ++ Carried k a v n (next_frame a v w.connections) ∷ [] }

module _ (script : Script) where
  -- which vats are hostile, which notices may be, and what hostile vats may learn and say
  module _ (Hostile : ℕ → Type 0) (MayNotice : World → ℕ → ℕ → Type 0) (May : World → ℕ → Vat Name → Deed → Type 0) (Lawful : World → ℕ → ℕ → Vat Name → Note Name → Type 0) where
    -- one deed after another
    abbrev pub Performs : World → ℕ → List Deed → Vat Name → Vat Name → Type 0
    Performs w v [] s t = s ≡ t
    Performs w v (d ∷ ds) s t = (r : Vat Name) × May w v s d × (perform script v d s ≡ Gives tt r) × Performs w v ds r t

    abbrev pub IsHonest : World → Entry → Type 0
    IsHonest w (Turn v) = Hostile v → ⊥
    IsHonest w (Carry a v) = Hostile v → ⊥
    IsHonest w (CutLink a b) = Unit {0}
    IsHonest w (NoticeLink v to) = (Hostile v → ⊥) × MayNotice w v to

    pub data Move (w y : World) : Type 0 where
      -- the opening turn of an honest vat
      Opened : (front rest : List Program) (p : Program) → (Hostile (length front) → ⊥) → script.vats ≡ front ++ p ∷ rest → open_vat script (length front) p w ≡ Goes y → Move w y
      -- an entry, other than of hostile vats
      Stepped : (entry : Entry) (k : ℕ) → IsHonest w entry → step script entry k w ≡ Goes y → Move w y
      -- a note comes to a hostile vat, which answers nothing
      Swallowed : (k a v : ℕ) (l : Link) (n : Note Name) (ns : List (Note Name)) (s t : Vat Name) → Hostile v → link_at a v w.links ≡ Some l → l.cut ≡ false → l.notes ≡ n ∷ ns → slice_get w.vats v ≡ Some s → hear script v n (readied w s) ≡ Gives tt t
          → y ≡ went v (without a v ns w) (Carried k a v n (next_frame a v w.connections) ∷ []) t → Move w y
      -- a hostile vat says n to u: its record makes the names, and the note stands on its link
      Says : (v u : ℕ) (s t r : Vat Name) (ds : List Deed) (n : Note Name) → Hostile v → slice_get w.vats v ≡ Some s → Performs w v ds (readied w s) t → Lawful w v u t n → send_out u n t ≡ Gives tt r → y ≡ went v w [] r → Move w y

    -- by such moves that world follows on those, the last first
    abbrev pub Follows : List World → World → Type 0
    Follows [] y = y ≡ begins script
    Follows (w ∷ ws) y = Move w y × Follows ws w

    abbrev pub Reached : World → Type 0
    Reached y = (ws : List World) × Follows ws y

    -- what holds at the start, and is kept by each move, holds of each world that is reached
    abbrev pub Lifts : Type 1
    Lifts = (J : World → Type 0) → J (begins script) → ((w y : World) → Reached w → J w → Move w y → J y) → (y : World) → Reached y → J y

-- no vat is hostile; each notice may be
abbrev pub Nobody : ℕ → Type 0
Nobody v = ⊥

abbrev pub AnyNotice : World → ℕ → ℕ → Type 0
AnyNotice w v to = Unit {0}

abbrev pub IsReached : Script → World → Type 0
IsReached script = Reached script Nobody AnyNotice (λ w v s d. ⊥) (λ w v u s n. ⊥)

-- Every world of a run of a script is reached with no hostile vat.
abbrev pub HonestRunsAreReached : Type 0
HonestRunsAreReached = (script : Script)
    → ((ps rest : List Program) (w : World) → script.vats ≡ ps ++ rest → open_from script zero ps (begins script) ≡ Goes w → IsReached script w)
    × ((w x : World) (es : List Entry) (k : ℕ) → open_from script zero script.vats (begins script) ≡ Goes w → steps_from script es k w ≡ Goes x → IsReached script x)

-- ---- a move, told by what it makes of the world

-- a step that no note begins
abbrev pub IsAlone : Step Name Name → Type 0
IsAlone (Starts tree depth root given) = Unit {0}
IsAlone (Takes tree depth n) = Unit {0}
IsAlone (Receives from n) = ⊥
IsAlone (Notices w) = Unit {0}

-- its lines tell of no note that arrives
abbrev pub TellsOfNoNote : List Event → Type 0
TellsOfNoNote head = (cs : List Connected) → heard_by head cs ≡ cs

-- a notice may be
abbrev pub MayBegin : (ℕ → Type 0) → Step Name Name → Type 0
MayBegin P (Starts tree depth root given) = Unit {0}
MayBegin P (Takes tree depth n) = Unit {0}
MayBegin P (Receives from n) = Unit {0}
MayBegin P (Notices w) = P w

module _ (script : Script) (w : World) where
  -- From what a step begins: an opening turn of the vat's program, the first message of its queue, or the vat as it is.
  abbrev pub Begins : ℕ → Vat Name → Vat Name → Step Name Name → Type 0
  Begins v s q (Starts tree depth root bs) = (p : Program) × (slice_get script.vats v ≡ Some p) × (q ≡ s) × (tree ≡ p.tree) × (depth ≡ script.depth) × (root ≡ Root v) × (bs ≡ given script.vats p.knows)
  Begins v s q (Takes tree depth n) = (ms : List (Message Name)) × (s.queue ≡ n ∷ ms) × (q ≡ record s { queue = ms }) × (tree ≡ tree_at script.vats v) × (depth ≡ script.depth)
  Begins v s q (Receives from n) = q ≡ s
  Begins v s q (Notices u) = q ≡ s

  -- a step of vat v, from s, which is readied as q, to t
  pub record Does (v : ℕ) (s q t : Vat Name) (what : Step Name Name) : Type 0 where
    pub there : slice_get w.vats v ≡ Some s
    pub begins : Begins v s q what
    pub gives : does (names script v) what (readied w q) ≡ Gives tt t

  pub data Moved (Hostile : ℕ → Type 0) (MayNotice : World → ℕ → ℕ → Type 0) (May : World → ℕ → Vat Name → Deed → Type 0) (Lawful : World → ℕ → ℕ → Vat Name → Note Name → Type 0) (y : World) : Type 0 where
    Still : (es : List Event) → y ≡ record w { history = w.history ++ es } → Moved Hostile MayNotice May Lawful y
    Severs : (k a b : ℕ) → step script (CutLink a b) k w ≡ Goes y → Moved Hostile MayNotice May Lawful y
    -- a note leaves its link, for no vat
    Drops : (a v : ℕ) (n : Note Name) (ns : List (Note Name)) (l : Link) (es : List Event) → link_at a v w.links ≡ Some l → l.cut ≡ false → l.notes ≡ n ∷ ns → slice_get w.vats v ≡ None → y ≡ record w { links = with_link (with_notes ns) a v w.links; history = w.history ++ es } → Moved Hostile MayNotice May Lawful y
    Steps : (v : ℕ) (s q t : Vat Name) (what : Step Name Name) (head : List Event) → (Hostile v → ⊥) → IsAlone what → MayBegin (MayNotice w v) what → TellsOfNoNote head → Does v s q t what → y ≡ went v w head t → Moved Hostile MayNotice May Lawful y
    Arrives : (a v : ℕ) (s t : Vat Name) (n : Note Name) (ns : List (Note Name)) (l : Link) (k : ℕ) (frame : List ℕ) → (Hostile v → ⊥) → link_at a v w.links ≡ Some l → l.cut ≡ false → l.notes ≡ n ∷ ns → Does v s s t (Receives a (read_note (names_of s) n))
        → y ≡ went v (record w { links = with_link (with_notes ns) a v w.links }) (Carried k a v n frame ∷ []) t → Moved Hostile MayNotice May Lawful y
    Hears : (a v : ℕ) (s t : Vat Name) (n : Note Name) (ns : List (Note Name)) (l : Link) (k : ℕ) (frame : List ℕ) → Hostile v → link_at a v w.links ≡ Some l → l.cut ≡ false → l.notes ≡ n ∷ ns → slice_get w.vats v ≡ Some s → hear script v n (readied w s) ≡ Gives tt t → y ≡ went v (without a v ns w) (Carried k a v n frame ∷ []) t → Moved Hostile MayNotice May Lawful y
    Tells : (v u : ℕ) (s t r : Vat Name) (ds : List Deed) (n : Note Name) → Hostile v → slice_get w.vats v ≡ Some s → Performs script Hostile MayNotice May Lawful w v ds (readied w s) t → Lawful w v u t n → send_out u n t ≡ Gives tt r → y ≡ went v w [] r → Moved Hostile MayNotice May Lawful y

-- each move is one of these
abbrev pub EachMoveIsTold : Type 1
EachMoveIsTold = (script : Script) (Hostile : ℕ → Type 0) (MayNotice : World → ℕ → ℕ → Type 0) (May : World → ℕ → Vat Name → Deed → Type 0) (Lawful : World → ℕ → ℕ → Vat Name → Note Name → Type 0) (w y : World)
    → Move script Hostile MayNotice May Lawful w y → Moved script w Hostile MayNotice May Lawful y

abbrev pub HonestMovesAreTold : Type 0
HonestMovesAreTold = (script : Script) (w y : World) → Move script Nobody AnyNotice (λ w v s d. ⊥) (λ w v u s n. ⊥) w y → Moved script w Nobody AnyNotice (λ w v s d. ⊥) (λ w v u s n. ⊥) y

-- what each move keeps holds of each world that is reached
abbrev pub MovesLift : Type 1
MovesLift = (script : Script) (Hostile : ℕ → Type 0) (MayNotice : World → ℕ → ℕ → Type 0) (May : World → ℕ → Vat Name → Deed → Type 0) (Lawful : World → ℕ → ℕ → Vat Name → Note Name → Type 0) → Lifts script Hostile MayNotice May Lawful

-- opens each definition of this file
unfoldable pub opened_moves : Unit {0}
unfolding went without left_link perform hear_message hear
opened_moves = tt
