-- What each doing of a run with hostile vats makes of its world: an honest vat takes a step, a note comes to a vat, or a hostile vat says a note in a frame, which comes at once.
use Rattle.std.specs.Prelude.{◌≡◌, ℕ, false, List, [], ◌∷◌, ◌++◌, Some, length, slice_get, codes}
use Rattle.def_op.specs.Frames.{Operation}
use Rattle.def_machine.specs.Values.{Broken, Name}
use Rattle.def_machine.specs.State.{Plain, Note, SettledTo, Elsewhere, Vat, Gives, send_out}
use Rattle.def_machine.specs.Receive.{receive}
use Rattle.def_run.specs.Deeds.{hear}
use Rattle.def_run.specs.World as world
use Rattle.def_run.specs.World.{Program, Entry, Turn, Carry, CutLink, NoticeLink, Event, Carried, Idle, NoticedAt, Link, World, Goes as Going, names, names_of, read_note, readied, begins, link_at, open_vat, step}
use Rattle.def_hostile.specs.Hostile.{Play, Scene, Line, Told}
use Rattle.def_hostile.specs.Plays.{ComesTo}
use Rattle.law_machine.specs.Run.Moves.{went, without}
use Rattle.law_adversary.specs.Moves.{entered_at, sight_at, framed_on, placed_from}
use Rattle.law_fate.specs.Fates.Fate.{of_note}
use Rattle.law_injected.specs.HostileRuns.{IsHostile, IsSpoken}

-- the events among the lines of a scene
unfoldable pub told : List Line → List Event
told [] = []
told (Told e ∷ ls) = e ∷ told ls
told (l ∷ ls) = told ls

-- a line that tells of no message, as entries of hostile vats and notes that tell again make them
abbrev pub IsQuiet : Event → Type 0
IsQuiet (Idle k) = Unit {0}
IsQuiet (NoticedAt k v w) = Unit {0}
IsQuiet (Carried k v w n bytes) = (x : Name) → of_note x n ≡ 0
IsQuiet other = ⊥

-- an entry of an honest vat without a note, or a cut
abbrev pub IsOwn : Play → Entry → Type 0
IsOwn play (Turn v) = IsHostile play v → ⊥
IsOwn play (Carry v w) = ⊥
IsOwn play (CutLink v w) = Unit {0}
IsOwn play (NoticeLink v w) = IsHostile play v → ⊥

module _ (play : Play) where
  -- the first note from v to u comes to be known to u, a hostile vat
  pub record Swallowing (k v u : ℕ) (w y : World) (n : Note Name) (ns : List (Note Name)) : Type 0 where
    pub bad : IsHostile play u
    pub before : Vat Name
    pub after : Vat Name
    pub there : slice_get w.vats u ≡ Some before
    pub hears : hear play.script u n (readied w before) ≡ Gives tt after
    pub is : y ≡ went u (without v u ns w) (Carried k v u n (world.next_frame v u w.connections) ∷ []) after

  -- it comes to u, an honest vat, which receives it by its entries
  pub record Receiving (k v u : ℕ) (w y : World) (n : Note Name) (ns : List (Note Name)) : Type 0 where
    pub honest : IsHostile play u → ⊥
    pub before : Vat Name
    pub after : Vat Name
    pub there : slice_get w.vats u ≡ Some before
    pub receives : receive (names play.script u) (sight_at w v u before) v (read_note (names_of before) (entered_at w v u before n)) (readied w before) ≡ Gives tt after
    pub is : y ≡ placed_from v u (entered_at w v u before n) w after (went u (without v u ns w) (Carried k v u (entered_at w v u before n) (world.next_frame v u w.connections) ∷ []) after)

  -- hostile vat h says a note to u, an honest one, in a frame
  pub record Saying (h u : ℕ) (w y : World) : Type 0 where
    pub note : Note Name
    pub op : Operation
    pub new : List Name
    pub ready : Vat Name
    pub after : Vat Name
    pub bad : IsHostile play h
    pub spoken : IsSpoken play w h u ready note op new
    pub sends : send_out u note ready ≡ Gives tt after
    pub quiet : after.happened ≡ []
    pub is : y ≡ framed_on w h u op note new (went h w [] after)

-- no note is on the link, or it is cut
abbrev pub Unheard : ℕ → ℕ → World → Type 0
Unheard v u w = (l : Link) → world.link_at v u w.links ≡ Some l → l.cut ≡ false → l.notes ≡ []

-- ---- what a note is taken for

-- The note itself, in the world as it is. But one by which a name settled elsewhere, and which would lead the vat back to a gift that it has, is taken to tell that the name is broken, once the word of its view is drawn.
pub data IsTakenFor (w : World) (x : Note Name) : World → Note Name → Type 0 where
  itself : IsTakenFor w x w x
  broken : (n : Name) (c word : ℕ) → x ≡ Elsewhere n c → IsTakenFor w x (record w { drawn = w.drawn ++ word ∷ [] }) (SettledTo n (Plain (Broken (codes "cycle"))))

-- ---- the worlds of a run

-- A world to which such doings lead, each of them as the run does it: opening turns of honest vats, each of its own program; entries of honest vats, and cuts; lines that tell of no message;
-- the first note of a link that is not cut, which comes to its vat; and what a hostile vat says in a frame.
pub data IsReal (play : Play) : World → Type 0 where
  start : IsReal play (begins play.script)
  opened : {w x : World} (front rest : List Program) (p : Program) → (IsHostile play (length front) → ⊥) → play.script.vats ≡ front ++ p ∷ rest → IsReal play w → open_vat play.script (length front) p w ≡ Going x → IsReal play x
  entered : {w x : World} (entry : Entry) (k : ℕ) → IsOwn play entry → IsReal play w → step play.script entry k w ≡ Going x → IsReal play x
  happened : {w : World} (e : Event) → IsQuiet e → IsReal play w → IsReal play (record w { history = w.history ++ e ∷ [] })
  swallowed : {w x : World} (k v u : ℕ) (l : Link) (n : Note Name) (ns : List (Note Name)) → link_at v u w.links ≡ Some l → l.cut ≡ false → l.notes ≡ n ∷ ns → IsReal play w → Swallowing play k v u w x n ns → IsReal play x
  received : {w x : World} (k v u : ℕ) (l : Link) (n : Note Name) (ns : List (Note Name)) → link_at v u w.links ≡ Some l → l.cut ≡ false → l.notes ≡ n ∷ ns → IsReal play w → Receiving play k v u w x n ns → IsReal play x
  said : {w x : World} (h u : ℕ) → IsReal play w → Saying play h u w x → IsReal play x

-- The world of each scene to which a run with a hostile vat comes is such a world.
abbrev pub ScenesAreReal : Type 0
ScenesAreReal = (play : Play) (h : ℕ) → IsHostile play h → (s : Scene) → ComesTo play s → IsReal play s.world

-- opens the definitions of this file
unfoldable pub opened_doings : Unit {0}
unfolding told
opened_doings = tt
