-- Each thing that is done in a play, and the whole play, where what is known of the steps of honest vats is known, and what comes to honest vats mirrors.
use Rattle.std.specs.Prelude.{◌≡◌, ℕ, zero, ◌+◌, ◌<◌, Bool, true, false, List, ◌∷◌, ◌++◌, Some, length, slice_get}
use Rattle.def_machine.specs.State.{Vat}
use Rattle.def_machine.specs.Values.{Name}
use Rattle.def_op.specs.Frames.{Operation}
use Rattle.def_run.specs.Numbers.{way_at}
use Rattle.def_run.specs.Wire.{connected_at}
use Rattle.def_run.specs.World as world
use Rattle.def_run.specs.World.{Program, Carry, World, Goes, link_at}
use Rattle.def_hostile.specs.Hostile as names
use Rattle.def_hostile.specs.Hostile.{Play, Doing, Does, Scene, Plays, is_hostile, frames_at, with_frames, counts}
use Rattle.def_hostile.specs.HostileText as theirs
use Rattle.def_hostile.specs.Judge.{Lawful, verdict}
use Rattle.def_hostile.specs.Numbers as numbers
use Rattle.def_hostile.specs.Numbers.{Cast}
use Rattle.def_hostile.specs.NumbersText as ours
use Rattle.law_machine.specs.Renamed.Stands.{IsTable}
use Rattle.law_hostile_frame.specs.Mirrors.{SceneMirrors, ActsMirror}
use Rattle.law_hostile_frame.specs.Tables.{table_in}
use Rattle.law_hostile_mirror.specs.Own.{TurnIsKnown, NoticeIsKnown, OpeningIsKnown}
use Rattle.law_hostile_mirror.specs.Swallows.{HearingRefers}

-- a scene before the next of the doings
abbrev pub IsBefore : Play → Doing → ℕ → Scene → Type 0
IsBefore play d k s = (opened : Scene) × (ds : List Doing) × (rest : List Doing) × (play.doings ≡ ds ++ d ∷ rest) × (k ≡ 1 + length ds) × (names.opens_from play zero play.script.vats (names.starts play) ≡ Plays opened) × (names.does_all play ds 1 opened ≡ Plays s)

-- What is known of each scene of a play, by names alone.
pub record ScenesAreKnown (play : Play) : Type 0 where
  pub openings : (ps rest : List Program) (p : Program) (s : Scene) → play.script.vats ≡ ps ++ p ∷ rest → names.opens_from play zero ps (names.starts play) ≡ Plays s → is_hostile play (length ps) ≡ false → OpeningIsKnown play.script (length ps) p s.world
  pub turns : (v k : ℕ) (s : Scene) → IsBefore play (Does (world.Turn v)) k s → is_hostile play v ≡ false → TurnIsKnown play.script v s.world
  pub notices : (v w k : ℕ) (s : Scene) → IsBefore play (Does (world.NoticeLink v w)) k s → is_hostile play v ≡ false → NoticeIsKnown play.script v w s.world
  -- a carry is between two vats that are there, and what comes to a hostile vat gives no message a number
  pub ends : (v u k : ℕ) (s : Scene) → IsBefore play (Does (Carry v u)) k s → (v < length s.world.vats) × (u < length s.world.vats)
  pub apart : (v u k : ℕ) (s : Scene) → IsBefore play (Does (Carry v u)) k s → v ≡ u → ⊥
  pub hearing : (v u k : ℕ) (s : Scene) → IsBefore play (Does (Carry v u)) k s → is_hostile play u ≡ true → HearingRefers v u s.world
  -- No two numbers of the receiver of a frame stand for one name, and of the notice behind the cut that a malformed frame makes it is known too.
  pub tables : (h u k : ℕ) (s : Scene) (t : Vat Name) → IsBefore play (Does (Carry h u)) k s → is_hostile play u ≡ false → slice_get s.world.vats u ≡ Some t → IsTable u (table_in s.world u t)
  pub severed : (h u k : ℕ) (s : Scene) (y : World) → IsBefore play (Does (Carry h u)) k s → is_hostile play u ≡ false → world.cut play.script k h u s.world ≡ Goes y → NoticeIsKnown play.script u h y

-- What comes to an honest vat mirrors: a note that was put, and an injected frame that is lawful.
pub record ArrivalsMirror (play : Play) : Type 0 where
  pub notes : (v u k : ℕ) (s : Scene) (c : Cast) → IsBefore play (Does (Carry v u)) k s → is_hostile play u ≡ false → SceneMirrors play s c
      → ActsMirror play (names.carry_link play k v u s (link_at v u s.world.links)) (numbers.carry_way play k v u c (way_at v u c.vats.ways))
  pub frames : (h u k : ℕ) (s : Scene) (c : Cast) (bytes : List ℕ) (rest : List (List ℕ)) (op : Operation) (kinds : List Bool) → IsBefore play (Does (Carry h u)) k s → is_hostile play h ≡ true → is_hostile play u ≡ false → frames_at h u s.raws ≡ bytes ∷ rest
      → verdict (length play.script.vats) u h (counts (connected_at u h s.world.connections).tables) bytes ≡ Lawful op kinds → SceneMirrors play s c
      → ActsMirror play (names.frame_comes play false k h u bytes (record s { raws = with_frames (λ old. rest) h u s.raws })) (numbers.frame_comes play false k h u bytes (record c { raws = with_frames (λ old. rest) h u c.raws }))

-- Then each doing does, and the whole play.
abbrev pub DoingsMirror : Type 0
DoingsMirror = (play : Play) → ScenesAreKnown play → ArrivalsMirror play → ActsMirror play (names.acts play) (numbers.performs play)

-- So the texts are one, with the frames and without.
abbrev pub PlaysHaveOneText : Type 0
PlaysHaveOneText = (play : Play) → ScenesAreKnown play → ArrivalsMirror play → (ours.text play (numbers.performs play) ≡ theirs.text play (names.acts play)) × (ours.wire_text play (numbers.performs play) ≡ theirs.wire_text play (names.acts play))
