-- Entries that no honest vat takes part in, in names and in numbers.
use Rattle.std.specs.Prelude.{◌≡◌, ℕ, true, List, ◌∷◌}
use Rattle.def_run.specs.World.{Turn, Carry, NoticeLink, Event}
use Rattle.def_hostile.specs.Hostile as names
use Rattle.def_hostile.specs.Hostile.{Play, Scene, Line, Does, Injects, is_hostile, frames_at}
use Rattle.def_hostile.specs.Numbers as numbers
use Rattle.def_hostile.specs.Numbers.{Cast}
use Rattle.law_hostile_frame.specs.Mirrors.{SceneMirrors, ActsMirror}

-- the start, whatever the script
abbrev pub StartsMirror : Type 0
StartsMirror = (play : Play) → SceneMirrors play (names.starts play) (numbers.starts play)

-- a line that changes nothing
abbrev pub LinesMirror : Type 0
LinesMirror = (play : Play) (l : Line) (s : Scene) (c : Cast) → SceneMirrors play s c → ActsMirror play (names.tells l s) (numbers.tells l c)

-- an event that changes nothing
abbrev pub EventsMirror : Type 0
EventsMirror = (play : Play) (e : Event) (s : Scene) (c : Cast) → SceneMirrors play s c → ActsMirror play (names.happens e s) (numbers.happens e c)

-- bytes are put on a link, or are not where it is cut
abbrev pub InjectionsMirror : Type 0
InjectionsMirror = (play : Play) (h u k : ℕ) (bytes : List ℕ) (s : Scene) (c : Cast) → SceneMirrors play s c → ActsMirror play (names.does play (Injects h u bytes) k s) (numbers.does play (Injects h u bytes) k c)

-- a turn of a hostile vat, and its notice of a cut
abbrev pub IdleTurnsMirror : Type 0
IdleTurnsMirror = (play : Play) (h k : ℕ) (s : Scene) (c : Cast) → is_hostile play h ≡ true → SceneMirrors play s c → ActsMirror play (names.does play (Does (Turn h)) k s) (numbers.does play (Does (Turn h)) k c)

abbrev pub IdleNoticesMirror : Type 0
IdleNoticesMirror = (play : Play) (h u k : ℕ) (s : Scene) (c : Cast) → is_hostile play h ≡ true → SceneMirrors play s c → ActsMirror play (names.does play (Does (NoticeLink h u)) k s) (numbers.does play (Does (NoticeLink h u)) k c)

-- an injected frame comes to a hostile vat
abbrev pub UnreadFramesMirror : Type 0
UnreadFramesMirror = (play : Play) (h u k : ℕ) (s : Scene) (c : Cast) (f : List ℕ) (fs : List (List ℕ)) → is_hostile play h ≡ true → is_hostile play u ≡ true → frames_at h u s.raws ≡ f ∷ fs → SceneMirrors play s c
    → ActsMirror play (names.does play (Does (Carry h u)) k s) (numbers.does play (Does (Carry h u)) k c)
