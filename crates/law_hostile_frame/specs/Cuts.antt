-- A cut of a link, and a frame that is malformed, in names and in numbers.
use Rattle.std.specs.Prelude.{◌≡◌, ℕ, ◌<◌, false, List, [], Some, length, slice_get}
use Rattle.def_machine.specs.State.{Vat}
use Rattle.def_machine.specs.Values.{Name}
use Rattle.def_run.specs.Vats.{Member}
use Rattle.def_run.specs.Wire.{connected_at}
use Rattle.def_run.specs.Numbers as run
use Rattle.def_run.specs.World as world
use Rattle.def_run.specs.World.{CutLink, NoticeLink, World, Goes}
use Rattle.def_hostile.specs.Hostile as names
use Rattle.def_hostile.specs.Hostile.{Play, Scene, Does, is_hostile, counts}
use Rattle.def_hostile.specs.Judge.{Malformed, verdict}
use Rattle.def_hostile.specs.Numbers as numbers
use Rattle.def_hostile.specs.Numbers.{Cast}
use Rattle.law_machine.specs.Renamed.Stands.{IsTable}
use Rattle.law_hostile_frame.specs.Tables.{table_in}
use Rattle.law_hostile_frame.specs.Mirrors.{SceneMirrors, ActsMirror}

-- frames and notes of both directions are lost
abbrev pub CutsMirror : Type 0
CutsMirror = (play : Play) (v u k : ℕ) (s : Scene) (c : Cast) → SceneMirrors play s c → ActsMirror play (names.does play (Does (CutLink v u)) k s) (numbers.does play (Does (CutLink v u)) k c)

-- The notice at vat u that its link with vat h was cut, right after that cut, leads to what stands for one another.
abbrev pub NoticeMirrorsBehindCut : Play → ℕ → ℕ → ℕ → Scene → Type 0
NoticeMirrorsBehindCut play h u k s = (y : World) (c : Cast) → world.cut play.script k h u s.world ≡ Goes y → SceneMirrors play (record s { world = y; raws = names.raws_cut h u s.raws }) c
    → ActsMirror play (names.acted (names.step_of play k) (record s { world = y; raws = names.raws_cut h u s.raws }) [] (world.step play.script (NoticeLink u h) k y)) (numbers.acted (names.step_of play k) u c (run.step play.script (NoticeLink u h) k c.vats))

-- Where that notice does, and the table of the receiver tells things apart, an injected frame that is malformed in names is so in numbers: its line, the cut and the notice, in one entry.
abbrev pub MalformedFramesMirror : Type 0
MalformedFramesMirror = (play : Play) (h u place k : ℕ) (bytes : List ℕ) (s : Scene) (c : Cast) (t : Vat Name) (m : Member) → NoticeMirrorsBehindCut play h u k s → is_hostile play u ≡ false → h < length c.vats.members → SceneMirrors play s c
    → slice_get s.world.vats u ≡ Some t → slice_get c.vats.members u ≡ Some m → IsTable u (table_in s.world u t)
    → verdict (length play.script.vats) u h (counts (connected_at u h s.world.connections).tables) bytes ≡ Malformed place
    → ActsMirror play (names.frame_comes play false k h u bytes s) (numbers.frame_comes play false k h u bytes c)
