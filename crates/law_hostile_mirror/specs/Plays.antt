-- A play in the vats' own numbers is the play in names, where each thing that is done in it mirrors.
use Rattle.std.specs.Prelude.{◌≡◌, zero, ◌+◌, false, List, ◌∷◌, ◌++◌, Some, length, slice_get}
use Rattle.def_run.specs.World.{Program, fresh}
use Rattle.def_hostile.specs.Hostile as names
use Rattle.def_hostile.specs.Hostile.{Play, Doing, Scene, Acted, Plays, is_hostile}
use Rattle.def_hostile.specs.HostileText as theirs
use Rattle.def_hostile.specs.Numbers as numbers
use Rattle.def_hostile.specs.Numbers.{Cast, Performed}
use Rattle.def_hostile.specs.NumbersText as ours
use Rattle.law_hostile_frame.specs.Mirrors.{SceneMirrors, ActsMirror}

-- the closing list
abbrev pub ClosingsMirror : Type 0
ClosingsMirror = (play : Play) (s : Scene) (c : Cast) → SceneMirrors play s c → ActsMirror play (names.closes play s) (numbers.closes play c)

-- Each opening turn of an honest vat, which is as it was at the start, and each doing leads where it does in names, from all that stands for the scene that it finds.
pub record EachDoingMirrors (play : Play) : Type 0 where
  pub openings : (ps rest : List Program) (p : Program) (s : Scene) (c : Cast) → play.script.vats ≡ ps ++ p ∷ rest → names.opens_from play zero ps (names.starts play) ≡ Plays s → is_hostile play (length ps) ≡ false
      → slice_get s.world.vats (length ps) ≡ Some (fresh play.script (length ps) p) → SceneMirrors play s c → ActsMirror play (names.opens play false (length ps) p s) (numbers.opens play false (length ps) p c)
  pub doings : (opened s : Scene) (c : Cast) (ds rest : List Doing) (d : Doing) → play.doings ≡ ds ++ d ∷ rest → names.opens_from play zero play.script.vats (names.starts play) ≡ Plays opened → names.does_all play ds 1 opened ≡ Plays s
      → SceneMirrors play s c → ActsMirror play (names.does play d (1 + length ds) s) (numbers.does play d (1 + length ds) c)

-- Then both go to the end and stand for one another there, or both stop in the same step for the same reason.
abbrev pub PlaysMirror : Type 0
PlaysMirror = (play : Play) → EachDoingMirrors play → ActsMirror play (names.acts play) (numbers.performs play)

-- And what stands for one another has one text, with the frames and without.
abbrev pub TextsMirror : Type 0
TextsMirror = (play : Play) (a : Acted) (p : Performed) → ActsMirror play a p → (ours.text play p ≡ theirs.text play a) × (ours.wire_text play p ≡ theirs.wire_text play a)
