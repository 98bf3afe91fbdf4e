-- What an honest vat put is carried to a hostile vat, which does nothing with it.
use Rattle.std.specs.Prelude.{◌≡◌, ℕ, true, false, List, ◌∷◌, Some, length}
use Rattle.def_machine.specs.State.{Note}
use Rattle.def_machine.specs.Values.{Name}
use Rattle.def_run.specs.Numbers.{way_at}
use Rattle.def_run.specs.Wire.{hear_at}
use Rattle.def_run.specs.World.{Link, World, link_at}
use Rattle.def_hostile.specs.Hostile as names
use Rattle.def_hostile.specs.Hostile.{Play, Scene, is_hostile}
use Rattle.def_hostile.specs.Numbers as numbers
use Rattle.def_hostile.specs.Numbers.{Cast}
use Rattle.law_frame.specs.Local.Mirrors.{HoldReferences}
use Rattle.law_hostile_frame.specs.Mirrors.{SceneMirrors, ActsMirror}

-- No message has a number at vat u once it heard the next note from vat v.
abbrev pub HearingRefers : ℕ → ℕ → World → Type 0
HearingRefers v u x = (l : Link) (n : Note Name) (ns : List (Note Name)) → link_at v u x.links ≡ Some l → l.cut ≡ false → l.notes ≡ n ∷ ns → HoldReferences u (length x.vats) (hear_at v u n x.connections)

-- Then both take it off the link and tell its line, and nothing else; where there is none, both are idle.
abbrev pub CarriesToHostileVatsMirror : Type 0
CarriesToHostileVatsMirror = (play : Play) (v u k : ℕ) (s : Scene) (c : Cast) → (v ≡ u → ⊥) → is_hostile play u ≡ true → HearingRefers v u s.world → SceneMirrors play s c
    → ActsMirror play (names.carry_link play k v u s (link_at v u s.world.links)) (numbers.carry_way play k v u c (way_at v u c.vats.ways))
