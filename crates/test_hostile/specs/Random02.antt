-- A run with hostile vats, and its text with its frames.
use Rattle.std.specs.Prelude.{◌≡◌, ℕ, List, [], ◌∷◌, codes}
use Rattle.def_run.specs.World.{Carry, Turn, Script}
use Rattle.def_hostile.specs.Hostile.{Play, Does, Injects, acts}
use Rattle.def_hostile.specs.HostileText.{wire_text}
use Rattle.test_hostile.specs.Lines.{lines}
use Rattle.def_kernel.specs.declared.node.Node.{Node}

unfoldable pub play : Play
play = record {
  script = record {
    key = (0 ∷ 0 ∷ 0 ∷ 0 ∷ 0 ∷ 0 ∷ 0 ∷ 0 ∷ 0 ∷ 0 ∷ 0 ∷ 0 ∷ 0 ∷ 0 ∷ 0 ∷ 0 ∷ 0 ∷ 0 ∷ 0 ∷ 0 ∷ 0 ∷ 0 ∷ 0 ∷ 0 ∷ 0 ∷ 0 ∷ 0 ∷ 0 ∷ 0 ∷ 0 ∷ 0 ∷ 0 ∷ []);
    fuel = 1000000;
    depth = 400;
    vats =
        record { name = codes "h"; knows = []; tree = [] } ∷
        record { name = codes "g"; knows = []; tree = [] } ∷
        [];
    schedule = [];
  };
  hostile = (0 ∷ 1 ∷ []);
  doings = Injects 0 1 (0 ∷ []) ∷ Does (Carry 0 1) ∷ Injects 1 0 (1 ∷ 0 ∷ []) ∷ Does (Turn 0) ∷ [];
}

-- what is due of it
abbrev pub due : List ℕ
due = lines (
    codes "1 inject h g 00"
    ∷ codes "2 carry h g bytes 00"
    ∷ codes "3 inject g h 0100"
    ∷ codes "4 idle"
    ∷ codes "left link g h bytes 0100"
    ∷ codes "end"
    ∷ [])

abbrev pub Holds : Type 0
Holds = wire_text play (acts play) ≡ due

unfoldable pub opened : Unit {0}
unfolding play
opened = tt
