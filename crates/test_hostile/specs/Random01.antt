-- A run with hostile vats, and its text.
use Rattle.std.specs.Prelude.{◌≡◌, ℕ, List, [], ◌∷◌, codes}
use Rattle.def_run.specs.World.{Turn, Script}
use Rattle.def_hostile.specs.Hostile.{Play, Does, Injects, acts}
use Rattle.def_hostile.specs.HostileText.{text}
use Rattle.test_hostile.specs.Lines.{lines}
use Rattle.def_kernel.specs.declared.node.Node.{Node}

unfoldable pub play : Play
play = record {
  script = record {
    key = (0 ∷ 0 ∷ 0 ∷ 0 ∷ 0 ∷ 0 ∷ 0 ∷ 0 ∷ 0 ∷ 0 ∷ 0 ∷ 0 ∷ 0 ∷ 0 ∷ 0 ∷ 0 ∷ 0 ∷ 0 ∷ 0 ∷ 0 ∷ 0 ∷ 0 ∷ 0 ∷ 0 ∷ 0 ∷ 0 ∷ 0 ∷ 0 ∷ 0 ∷ 0 ∷ 0 ∷ 0 ∷ []);
    fuel = 1000000;
    depth = 400;
    vats =
        record { name = codes "a"; knows = (1 ∷ []); tree = [] } ∷
        record { name = codes "b"; knows = []; tree = [] } ∷
        [];
    schedule = [];
  };
  hostile = (0 ∷ 1 ∷ []);
  doings = Does (Turn 0) ∷ [];
}

-- what is due of it
abbrev pub due : List ℕ
due = lines (
    codes "1 idle"
    ∷ codes "end"
    ∷ [])

abbrev pub Holds : Type 0
Holds = text play (acts play) ≡ due

unfoldable pub opened : Unit {0}
unfolding play
opened = tt
