-- A run with hostile vats, and its text with its frames.
use Rattle.std.specs.Prelude.{◌≡◌, ℕ, List, [], ◌∷◌, codes, None}
use Rattle.def_run.specs.World.{Carry, Script}
use Rattle.def_hostile.specs.Hostile.{Play, Does, Injects, acts}
use Rattle.def_hostile.specs.HostileText.{wire_text}
use Rattle.test_hostile.specs.Lines.{lines}
use Rattle.def_kernel.specs.declared.node.Node.{Node}
use Rattle.def_kernel.specs.declared.node.Node.TheVariants.{Final, Method, Noun, Object}

unfoldable pub tree_0 : List Node
tree_0 =
    Object 1 [] (2 ∷ [])
    ∷ Final (codes "t") None
    ∷ Method (codes "put") (3 ∷ []) 4
    ∷ Final (codes "x") None
    ∷ Noun (codes "x")
    ∷ []

unfoldable pub play : Play
play = record {
  script = record {
    key = (0 ∷ 0 ∷ 0 ∷ 0 ∷ 0 ∷ 0 ∷ 0 ∷ 0 ∷ 0 ∷ 0 ∷ 0 ∷ 0 ∷ 0 ∷ 0 ∷ 0 ∷ 0 ∷ 0 ∷ 0 ∷ 0 ∷ 0 ∷ 0 ∷ 0 ∷ 0 ∷ 0 ∷ 0 ∷ 0 ∷ 0 ∷ 0 ∷ 0 ∷ 0 ∷ 0 ∷ 0 ∷ []);
    fuel = 1000000;
    depth = 400;
    vats =
        record { name = codes "a"; knows = []; tree = tree_0 } ∷
        record { name = codes "h"; knows = (0 ∷ []); tree = [] } ∷
        [];
    schedule = [];
  };
  hostile = (1 ∷ []);
  doings = Does (Carry 0 1) ∷ Injects 1 0 (1 ∷ 0 ∷ 9 ∷ 0 ∷ 3 ∷ 112 ∷ 117 ∷ 116 ∷ 1 ∷ 3 ∷ 5 ∷ []) ∷ Does (Carry 1 0) ∷ [];
}

-- what is due of it
abbrev pub due : List ℕ
due = lines (
    codes "open a"
    ∷ codes "!0 made a.0 t"
    ∷ codes "!0 done a.0"
    ∷ codes "settle @a a.0"
    ∷ codes "1 carry a h settled @a a.0"
    ∷ codes "frame 020c000b01"
    ∷ codes "2 inject h a 0100090003707574010305"
    ∷ codes "3 carry h a deliver h/0 @a put 5"
    ∷ codes "frame 0100090003707574010305"
    ∷ codes "left queue a h/0"
    ∷ codes "end"
    ∷ [])

abbrev pub Holds : Type 0
Holds = wire_text play (acts play) ≡ due

unfoldable pub opened : Unit {0}
unfolding tree_0 play
opened = tt
