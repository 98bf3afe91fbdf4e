-- A run with hostile vats, and its text with its frames.
use Rattle.std.specs.Prelude.{◌≡◌, ℕ, List, [], ◌∷◌, codes, None, pos}
use Rattle.def_run.specs.World.{Carry, Turn, Script}
use Rattle.def_hostile.specs.Hostile.{Play, Does, Injects, acts}
use Rattle.def_hostile.specs.HostileText.{wire_text}
use Rattle.test_hostile.specs.Lines.{lines}
use Rattle.def_kernel.specs.declared.node.Literal.TheVariants as literal
use Rattle.def_kernel.specs.declared.node.Node.{Node}
use Rattle.def_kernel.specs.declared.node.Node.TheVariants.{Final, Lit, Method, Noun, Object}

unfoldable pub tree_0 : List Node
tree_0 =
    Object 1 [] (2 ∷ 5 ∷ [])
    ∷ Final (codes "t") None
    ∷ Method (codes "put") (3 ∷ []) 4
    ∷ Final (codes "x") None
    ∷ Noun (codes "x")
    ∷ Method (codes "get") [] 6
    ∷ Lit (literal.Int (pos 1))
    ∷ []

unfoldable pub tree_2 : List Node
tree_2 =
    Object 1 [] []
    ∷ Final (codes "o") None
    ∷ []

unfoldable pub play : Play
play = record {
  script = record {
    key = (0 ∷ 0 ∷ 0 ∷ 0 ∷ 0 ∷ 0 ∷ 0 ∷ 0 ∷ 0 ∷ 0 ∷ 0 ∷ 0 ∷ 0 ∷ 0 ∷ 0 ∷ 0 ∷ 0 ∷ 0 ∷ 0 ∷ 0 ∷ 0 ∷ 0 ∷ 0 ∷ 0 ∷ 0 ∷ 0 ∷ 0 ∷ 0 ∷ 0 ∷ 0 ∷ 0 ∷ 0 ∷ []);
    fuel = 1000000;
    depth = 400;
    vats =
        record { name = codes "a"; knows = (1 ∷ 2 ∷ []); tree = tree_0 } ∷
        record { name = codes "h"; knows = (0 ∷ []); tree = [] } ∷
        record { name = codes "c"; knows = (1 ∷ []); tree = tree_2 } ∷
        [];
    schedule = [];
  };
  hostile = (1 ∷ []);
  doings = Injects 1 0 (2 ∷ 12 ∷ 0 ∷ 3 ∷ 5 ∷ []) ∷ Does (Carry 1 0) ∷ Injects 1 0 (2 ∷ 12 ∷ 0 ∷ 6 ∷ 2 ∷ 13 ∷ 2 ∷ 7 ∷ 0 ∷ 0 ∷ 0 ∷ 0 ∷ 0 ∷ 0 ∷ 0 ∷ 0 ∷ 0 ∷ 0 ∷ 0 ∷ 0 ∷ 0 ∷ 0 ∷ 0 ∷ 13 ∷ 2 ∷ 7 ∷ 0 ∷ 0 ∷ 0 ∷ 0 ∷ 0 ∷ 0 ∷ 0 ∷ 0 ∷ 0 ∷ 0 ∷ 0 ∷ 0 ∷ 0 ∷ 0 ∷ 0 ∷ []) ∷ Does (Carry 1 0) ∷ [];
}

-- what is due of it
abbrev pub due : List ℕ
due = lines (
    codes "open a"
    ∷ codes "!0 made a.0 t"
    ∷ codes "!0 done a.0"
    ∷ codes "settle @a a.0"
    ∷ codes "open c"
    ∷ codes "!0 made c.0 o"
    ∷ codes "!0 done c.0"
    ∷ codes "settle @c c.0"
    ∷ codes "1 inject h a 020c000305"
    ∷ codes "2 carry h a settled @h 5"
    ∷ codes "frame 020c000305"
    ∷ codes "settle @h 5"
    ∷ codes "3 inject h a 020c0006020d02070000000000000000000000000000000d0207000000000000000000000000000000"
    ∷ codes "4 carry h a settled @h [c^h:07000000000000000000000000000000 c^h:07000000000000000000000000000000]"
    ∷ codes "frame 020c0006020d02070000000000000000000000000000000d0207000000000000000000000000000000"
    ∷ codes "left link a h settled @a a.0"
    ∷ codes "left link c a settled @c c.0"
    ∷ codes "end"
    ∷ [])

abbrev pub Holds : Type 0
Holds = wire_text play (acts play) ≡ due

unfoldable pub opened : Unit {0}
unfolding tree_0 tree_2 play
opened = tt
