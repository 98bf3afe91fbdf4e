-- A run with hostile vats, and its text.
use Rattle.std.specs.Prelude.{◌≡◌, ℕ, List, [], ◌∷◌, codes, None, pos}
use Rattle.def_run.specs.World.{Carry, Turn, Script}
use Rattle.def_hostile.specs.Hostile.{Play, Does, Injects, acts}
use Rattle.def_hostile.specs.HostileText.{text}
use Rattle.test_hostile.specs.Lines.{lines}
use Rattle.def_kernel.specs.declared.node.Literal.TheVariants as literal
use Rattle.def_kernel.specs.declared.node.Node.{Node}
use Rattle.def_kernel.specs.declared.node.Node.TheVariants.{Final, Lit, Matcher, Method, Noun, Object}

unfoldable pub tree_0 : List Node
tree_0 =
    Object 1 [] (2 ∷ 5 ∷ [])
    ∷ Final (codes "t") None
    ∷ Method (codes "put") (3 ∷ []) 4
    ∷ Final (codes "x") None
    ∷ Noun (codes "x")
    ∷ Matcher 6 7
    ∷ Final (codes "m") None
    ∷ Noun (codes "m")
    ∷ []

unfoldable pub tree_2 : List Node
tree_2 =
    Object 1 [] (2 ∷ [])
    ∷ Final (codes "o") None
    ∷ Method (codes "hi") [] 3
    ∷ Lit (literal.Int (pos 1))
    ∷ []

unfoldable pub play : Play
play = record {
  script = record {
    key = (0 ∷ 0 ∷ 0 ∷ 0 ∷ 0 ∷ 0 ∷ 0 ∷ 0 ∷ 0 ∷ 0 ∷ 0 ∷ 0 ∷ 0 ∷ 0 ∷ 0 ∷ 0 ∷ 0 ∷ 0 ∷ 0 ∷ 0 ∷ 0 ∷ 0 ∷ 0 ∷ 0 ∷ 0 ∷ 0 ∷ 0 ∷ 0 ∷ 0 ∷ 0 ∷ 0 ∷ 0 ∷ []);
    fuel = 1000000;
    depth = 400;
    vats =
        record { name = codes "a"; knows = []; tree = tree_0 } ∷
        record { name = codes "h"; knows = (0 ∷ []); tree = [] } ∷
        record { name = codes "c"; knows = (0 ∷ []); tree = tree_2 } ∷
        [];
    schedule = [];
  };
  hostile = (1 ∷ []);
  doings = Injects 1 0 (1 ∷ 0 ∷ 9 ∷ 0 ∷ 3 ∷ 112 ∷ 117 ∷ 116 ∷ 1 ∷ 13 ∷ 2 ∷ 0 ∷ 0 ∷ 0 ∷ 0 ∷ 0 ∷ 0 ∷ 0 ∷ 0 ∷ 0 ∷ 0 ∷ 0 ∷ 0 ∷ 0 ∷ 0 ∷ 0 ∷ 0 ∷ []) ∷ Does (Carry 1 0) ∷ Does (Turn 0) ∷ Does (Carry 0 2) ∷ Injects 1 0 (1 ∷ 1 ∷ 9 ∷ 0 ∷ 3 ∷ 112 ∷ 117 ∷ 116 ∷ 1 ∷ 13 ∷ 2 ∷ 0 ∷ 0 ∷ 0 ∷ 0 ∷ 0 ∷ 0 ∷ 0 ∷ 0 ∷ 0 ∷ 0 ∷ 0 ∷ 0 ∷ 0 ∷ 0 ∷ 0 ∷ 0 ∷ []) ∷ Does (Carry 1 0) ∷ [];
}

-- what is due of it
abbrev pub due : List ℕ
due = lines (
    codes "open a"
    ∷ codes "!0 made a.0 t"
    ∷ codes "!0 done a.0"
    ∷ codes "settle @a a.0"
    ∷ codes "open c"
    ∷ codes "!0 made c.0 o"
    ∷ codes "!0 done c.0"
    ∷ codes "settle @c c.0"
    ∷ codes "1 inject h a 0100090003707574010d0200000000000000000000000000000000"
    ∷ codes "2 carry h a deliver h/0 @a put c^h:00000000000000000000000000000000"
    ∷ codes "3 turn a"
    ∷ codes "!1 take h/0 a.0 put c^h:00000000000000000000000000000000"
    ∷ codes "!1 done c^h:00000000000000000000000000000000"
    ∷ codes "wait a?h/0 c^h:00000000000000000000000000000000"
    ∷ codes "4 carry a c settled @a a.0"
    ∷ codes "settle @a a.0"
    ∷ codes "5 inject h a 0101090003707574010d0200000000000000000000000000000000"
    ∷ codes "6 carry h a deliver h/1 @a put c^h:00000000000000000000000000000000"
    ∷ codes "left queue a h/1"
    ∷ codes "left link a h settled @a a.0"
    ∷ codes "left link a c ask c^h:00000000000000000000000000000000 h"
    ∷ codes "end"
    ∷ [])

abbrev pub Holds : Type 0
Holds = text play (acts play) ≡ due

unfoldable pub opened : Unit {0}
unfolding tree_0 tree_2 play
opened = tt
