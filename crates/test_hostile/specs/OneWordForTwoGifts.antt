-- A run with hostile vats, and its text with its frames.
use Rattle.std.specs.Prelude.{◌≡◌, ℕ, List, [], ◌∷◌, codes, None}
use Rattle.def_run.specs.World.{Carry, Script}
use Rattle.def_hostile.specs.Hostile.{Play, Does, Injects, acts}
use Rattle.def_hostile.specs.HostileText.{wire_text}
use Rattle.test_hostile.specs.Lines.{lines}
use Rattle.def_kernel.specs.declared.node.Literal.TheVariants as literal
use Rattle.def_kernel.specs.declared.node.Node.{Node}
use Rattle.def_kernel.specs.declared.node.Node.TheVariants.{Call, Final, Lit, Method, Noun, Object}

unfoldable pub tree_0 : List Node
tree_0 =
    Call 1 (codes "send") (2 ∷ 3 ∷ 4 ∷ [])
    ∷ Noun (codes "E")
    ∷ Noun (codes "d")
    ∷ Lit (literal.Text (codes "put"))
    ∷ Call 5 (codes "run") (6 ∷ [])
    ∷ Noun (codes "__makeList")
    ∷ Noun (codes "b")
    ∷ []

unfoldable pub tree_1 : List Node
tree_1 =
    Object 1 [] []
    ∷ Final (codes "o") None
    ∷ []

unfoldable pub tree_2 : List Node
tree_2 =
    Object 1 [] []
    ∷ Final (codes "o") None
    ∷ []

unfoldable pub tree_3 : List Node
tree_3 =
    Object 1 [] (2 ∷ [])
    ∷ Final (codes "t") None
    ∷ Method (codes "put") (3 ∷ []) 4
    ∷ Final (codes "x") None
    ∷ Noun (codes "x")
    ∷ []

unfoldable pub play : Play
play = record {
  script = record {
    key = (0 ∷ 0 ∷ 0 ∷ 0 ∷ 0 ∷ 0 ∷ 0 ∷ 0 ∷ 0 ∷ 0 ∷ 0 ∷ 0 ∷ 0 ∷ 0 ∷ 0 ∷ 0 ∷ 0 ∷ 0 ∷ 0 ∷ 0 ∷ 0 ∷ 0 ∷ 0 ∷ 0 ∷ 0 ∷ 0 ∷ 0 ∷ 0 ∷ 0 ∷ 0 ∷ 0 ∷ 0 ∷ []);
    fuel = 1000000;
    depth = 400;
    vats =
        record { name = codes "a"; knows = (1 ∷ 3 ∷ []); tree = tree_0 } ∷
        record { name = codes "b"; knows = []; tree = tree_1 } ∷
        record { name = codes "c"; knows = []; tree = tree_2 } ∷
        record { name = codes "d"; knows = []; tree = tree_3 } ∷
        record { name = codes "h"; knows = (2 ∷ []); tree = [] } ∷
        [];
    schedule = [];
  };
  hostile = (4 ∷ []);
  doings = Injects 4 2 (4 ∷ 0 ∷ 0 ∷ 118 ∷ 184 ∷ 224 ∷ 173 ∷ 160 ∷ 241 ∷ 61 ∷ 144 ∷ 64 ∷ 93 ∷ 106 ∷ 229 ∷ 83 ∷ 134 ∷ 189 ∷ 40 ∷ []) ∷ Does (Carry 4 2) ∷ Does (Carry 0 1) ∷ Does (Carry 0 3) ∷ [];
}

-- what is due of it
abbrev pub due : List ℕ
due = lines (
    codes "open a"
    ∷ codes "!0 list a%0 @b"
    ∷ codes "!0 send a/0 @d put @b -> d?a/0"
    ∷ codes "!0 done d?a/0"
    ∷ codes "wait @a d?a/0"
    ∷ codes "open b"
    ∷ codes "!0 made b.0 o"
    ∷ codes "!0 done b.0"
    ∷ codes "settle @b b.0"
    ∷ codes "open c"
    ∷ codes "!0 made c.0 o"
    ∷ codes "!0 done c.0"
    ∷ codes "settle @c c.0"
    ∷ codes "open d"
    ∷ codes "!0 made d.0 t"
    ∷ codes "!0 done d.0"
    ∷ codes "settle @d d.0"
    ∷ codes "1 inject h c 04000076b8e0ada0f13d90405d6ae55386bd28"
    ∷ codes "2 carry h c ask c^a:76b8e0ada0f13d90405d6ae55386bd28 a"
    ∷ codes "frame 04000076b8e0ada0f13d90405d6ae55386bd28"
    ∷ codes "3 carry a b open b^0 @b"
    ∷ codes "frame 03090076b8e0ada0f13d90405d6ae55386bd28"
    ∷ codes "settle b^0 b.0"
    ∷ codes "4 carry a d deliver a/0 @d put b^0"
    ∷ codes "frame 0100090003707574010d0176b8e0ada0f13d90405d6ae55386bd28"
    ∷ codes "left queue d a/0"
    ∷ codes "left link b a settled @b b.0"
    ∷ codes "left link c h settled @c c.0"
    ∷ codes "left link d a settled @d d.0"
    ∷ codes "left link d b ask b^0 a"
    ∷ codes "end"
    ∷ [])

abbrev pub Holds : Type 0
Holds = wire_text play (acts play) ≡ due

unfoldable pub opened : Unit {0}
unfolding tree_0 tree_1 tree_2 tree_3 play
opened = tt
