-- A run with hostile vats, and its text with its frames.
use Rattle.std.specs.Prelude.{◌≡◌, ℕ, List, [], ◌∷◌, codes, None}
use Rattle.def_run.specs.World.{Carry, Turn, Script}
use Rattle.def_hostile.specs.Hostile.{Play, Does, Injects, acts}
use Rattle.def_hostile.specs.HostileText.{wire_text}
use Rattle.test_hostile.specs.Lines.{lines}
use Rattle.def_kernel.specs.declared.node.Literal.TheVariants as literal
use Rattle.def_kernel.specs.declared.node.Node.{Node}
use Rattle.def_kernel.specs.declared.node.Node.TheVariants.{Call, Def, Final, Lit, Noun, Object}

unfoldable pub tree_0 : List Node
tree_0 =
    Noun (codes "c")
    ∷ []

unfoldable pub tree_1 : List Node
tree_1 =
    Def 1 None 2
    ∷ Final (codes "x") None
    ∷ Call 3 (codes "send") (4 ∷ 5 ∷ 6 ∷ [])
    ∷ Noun (codes "E")
    ∷ Noun (codes "a")
    ∷ Lit (literal.Text (codes "get"))
    ∷ Call 7 (codes "run") []
    ∷ Noun (codes "__makeList")
    ∷ []

unfoldable pub tree_2 : List Node
tree_2 =
    Object 1 [] []
    ∷ Final (codes "o") None
    ∷ []

unfoldable pub play : Play
play = record {
  script = record {
    key = (0 ∷ 0 ∷ 0 ∷ 0 ∷ 0 ∷ 0 ∷ 0 ∷ 0 ∷ 0 ∷ 0 ∷ 0 ∷ 0 ∷ 0 ∷ 0 ∷ 0 ∷ 0 ∷ 0 ∷ 0 ∷ 0 ∷ 0 ∷ 0 ∷ 0 ∷ 0 ∷ 0 ∷ 0 ∷ 0 ∷ 0 ∷ 0 ∷ 0 ∷ 0 ∷ 0 ∷ 0 ∷ []);
    fuel = 1000000;
    depth = 400;
    vats =
        record { name = codes "a"; knows = (2 ∷ 3 ∷ []); tree = tree_0 } ∷
        record { name = codes "b"; knows = (0 ∷ []); tree = tree_1 } ∷
        record { name = codes "c"; knows = (3 ∷ []); tree = tree_2 } ∷
        record { name = codes "h"; knows = (0 ∷ 2 ∷ []); tree = [] } ∷
        [];
    schedule = [];
  };
  hostile = (3 ∷ []);
  doings = Injects 3 0 (1 ∷ 0 ∷ 9 ∷ 0 ∷ 3 ∷ 112 ∷ 117 ∷ 116 ∷ 1 ∷ 13 ∷ 2 ∷ 3 ∷ 0 ∷ 0 ∷ 0 ∷ 0 ∷ 0 ∷ 0 ∷ 0 ∷ 0 ∷ 0 ∷ 0 ∷ 0 ∷ 0 ∷ 0 ∷ 0 ∷ 0 ∷ []) ∷ Does (Carry 3 0) ∷ Injects 3 2 (4 ∷ 0 ∷ 0 ∷ 118 ∷ 184 ∷ 224 ∷ 173 ∷ 160 ∷ 241 ∷ 61 ∷ 144 ∷ 64 ∷ 93 ∷ 106 ∷ 229 ∷ 83 ∷ 134 ∷ 189 ∷ 40 ∷ []) ∷ Does (Carry 3 2) ∷ Does (Carry 0 1) ∷ Does (Turn 0) ∷ Does (Turn 1) ∷ Does (Turn 2) ∷ Does (Turn 3) ∷ Does (Carry 0 1) ∷ Does (Carry 0 2) ∷ Does (Carry 0 3) ∷ Does (Carry 1 0) ∷ Does (Carry 1 2) ∷ Does (Carry 1 3) ∷ Does (Carry 2 0) ∷ Does (Carry 2 1) ∷ Does (Carry 2 3) ∷ Does (Carry 3 0) ∷ Does (Carry 3 1) ∷ Does (Carry 3 2) ∷ Does (Turn 0) ∷ Does (Turn 1) ∷ Does (Turn 2) ∷ Does (Turn 3) ∷ Does (Carry 0 1) ∷ Does (Carry 0 2) ∷ Does (Carry 0 3) ∷ Does (Carry 1 0) ∷ Does (Carry 1 2) ∷ Does (Carry 1 3) ∷ Does (Carry 2 0) ∷ Does (Carry 2 1) ∷ Does (Carry 2 3) ∷ Does (Carry 3 0) ∷ Does (Carry 3 1) ∷ Does (Carry 3 2) ∷ Does (Turn 0) ∷ Does (Turn 1) ∷ Does (Turn 2) ∷ Does (Turn 3) ∷ Does (Carry 0 1) ∷ Does (Carry 0 2) ∷ Does (Carry 0 3) ∷ Does (Carry 1 0) ∷ Does (Carry 1 2) ∷ Does (Carry 1 3) ∷ Does (Carry 2 0) ∷ Does (Carry 2 1) ∷ Does (Carry 2 3) ∷ Does (Carry 3 0) ∷ Does (Carry 3 1) ∷ Does (Carry 3 2) ∷ [];
}

-- what is due of it
abbrev pub due : List ℕ
due = lines (
    codes "open a"
    ∷ codes "!0 done @c"
    ∷ codes "wait @a @c"
    ∷ codes "open b"
    ∷ codes "!0 list b%0"
    ∷ codes "!0 send b/0 @a get -> a?b/0"
    ∷ codes "!0 done a?b/0"
    ∷ codes "wait @b a?b/0"
    ∷ codes "open c"
    ∷ codes "!0 made c.0 o"
    ∷ codes "!0 done c.0"
    ∷ codes "settle @c c.0"
    ∷ codes "1 inject h a 0100090003707574010d0203000000000000000000000000000000"
    ∷ codes "2 carry h a deliver h/0 @a put c^h:03000000000000000000000000000000"
    ∷ codes "frame 0100090003707574010d0203000000000000000000000000000000"
    ∷ codes "3 inject h c 04000076b8e0ada0f13d90405d6ae55386bd28"
    ∷ codes "4 carry h c ask c^a:76b8e0ada0f13d90405d6ae55386bd28 a"
    ∷ codes "frame 04000076b8e0ada0f13d90405d6ae55386bd28"
    ∷ codes "5 idle"
    ∷ codes "6 idle"
    ∷ codes "7 idle"
    ∷ codes "8 idle"
    ∷ codes "9 idle"
    ∷ codes "10 idle"
    ∷ codes "11 carry a c ask c^h:03000000000000000000000000000000 h"
    ∷ codes "frame 04000303000000000000000000000000000000"
    ∷ codes "12 idle"
    ∷ codes "13 carry b a deliver b/0 @a get"
    ∷ codes "frame 010009000367657400"
    ∷ codes "14 idle"
    ∷ codes "15 idle"
    ∷ codes "16 carry c a settled @c c.0"
    ∷ codes "frame 020c000b01"
    ∷ codes "settle @c c.0"
    ∷ codes "settle @a c.0"
    ∷ codes "wait a?h/0 c?h/0"
    ∷ codes "wait a?b/0 c?b/0"
    ∷ codes "17 idle"
    ∷ codes "18 carry c h settled @c c.0"
    ∷ codes "frame 020c000b01"
    ∷ codes "19 idle"
    ∷ codes "20 idle"
    ∷ codes "21 idle"
    ∷ codes "22 idle"
    ∷ codes "23 idle"
    ∷ codes "24 idle"
    ∷ codes "25 idle"
    ∷ codes "26 carry a b elsewhere @a c"
    ∷ codes "frame 020c000f02"
    ∷ codes "view @a c^a:76b8e0ada0f13d90405d6ae55386bd28"
    ∷ codes "27 carry a c deliver h/0 c.0 put c^h:03000000000000000000000000000000"
    ∷ codes "frame 0101090103707574010a00"
    ∷ codes "28 carry a h elsewhere @a c"
    ∷ codes "frame 020c000f02"
    ∷ codes "29 carry b a shorten @a c^a:76b8e0ada0f13d90405d6ae55386bd28"
    ∷ codes "frame 05090076b8e0ada0f13d90405d6ae55386bd28"
    ∷ codes "30 carry b c ask c^a:76b8e0ada0f13d90405d6ae55386bd28 a"
    ∷ codes "frame 04000076b8e0ada0f13d90405d6ae55386bd28"
    ∷ codes "31 idle"
    ∷ codes "32 idle"
    ∷ codes "33 idle"
    ∷ codes "34 idle"
    ∷ codes "35 idle"
    ∷ codes "36 idle"
    ∷ codes "37 idle"
    ∷ codes "38 idle"
    ∷ codes "39 idle"
    ∷ codes "40 turn c"
    ∷ codes "!1 take h/0 c.0 put c^h:03000000000000000000000000000000"
    ∷ codes "!1 threw \"no method\""
    ∷ codes "settle c?h/0 broken:\"no method\""
    ∷ codes "41 idle"
    ∷ codes "42 idle"
    ∷ codes "43 carry a c deliver b/0 c.0 get"
    ∷ codes "frame 010209010367657400"
    ∷ codes "44 idle"
    ∷ codes "45 idle"
    ∷ codes "46 idle"
    ∷ codes "47 idle"
    ∷ codes "48 carry c a settled c?h/0 broken:\"no method\""
    ∷ codes "frame 020e0108096e6f206d6574686f64"
    ∷ codes "settle c?h/0 broken:\"no method\""
    ∷ codes "settle a?h/0 broken:\"no method\""
    ∷ codes "49 idle"
    ∷ codes "50 idle"
    ∷ codes "51 idle"
    ∷ codes "52 idle"
    ∷ codes "53 idle"
    ∷ codes "left queue c b/0"
    ∷ codes "left link a c open c^a:76b8e0ada0f13d90405d6ae55386bd28 c.0"
    ∷ codes "left link a h settled a?h/0 broken:\"no method\""
    ∷ codes "end"
    ∷ [])

abbrev pub Holds : Type 0
Holds = wire_text play (acts play) ≡ due

unfoldable pub opened : Unit {0}
unfolding tree_0 tree_1 tree_2 play
opened = tt
