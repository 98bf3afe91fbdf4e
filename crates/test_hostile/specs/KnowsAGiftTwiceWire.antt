-- A run with hostile vats, and its text with its frames.
use Rattle.std.specs.Prelude.{◌≡◌, ℕ, List, [], ◌∷◌, codes, None, pos}
use Rattle.def_run.specs.World.{Carry, Turn, Script}
use Rattle.def_hostile.specs.Hostile.{Play, Does, Injects, acts}
use Rattle.def_hostile.specs.HostileText.{wire_text}
use Rattle.test_hostile.specs.Lines.{lines}
use Rattle.def_kernel.specs.declared.node.Literal.TheVariants as literal
use Rattle.def_kernel.specs.declared.node.Node.{Node}
use Rattle.def_kernel.specs.declared.node.Node.TheVariants.{Call, Final, Lit, Method, Noun, Object}

unfoldable pub tree_0 : List Node
tree_0 =
    Object 1 [] (2 ∷ [])
    ∷ Final (codes "t") None
    ∷ Method (codes "put") (3 ∷ []) 4
    ∷ Final (codes "x") None
    ∷ Call 5 (codes "send") (6 ∷ 7 ∷ 8 ∷ [])
    ∷ Noun (codes "E")
    ∷ Noun (codes "x")
    ∷ Lit (literal.Text (codes "hi"))
    ∷ Call 9 (codes "run") []
    ∷ Noun (codes "__makeList")
    ∷ []

unfoldable pub tree_1 : List Node
tree_1 =
    Object 1 [] (2 ∷ 11 ∷ [])
    ∷ Final (codes "o") None
    ∷ Method (codes "fwd") (3 ∷ []) 4
    ∷ Final (codes "x") None
    ∷ Call 5 (codes "send") (6 ∷ 7 ∷ 8 ∷ [])
    ∷ Noun (codes "E")
    ∷ Noun (codes "a")
    ∷ Lit (literal.Text (codes "put"))
    ∷ Call 9 (codes "run") (10 ∷ [])
    ∷ Noun (codes "__makeList")
    ∷ Noun (codes "x")
    ∷ Method (codes "hi") [] 12
    ∷ Lit (literal.Int (pos 1))
    ∷ []

unfoldable pub play : Play
play = record {
  script = record {
    key = (0 ∷ 0 ∷ 0 ∷ 0 ∷ 0 ∷ 0 ∷ 0 ∷ 0 ∷ 0 ∷ 0 ∷ 0 ∷ 0 ∷ 0 ∷ 0 ∷ 0 ∷ 0 ∷ 0 ∷ 0 ∷ 0 ∷ 0 ∷ 0 ∷ 0 ∷ 0 ∷ 0 ∷ 0 ∷ 0 ∷ 0 ∷ 0 ∷ 0 ∷ 0 ∷ 0 ∷ 0 ∷ []);
    fuel = 1000000;
    depth = 400;
    vats =
        record { name = codes "a"; knows = []; tree = tree_0 } ∷
        record { name = codes "c"; knows = (0 ∷ []); tree = tree_1 } ∷
        record { name = codes "h"; knows = (0 ∷ 1 ∷ []); tree = [] } ∷
        record { name = codes "i"; knows = (1 ∷ []); tree = [] } ∷
        [];
    schedule = [];
  };
  hostile = (2 ∷ 3 ∷ []);
  doings = Injects 3 1 (4 ∷ 0 ∷ 2 ∷ 0 ∷ 0 ∷ 0 ∷ 0 ∷ 0 ∷ 0 ∷ 0 ∷ 0 ∷ 0 ∷ 0 ∷ 0 ∷ 0 ∷ 0 ∷ 0 ∷ 0 ∷ 0 ∷ []) ∷ Does (Carry 3 1) ∷ Injects 3 1 (1 ∷ 1 ∷ 9 ∷ 0 ∷ 3 ∷ 102 ∷ 119 ∷ 100 ∷ 1 ∷ 10 ∷ 0 ∷ []) ∷ Does (Carry 3 1) ∷ Does (Turn 1) ∷ Does (Carry 1 0) ∷ Does (Carry 1 0) ∷ Does (Turn 0) ∷ Injects 2 0 (1 ∷ 0 ∷ 9 ∷ 0 ∷ 3 ∷ 112 ∷ 117 ∷ 116 ∷ 1 ∷ 13 ∷ 1 ∷ 0 ∷ 0 ∷ 0 ∷ 0 ∷ 0 ∷ 0 ∷ 0 ∷ 0 ∷ 0 ∷ 0 ∷ 0 ∷ 0 ∷ 0 ∷ 0 ∷ 0 ∷ 0 ∷ []) ∷ Does (Carry 2 0) ∷ Does (Turn 0) ∷ Injects 2 1 (3 ∷ 9 ∷ 0 ∷ 0 ∷ 0 ∷ 0 ∷ 0 ∷ 0 ∷ 0 ∷ 0 ∷ 0 ∷ 0 ∷ 0 ∷ 0 ∷ 0 ∷ 0 ∷ 0 ∷ 0 ∷ 0 ∷ []) ∷ Does (Carry 2 1) ∷ Does (Carry 0 1) ∷ Does (Carry 0 1) ∷ Does (Carry 0 1) ∷ Does (Carry 0 1) ∷ Does (Turn 0) ∷ Does (Turn 1) ∷ Does (Turn 2) ∷ Does (Turn 3) ∷ Does (Carry 0 1) ∷ Does (Carry 0 2) ∷ Does (Carry 0 3) ∷ Does (Carry 1 0) ∷ Does (Carry 1 2) ∷ Does (Carry 1 3) ∷ Does (Carry 2 0) ∷ Does (Carry 2 1) ∷ Does (Carry 2 3) ∷ Does (Carry 3 0) ∷ Does (Carry 3 1) ∷ Does (Carry 3 2) ∷ Does (Turn 0) ∷ Does (Turn 1) ∷ Does (Turn 2) ∷ Does (Turn 3) ∷ Does (Carry 0 1) ∷ Does (Carry 0 2) ∷ Does (Carry 0 3) ∷ Does (Carry 1 0) ∷ Does (Carry 1 2) ∷ Does (Carry 1 3) ∷ Does (Carry 2 0) ∷ Does (Carry 2 1) ∷ Does (Carry 2 3) ∷ Does (Carry 3 0) ∷ Does (Carry 3 1) ∷ Does (Carry 3 2) ∷ [];
}

-- what is due of it
abbrev pub due : List ℕ
due = lines (
    codes "open a"
    ∷ codes "!0 made a.0 t"
    ∷ codes "!0 done a.0"
    ∷ codes "settle @a a.0"
    ∷ codes "open c"
    ∷ codes "!0 made c.0 o caps @a"
    ∷ codes "!0 done c.0"
    ∷ codes "settle @c c.0"
    ∷ codes "1 inject i c 04000200000000000000000000000000000000"
    ∷ codes "2 carry i c ask c^h:00000000000000000000000000000000 h"
    ∷ codes "frame 04000200000000000000000000000000000000"
    ∷ codes "3 inject i c 0101090003667764010a00"
    ∷ codes "4 carry i c deliver i/0 @c fwd c^h:00000000000000000000000000000000"
    ∷ codes "frame 0101090003667764010a00"
    ∷ codes "5 turn c"
    ∷ codes "!1 take i/0 c.0 fwd c^h:00000000000000000000000000000000"
    ∷ codes "!1 list c%0 c^h:00000000000000000000000000000000"
    ∷ codes "!1 send c/0 @a put c^h:00000000000000000000000000000000 -> a?c/0"
    ∷ codes "!1 done a?c/0"
    ∷ codes "wait c?i/0 a?c/0"
    ∷ codes "6 carry c a deliver c/0 @a put c^h:00000000000000000000000000000000"
    ∷ codes "frame 0100090003707574010c00"
    ∷ codes "7 idle"
    ∷ codes "8 turn a"
    ∷ codes "!1 take c/0 a.0 put c^h:00000000000000000000000000000000"
    ∷ codes "!1 list a%0"
    ∷ codes "!1 send a/0 c^h:00000000000000000000000000000000 hi -> c?a/0"
    ∷ codes "!1 done c?a/0"
    ∷ codes "wait a?c/0 c?a/0"
    ∷ codes "9 inject h a 0100090003707574010d0100000000000000000000000000000000"
    ∷ codes "10 carry h a deliver h/0 @a put c^h:00000000000000000000000000000000"
    ∷ codes "frame 0100090003707574010d0100000000000000000000000000000000"
    ∷ codes "11 turn a"
    ∷ codes "!2 take h/0 a.0 put c^h:00000000000000000000000000000000"
    ∷ codes "!2 list a%1"
    ∷ codes "!2 send a/1 c^h:00000000000000000000000000000000 hi -> c?a/1"
    ∷ codes "!2 done c?a/1"
    ∷ codes "wait a?h/0 c?a/1"
    ∷ codes "12 inject h c 03090000000000000000000000000000000000"
    ∷ codes "13 carry h c open c^h:00000000000000000000000000000000 @c"
    ∷ codes "frame 03090000000000000000000000000000000000"
    ∷ codes "settle c^h:00000000000000000000000000000000 c.0"
    ∷ codes "14 carry a c settled @a a.0"
    ∷ codes "frame 020c000b01"
    ∷ codes "settle @a a.0"
    ∷ codes "15 carry a c deliver a/0 c^h:00000000000000000000000000000000 hi"
    ∷ codes "frame 0100090002686900"
    ∷ codes "16 carry a c ask c^h:00000000000000000000000000000000 h"
    ∷ codes "frame 04010200000000000000000000000000000000"
    ∷ codes "17 carry a c deliver a/1 c^h:00000000000000000000000000000000 hi"
    ∷ codes "frame 01020a0102686900"
    ∷ codes "18 idle"
    ∷ codes "19 turn c"
    ∷ codes "!2 take a/0 c.0 hi"
    ∷ codes "!2 done 1"
    ∷ codes "settle c?a/0 1"
    ∷ codes "20 idle"
    ∷ codes "21 idle"
    ∷ codes "22 idle"
    ∷ codes "23 carry a h settled @a a.0"
    ∷ codes "frame 020c000b01"
    ∷ codes "24 idle"
    ∷ codes "25 carry c a settled c^h:00000000000000000000000000000000 c.0"
    ∷ codes "frame 020c000b01"
    ∷ codes "settle c^h:00000000000000000000000000000000 c.0"
    ∷ codes "26 carry c h settled @c c.0"
    ∷ codes "frame 020c000b01"
    ∷ codes "27 carry c i settled @c c.0"
    ∷ codes "frame 020c000b01"
    ∷ codes "28 idle"
    ∷ codes "29 idle"
    ∷ codes "30 idle"
    ∷ codes "31 idle"
    ∷ codes "32 idle"
    ∷ codes "33 idle"
    ∷ codes "34 idle"
    ∷ codes "35 turn c"
    ∷ codes "!3 take a/1 c.0 hi"
    ∷ codes "!3 done 1"
    ∷ codes "settle c?a/1 1"
    ∷ codes "36 idle"
    ∷ codes "37 idle"
    ∷ codes "38 idle"
    ∷ codes "39 idle"
    ∷ codes "40 idle"
    ∷ codes "41 carry c a settled c?a/0 1"
    ∷ codes "frame 020e000301"
    ∷ codes "settle c?a/0 1"
    ∷ codes "settle a?c/0 1"
    ∷ codes "42 idle"
    ∷ codes "43 carry c i settled c^h:00000000000000000000000000000000 c.0"
    ∷ codes "frame 020e000b01"
    ∷ codes "44 idle"
    ∷ codes "45 idle"
    ∷ codes "46 idle"
    ∷ codes "47 idle"
    ∷ codes "48 idle"
    ∷ codes "49 idle"
    ∷ codes "left link a c settled a?c/0 1"
    ∷ codes "left link c a settled c?a/1 1"
    ∷ codes "end"
    ∷ [])

abbrev pub Holds : Type 0
Holds = wire_text play (acts play) ≡ due

unfoldable pub opened : Unit {0}
unfolding tree_0 tree_1 play
opened = tt
