-- A run with hostile vats, and its text with its frames.
use Rattle.std.specs.Prelude.{◌≡◌, ℕ, List, [], ◌∷◌, codes, None, pos}
use Rattle.def_run.specs.World.{Carry, Turn, Script}
use Rattle.def_hostile.specs.Hostile.{Play, Does, Injects, acts}
use Rattle.def_hostile.specs.HostileText.{wire_text}
use Rattle.test_hostile.specs.Lines.{lines}
use Rattle.def_kernel.specs.declared.node.Literal.TheVariants as literal
use Rattle.def_kernel.specs.declared.node.Node.{Node}
use Rattle.def_kernel.specs.declared.node.Node.TheVariants.{Call, Final, Lit, Method, Noun, Object, Sequence}

-- def o { method get() { c } }; o
unfoldable pub tree_0 : List Node
tree_0 =
    Sequence (1 ∷ 5 ∷ []) ∷
    Object 2 [] (3 ∷ []) ∷
    Final (codes "o") None ∷
    Method (codes "get") [] 4 ∷
    Noun (codes "c") ∷
    Noun (codes "o") ∷
    []

unfoldable pub tree_1 : List Node
tree_1 =
    Sequence (1 ∷ 12 ∷ []) ∷
    Object 2 [] (3 ∷ []) ∷
    Final (codes "o") None ∷
    Method (codes "put") (4 ∷ []) 5 ∷
    Final (codes "x") None ∷
    Call 6 (codes "send") (7 ∷ 8 ∷ 9 ∷ []) ∷
    Noun (codes "E") ∷
    Noun (codes "c") ∷
    Lit (literal.Text (codes "put")) ∷
    Call 10 (codes "run") (11 ∷ []) ∷
    Noun (codes "__makeList") ∷
    Noun (codes "x") ∷
    Noun (codes "o") ∷
    []

-- def o { method put(x) { (a <- get()) <- put(x) } }; o
unfoldable pub tree_2 : List Node
tree_2 =
    Sequence (1 ∷ 17 ∷ []) ∷
    Object 2 [] (3 ∷ []) ∷
    Final (codes "o") None ∷
    Method (codes "put") (4 ∷ []) 5 ∷
    Final (codes "x") None ∷
    Call 6 (codes "send") (7 ∷ 13 ∷ 14 ∷ []) ∷
    Noun (codes "E") ∷
    Call 8 (codes "send") (9 ∷ 10 ∷ 11 ∷ []) ∷
    Noun (codes "E") ∷
    Noun (codes "a") ∷
    Lit (literal.Text (codes "get")) ∷
    Call 12 (codes "run") [] ∷
    Noun (codes "__makeList") ∷
    Lit (literal.Text (codes "put")) ∷
    Call 15 (codes "run") (16 ∷ []) ∷
    Noun (codes "__makeList") ∷
    Noun (codes "x") ∷
    Noun (codes "o") ∷
    []

unfoldable pub play : Play
play = record {
  script = record {
    key = (0 ∷ 0 ∷ 0 ∷ 0 ∷ 0 ∷ 0 ∷ 0 ∷ 0 ∷ 0 ∷ 0 ∷ 0 ∷ 0 ∷ 0 ∷ 0 ∷ 0 ∷ 0 ∷ 0 ∷ 0 ∷ 0 ∷ 0 ∷ 0 ∷ 0 ∷ 0 ∷ 0 ∷ 0 ∷ 0 ∷ 0 ∷ 0 ∷ 0 ∷ 0 ∷ 0 ∷ 0 ∷ []);
    fuel = 1000000;
    depth = 400;
    vats =
        record { name = codes "a"; knows = (2 ∷ []); tree = tree_0 } ∷
        record { name = codes "b"; knows = (2 ∷ []); tree = tree_1 } ∷
        record { name = codes "c"; knows = (0 ∷ []); tree = tree_2 } ∷
        record { name = codes "h"; knows = (0 ∷ 1 ∷ 2 ∷ []); tree = [] } ∷
        [];
    schedule = [];
  };
  hostile = (3 ∷ []);
  doings =
      Injects 3 1 (6 ∷ 9 ∷ 0 ∷ 3 ∷ 112 ∷ 117 ∷ 116 ∷ 1 ∷ 13 ∷ 2 ∷ 17 ∷ 17 ∷ 17 ∷ 17 ∷ 17 ∷ 17 ∷ 17 ∷ 17 ∷ 17 ∷ 17 ∷ 17 ∷ 17 ∷ 17 ∷ 17 ∷ 17 ∷ 17 ∷ []) ∷
      Does (Carry 3 1) ∷
      Does (Turn 1) ∷
      Does (Carry 1 2) ∷
      Does (Carry 1 2) ∷
      Does (Turn 2) ∷
      Does (Carry 2 0) ∷
      Does (Carry 2 0) ∷
      Does (Turn 0) ∷
      Does (Carry 2 0) ∷
      Does (Carry 0 2) ∷
      Does (Carry 0 2) ∷
      Does (Carry 0 2) ∷
      Does (Carry 0 2) ∷
      [];
}

-- what is due of it
abbrev pub due : List ℕ
due = lines (
    codes "open a"
    ∷ codes "!0 made a.0 o caps @c"
    ∷ codes "!0 done a.0"
    ∷ codes "settle @a a.0"
    ∷ codes "open b"
    ∷ codes "!0 made b.0 o caps @c"
    ∷ codes "!0 done b.0"
    ∷ codes "settle @b b.0"
    ∷ codes "open c"
    ∷ codes "!0 made c.0 o caps @a"
    ∷ codes "!0 done c.0"
    ∷ codes "settle @c c.0"
    ∷ codes "1 inject h b 06090003707574010d0211111111111111111111111111111111"
    ∷ codes "2 carry h b deliveronly h/0 @b put c^h:11111111111111111111111111111111"
    ∷ codes "frame 06090003707574010d0211111111111111111111111111111111"
    ∷ codes "3 turn b"
    ∷ codes "!1 take h/0 b.0 put c^h:11111111111111111111111111111111"
    ∷ codes "!1 list b%0 c^h:11111111111111111111111111111111"
    ∷ codes "!1 send b/0 @c put c^h:11111111111111111111111111111111 -> c?b/0"
    ∷ codes "!1 done c?b/0"
    ∷ codes "4 carry b c ask c^h:11111111111111111111111111111111 h"
    ∷ codes "frame 04000311111111111111111111111111111111"
    ∷ codes "5 carry b c deliver b/0 @c put c^h:11111111111111111111111111111111"
    ∷ codes "frame 0101090003707574010a00"
    ∷ codes "6 turn c"
    ∷ codes "!1 take b/0 c.0 put c^h:11111111111111111111111111111111"
    ∷ codes "!1 list c%0"
    ∷ codes "!1 send c/0 @a get -> a?c/0"
    ∷ codes "!1 list c%1 c^h:11111111111111111111111111111111"
    ∷ codes "!1 send c/1 a?c/0 put c^h:11111111111111111111111111111111 -> a?c/1"
    ∷ codes "!1 done a?c/1"
    ∷ codes "wait c?b/0 a?c/1"
    ∷ codes "7 carry c a settled @c c.0"
    ∷ codes "frame 020c000b01"
    ∷ codes "settle @c c.0"
    ∷ codes "8 carry c a deliver c/0 @a get"
    ∷ codes "frame 010009000367657400"
    ∷ codes "9 turn a"
    ∷ codes "!1 take c/0 a.0 get"
    ∷ codes "!1 done @c"
    ∷ codes "settle a?c/0 c.0"
    ∷ codes "10 carry c a deliver c/1 a?c/0 put c^h:11111111111111111111111111111111"
    ∷ codes "frame 01010a0003707574010c02"
    ∷ codes "wait a?c/1 c?c/1"
    ∷ codes "11 carry a c settled @a a.0"
    ∷ codes "frame 020c000b01"
    ∷ codes "settle @a a.0"
    ∷ codes "12 carry a c elsewhere a?c/0 c"
    ∷ codes "frame 020e000f02"
    ∷ codes "view a?c/0 c^0"
    ∷ codes "13 carry a c deliver c/1 c.0 put c^h:11111111111111111111111111111111"
    ∷ codes "frame 0100090103707574010902"
    ∷ codes "14 idle"
    ∷ codes "left queue c c/1"
    ∷ codes "left link a h settled @a a.0"
    ∷ codes "left link b h settled @b b.0"
    ∷ codes "left link c a shorten a?c/0 c^0"
    ∷ codes "left link c b settled @c c.0"
    ∷ codes "left link c h settled @c c.0"
    ∷ codes "end"
    ∷ [])

abbrev pub Holds : Type 0
Holds = wire_text play (acts play) ≡ due

unfoldable pub opened : Unit {0}
unfolding tree_0 tree_1 tree_2 play
opened = tt
