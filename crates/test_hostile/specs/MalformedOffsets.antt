-- A run with hostile vats, and its text.
use Rattle.std.specs.Prelude.{◌≡◌, ℕ, List, [], ◌∷◌, codes, None}
use Rattle.def_run.specs.World.{Carry, Script}
use Rattle.def_hostile.specs.Hostile.{Play, Does, Injects, acts}
use Rattle.def_hostile.specs.HostileText.{text}
use Rattle.test_hostile.specs.Lines.{lines}
use Rattle.def_kernel.specs.declared.node.Node.{Node}
use Rattle.def_kernel.specs.declared.node.Node.TheVariants.{Final, Matcher, Method, Noun, Object}

unfoldable pub tree_0 : List Node
tree_0 =
    Object 1 [] (2 ∷ 5 ∷ [])
    ∷ Final (codes "t") None
    ∷ Method (codes "put") (3 ∷ []) 4
    ∷ Final (codes "x") None
    ∷ Noun (codes "x")
    ∷ Matcher 6 7
    ∷ Final (codes "m") None
    ∷ Noun (codes "m")
    ∷ []

unfoldable pub play : Play
play = record {
  script = record {
    key = (0 ∷ 0 ∷ 0 ∷ 0 ∷ 0 ∷ 0 ∷ 0 ∷ 0 ∷ 0 ∷ 0 ∷ 0 ∷ 0 ∷ 0 ∷ 0 ∷ 0 ∷ 0 ∷ 0 ∷ 0 ∷ 0 ∷ 0 ∷ 0 ∷ 0 ∷ 0 ∷ 0 ∷ 0 ∷ 0 ∷ 0 ∷ 0 ∷ 0 ∷ 0 ∷ 0 ∷ 0 ∷ []);
    fuel = 1000000;
    depth = 400;
    vats =
        record { name = codes "a"; knows = []; tree = tree_0 } ∷
        record { name = codes "h0"; knows = (0 ∷ []); tree = [] } ∷
        record { name = codes "h1"; knows = (0 ∷ []); tree = [] } ∷
        record { name = codes "h2"; knows = (0 ∷ []); tree = [] } ∷
        record { name = codes "h3"; knows = (0 ∷ []); tree = [] } ∷
        record { name = codes "h4"; knows = (0 ∷ []); tree = [] } ∷
        record { name = codes "h5"; knows = (0 ∷ []); tree = [] } ∷
        record { name = codes "h6"; knows = (0 ∷ []); tree = [] } ∷
        record { name = codes "h7"; knows = (0 ∷ []); tree = [] } ∷
        record { name = codes "h8"; knows = (0 ∷ []); tree = [] } ∷
        record { name = codes "h9"; knows = (0 ∷ []); tree = [] } ∷
        record { name = codes "h10"; knows = (0 ∷ []); tree = [] } ∷
        record { name = codes "h11"; knows = (0 ∷ []); tree = [] } ∷
        record { name = codes "h12"; knows = (0 ∷ []); tree = [] } ∷
        record { name = codes "h13"; knows = (0 ∷ []); tree = [] } ∷
        record { name = codes "h14"; knows = (0 ∷ []); tree = [] } ∷
        [];
    schedule = [];
  };
  hostile = (1 ∷ 2 ∷ 3 ∷ 4 ∷ 5 ∷ 6 ∷ 7 ∷ 8 ∷ 9 ∷ 10 ∷ 11 ∷ 12 ∷ 13 ∷ 14 ∷ 15 ∷ []);
  doings = Injects 1 0 (7 ∷ []) ∷ Does (Carry 1 0) ∷ Injects 2 0 (1 ∷ 0 ∷ 10 ∷ 0 ∷ []) ∷ Does (Carry 2 0) ∷ Injects 3 0 (1 ∷ 0 ∷ 11 ∷ 0 ∷ []) ∷ Does (Carry 3 0) ∷ Injects 4 0 (1 ∷ 0 ∷ 9 ∷ 1 ∷ []) ∷ Does (Carry 4 0) ∷ Injects 5 0 (1 ∷ 0 ∷ 9 ∷ 0 ∷ 2 ∷ 97 ∷ []) ∷ Does (Carry 5 0) ∷ Injects 6 0 (1 ∷ 0 ∷ 9 ∷ 0 ∷ 1 ∷ 97 ∷ 128 ∷ 2 ∷ []) ∷ Does (Carry 6 0) ∷ Injects 7 0 (1 ∷ 0 ∷ 9 ∷ 0 ∷ 1 ∷ 97 ∷ 1 ∷ 129 ∷ 0 ∷ []) ∷ Does (Carry 7 0) ∷ Injects 8 0 (1 ∷ 0 ∷ 9 ∷ 0 ∷ 1 ∷ 97 ∷ 1 ∷ 11 ∷ 1 ∷ []) ∷ Does (Carry 8 0) ∷ Injects 9 0 (1 ∷ 0 ∷ 9 ∷ 0 ∷ 1 ∷ 97 ∷ 2 ∷ 11 ∷ 0 ∷ 12 ∷ 0 ∷ []) ∷ Does (Carry 9 0) ∷ Injects 10 0 (1 ∷ 0 ∷ 9 ∷ 0 ∷ 1 ∷ 97 ∷ 1 ∷ 13 ∷ 16 ∷ 0 ∷ 0 ∷ 0 ∷ 0 ∷ 0 ∷ 0 ∷ 0 ∷ 0 ∷ 0 ∷ 0 ∷ 0 ∷ 0 ∷ 0 ∷ 0 ∷ 0 ∷ 0 ∷ []) ∷ Does (Carry 10 0) ∷ Injects 11 0 (1 ∷ 0 ∷ 9 ∷ 0 ∷ 1 ∷ 97 ∷ 1 ∷ 13 ∷ 0 ∷ 0 ∷ 0 ∷ 0 ∷ 0 ∷ 0 ∷ 0 ∷ 0 ∷ 0 ∷ 0 ∷ 0 ∷ 0 ∷ 0 ∷ 0 ∷ 0 ∷ 0 ∷ 0 ∷ []) ∷ Does (Carry 11 0) ∷ Injects 12 0 (2 ∷ 12 ∷ 0 ∷ 13 ∷ 0 ∷ 0 ∷ 0 ∷ 0 ∷ 0 ∷ 0 ∷ 0 ∷ 0 ∷ 0 ∷ 0 ∷ 0 ∷ 0 ∷ 0 ∷ 0 ∷ 0 ∷ 0 ∷ 0 ∷ []) ∷ Does (Carry 12 0) ∷ Injects 13 0 (2 ∷ 12 ∷ 0 ∷ 0 ∷ 0 ∷ []) ∷ Does (Carry 13 0) ∷ Injects 14 0 (1 ∷ 0 ∷ 9 ∷ 0 ∷ 1 ∷ 97 ∷ 1 ∷ 3 ∷ 128 ∷ 0 ∷ []) ∷ Does (Carry 14 0) ∷ Injects 15 0 (1 ∷ 0 ∷ 9 ∷ 0 ∷ 1 ∷ 97 ∷ 1 ∷ 7 ∷ 20 ∷ []) ∷ Does (Carry 15 0) ∷ [];
}

-- what is due of it
abbrev pub due : List ℕ
due = lines (
    codes "open a"
    ∷ codes "!0 made a.0 t"
    ∷ codes "!0 done a.0"
    ∷ codes "settle @a a.0"
    ∷ codes "1 inject h0 a 07"
    ∷ codes "2 carry h0 a malformed 0"
    ∷ codes "3 inject h1 a 01000a00"
    ∷ codes "4 carry h1 a malformed 3"
    ∷ codes "5 inject h2 a 01000b00"
    ∷ codes "6 carry h2 a malformed 2"
    ∷ codes "7 inject h3 a 01000901"
    ∷ codes "8 carry h3 a malformed 4"
    ∷ codes "9 inject h4 a 010009000261"
    ∷ codes "10 carry h4 a malformed 4"
    ∷ codes "11 inject h5 a 0100090001618002"
    ∷ codes "12 carry h5 a malformed 6"
    ∷ codes "13 inject h6 a 010009000161018100"
    ∷ codes "14 carry h6 a malformed 7"
    ∷ codes "15 inject h7 a 010009000161010b01"
    ∷ codes "16 carry h7 a malformed 8"
    ∷ codes "17 inject h8 a 010009000161020b000c00"
    ∷ codes "18 carry h8 a malformed 10"
    ∷ codes "19 inject h9 a 010009000161010d1000000000000000000000000000000000"
    ∷ codes "20 carry h9 a malformed 8"
    ∷ codes "21 inject h10 a 010009000161010d0000000000000000000000000000000000"
    ∷ codes "22 carry h10 a malformed 8"
    ∷ codes "23 inject h11 a 020c000d0000000000000000000000000000000000"
    ∷ codes "24 carry h11 a malformed 3"
    ∷ codes "25 inject h12 a 020c000000"
    ∷ codes "26 carry h12 a malformed 4"
    ∷ codes "27 inject h13 a 01000900016101038000"
    ∷ codes "28 carry h13 a malformed 8"
    ∷ codes "29 inject h14 a 010009000161010714"
    ∷ codes "30 carry h14 a malformed 8"
    ∷ codes "end"
    ∷ [])

abbrev pub Holds : Type 0
Holds = text play (acts play) ≡ due

unfoldable pub opened : Unit {0}
unfolding tree_0 play
opened = tt
