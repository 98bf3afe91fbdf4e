-- A run with hostile vats, and its text with its frames.
use Rattle.std.specs.Prelude.{◌≡◌, ℕ, List, [], ◌∷◌, codes, None}
use Rattle.def_run.specs.World.{Carry, Turn, Script}
use Rattle.def_hostile.specs.Hostile.{Play, Does, Injects, acts}
use Rattle.def_hostile.specs.HostileText.{wire_text}
use Rattle.test_hostile.specs.Lines.{lines}
use Rattle.def_kernel.specs.declared.node.Node.{Node}
use Rattle.def_kernel.specs.declared.node.Node.TheVariants.{Call, Escape, Final, ListPattern, Matcher, Method, Noun, Object, Sequence}

unfoldable pub tree_0 : List Node
tree_0 =
    Object 1 [] (2 ∷ 11 ∷ 19 ∷ [])
    ∷ Final (codes "t") None
    ∷ Method (codes "put") (3 ∷ []) 4
    ∷ Final (codes "x") None
    ∷ Escape 5 6 None
    ∷ Final (codes "__return") None
    ∷ Sequence (7 ∷ 10 ∷ [])
    ∷ Call 8 (codes "run") (9 ∷ [])
    ∷ Noun (codes "__return")
    ∷ Noun (codes "x")
    ∷ Noun (codes "null")
    ∷ Method (codes "get") [] 12
    ∷ Escape 13 14 None
    ∷ Final (codes "__return") None
    ∷ Sequence (15 ∷ 18 ∷ [])
    ∷ Call 16 (codes "run") (17 ∷ [])
    ∷ Noun (codes "__return")
    ∷ Noun (codes "t")
    ∷ Noun (codes "null")
    ∷ Matcher 20 23
    ∷ ListPattern (21 ∷ 22 ∷ [])
    ∷ Final (codes "v") None
    ∷ Final (codes "w") None
    ∷ Noun (codes "w")
    ∷ []

unfoldable pub play : Play
play = record {
  script = record {
    key = (0 ∷ 0 ∷ 0 ∷ 0 ∷ 0 ∷ 0 ∷ 0 ∷ 0 ∷ 0 ∷ 0 ∷ 0 ∷ 0 ∷ 0 ∷ 0 ∷ 0 ∷ 0 ∷ 0 ∷ 0 ∷ 0 ∷ 0 ∷ 0 ∷ 0 ∷ 0 ∷ 0 ∷ 0 ∷ 0 ∷ 0 ∷ 0 ∷ 0 ∷ 0 ∷ 0 ∷ 0 ∷ []);
    fuel = 1000000;
    depth = 400;
    vats =
        record { name = codes "a"; knows = []; tree = tree_0 } ∷
        record { name = codes "h"; knows = (0 ∷ []); tree = [] } ∷
        [];
    schedule = [];
  };
  hostile = (1 ∷ []);
  doings = Does (Carry 0 1) ∷ Injects 1 0 (1 ∷ 0 ∷ 9 ∷ 0 ∷ 3 ∷ 112 ∷ 117 ∷ 116 ∷ 2 ∷ 11 ∷ 0 ∷ 11 ∷ 1 ∷ []) ∷ Does (Carry 1 0) ∷ Does (Turn 0) ∷ Does (Turn 0) ∷ Does (Turn 0) ∷ Does (Turn 1) ∷ Does (Carry 0 1) ∷ Does (Carry 1 0) ∷ Does (Turn 0) ∷ Does (Turn 1) ∷ Does (Carry 0 1) ∷ Does (Carry 1 0) ∷ [];
}

-- what is due of it
abbrev pub due : List ℕ
due = lines (
    codes "open a"
    ∷ codes "!0 made a.0 t caps a.0"
    ∷ codes "!0 done a.0"
    ∷ codes "settle @a a.0"
    ∷ codes "1 carry a h settled @a a.0"
    ∷ codes "frame 020c000b01"
    ∷ codes "2 inject h a 0100090003707574020b000b01"
    ∷ codes "3 carry h a deliver h/0 @a put h.0 h.1"
    ∷ codes "frame 0100090003707574020b000b01"
    ∷ codes "4 turn a"
    ∷ codes "!1 take h/0 a.0 put h.0 h.1"
    ∷ codes "!1 list a%0 h.0 h.1"
    ∷ codes "!1 list a%1 \"put\" a%0"
    ∷ codes "!1 ejector a.1"
    ∷ codes "!1 done a%0"
    ∷ codes "settle a?h/0 a%0"
    ∷ codes "5 idle"
    ∷ codes "6 idle"
    ∷ codes "7 idle"
    ∷ codes "8 carry a h settled a?h/0 [h.0 h.1]"
    ∷ codes "frame 020e00060209000901"
    ∷ codes "9 idle"
    ∷ codes "10 idle"
    ∷ codes "11 idle"
    ∷ codes "12 idle"
    ∷ codes "13 idle"
    ∷ codes "end"
    ∷ [])

abbrev pub Holds : Type 0
Holds = wire_text play (acts play) ≡ due

unfoldable pub opened : Unit {0}
unfolding tree_0 play
opened = tt
