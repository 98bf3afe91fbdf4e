-- A run with hostile vats, and its text with its frames.
use Rattle.std.specs.Prelude.{◌≡◌, ℕ, List, [], ◌∷◌, codes, None}
use Rattle.def_run.specs.World.{Carry, Turn, Script}
use Rattle.def_hostile.specs.Hostile.{Play, Does, Injects, acts}
use Rattle.def_hostile.specs.HostileText.{wire_text}
use Rattle.test_hostile.specs.Lines.{lines}
use Rattle.def_kernel.specs.declared.node.Literal.TheVariants as literal
use Rattle.def_kernel.specs.declared.node.Node.{Node}
use Rattle.def_kernel.specs.declared.node.Node.TheVariants.{Any, Call, Escape, Final, ListPattern, Lit, Matcher, Method, Noun, Object, Sequence}

unfoldable pub tree_0 : List Node
tree_0 =
    Object 1 [] (2 ∷ 16 ∷ 24 ∷ [])
    ∷ Final (codes "t") None
    ∷ Method (codes "put") (3 ∷ []) 4
    ∷ Final (codes "x") None
    ∷ Escape 5 6 None
    ∷ Final (codes "__return") None
    ∷ Sequence (7 ∷ 15 ∷ [])
    ∷ Call 8 (codes "run") (9 ∷ [])
    ∷ Noun (codes "__return")
    ∷ Call 10 (codes "send") (11 ∷ 12 ∷ 13 ∷ [])
    ∷ Noun (codes "E")
    ∷ Noun (codes "x")
    ∷ Lit (literal.Text (codes "get"))
    ∷ Call 14 (codes "run") []
    ∷ Noun (codes "__makeList")
    ∷ Noun (codes "null")
    ∷ Method (codes "get") [] 17
    ∷ Escape 18 19 None
    ∷ Final (codes "__return") None
    ∷ Sequence (20 ∷ 23 ∷ [])
    ∷ Call 21 (codes "run") (22 ∷ [])
    ∷ Noun (codes "__return")
    ∷ Noun (codes "t")
    ∷ Noun (codes "null")
    ∷ Matcher 25 28
    ∷ ListPattern (26 ∷ 27 ∷ [])
    ∷ Final (codes "v") None
    ∷ Final (codes "w") None
    ∷ Noun (codes "w")
    ∷ []

unfoldable pub tree_1 : List Node
tree_1 =
    Object 1 [] (2 ∷ 10 ∷ [])
    ∷ Final (codes "u") None
    ∷ Method (codes "get") [] 3
    ∷ Escape 4 5 None
    ∷ Final (codes "__return") None
    ∷ Sequence (6 ∷ 9 ∷ [])
    ∷ Call 7 (codes "run") (8 ∷ [])
    ∷ Noun (codes "__return")
    ∷ Noun (codes "u")
    ∷ Noun (codes "null")
    ∷ Matcher 11 14
    ∷ ListPattern (12 ∷ 13 ∷ [])
    ∷ Any None
    ∷ Final (codes "w") None
    ∷ Noun (codes "w")
    ∷ []

unfoldable pub play : Play
play = record {
  script = record {
    key = (0 ∷ 0 ∷ 0 ∷ 0 ∷ 0 ∷ 0 ∷ 0 ∷ 0 ∷ 0 ∷ 0 ∷ 0 ∷ 0 ∷ 0 ∷ 0 ∷ 0 ∷ 0 ∷ 0 ∷ 0 ∷ 0 ∷ 0 ∷ 0 ∷ 0 ∷ 0 ∷ 0 ∷ 0 ∷ 0 ∷ 0 ∷ 0 ∷ 0 ∷ 0 ∷ 0 ∷ 0 ∷ []);
    fuel = 1000000;
    depth = 400;
    vats =
        record { name = codes "a"; knows = (1 ∷ []); tree = tree_0 } ∷
        record { name = codes "b"; knows = []; tree = tree_1 } ∷
        record { name = codes "h"; knows = (0 ∷ 1 ∷ []); tree = [] } ∷
        [];
    schedule = [];
  };
  hostile = (2 ∷ []);
  doings = Does (Carry 0 2) ∷ Injects 2 0 (2 ∷ 12 ∷ 0 ∷ 3 ∷ 5 ∷ []) ∷ Does (Carry 2 0) ∷ Injects 2 0 (2 ∷ 12 ∷ 0 ∷ 6 ∷ 2 ∷ 11 ∷ 1 ∷ 12 ∷ 2 ∷ []) ∷ Does (Carry 2 0) ∷ Injects 2 0 (1 ∷ 0 ∷ 9 ∷ 0 ∷ 3 ∷ 112 ∷ 117 ∷ 116 ∷ 2 ∷ 11 ∷ 1 ∷ 11 ∷ 2 ∷ []) ∷ Does (Carry 2 0) ∷ Does (Turn 0) ∷ Does (Turn 0) ∷ Does (Turn 1) ∷ Does (Turn 2) ∷ Does (Carry 0 1) ∷ Does (Carry 0 2) ∷ Does (Carry 1 0) ∷ Does (Carry 1 2) ∷ Does (Carry 2 0) ∷ Does (Carry 2 1) ∷ Does (Turn 0) ∷ Does (Turn 1) ∷ Does (Turn 2) ∷ Does (Carry 0 1) ∷ Does (Carry 0 2) ∷ Does (Carry 1 0) ∷ Does (Carry 1 2) ∷ Does (Carry 2 0) ∷ Does (Carry 2 1) ∷ [];
}

-- what is due of it
abbrev pub due : List ℕ
due = lines (
    codes "open a"
    ∷ codes "!0 made a.0 t caps a.0"
    ∷ codes "!0 done a.0"
    ∷ codes "settle @a a.0"
    ∷ codes "open b"
    ∷ codes "!0 made b.0 u caps b.0"
    ∷ codes "!0 done b.0"
    ∷ codes "settle @b b.0"
    ∷ codes "1 carry a h settled @a a.0"
    ∷ codes "frame 020c000b01"
    ∷ codes "2 inject h a 020c000305"
    ∷ codes "3 carry h a settled h~0 5"
    ∷ codes "frame 020c000305"
    ∷ codes "settle h~0 5"
    ∷ codes "4 inject h a 020c0006020b010c02"
    ∷ codes "5 carry h a settled h~0 [h.0 h~1]"
    ∷ codes "frame 020c0006020b010c02"
    ∷ codes "6 inject h a 0100090003707574020b010b02"
    ∷ codes "7 carry h a deliver h/0 @a put h.0 h.1"
    ∷ codes "frame 0100090003707574020b010b02"
    ∷ codes "8 turn a"
    ∷ codes "!1 take h/0 a.0 put h.0 h.1"
    ∷ codes "!1 list a%0 h.0 h.1"
    ∷ codes "!1 list a%1 \"put\" a%0"
    ∷ codes "!1 ejector a.1"
    ∷ codes "!1 done a%0"
    ∷ codes "settle a?h/0 a%0"
    ∷ codes "9 idle"
    ∷ codes "10 idle"
    ∷ codes "11 idle"
    ∷ codes "12 idle"
    ∷ codes "13 carry a h settled a?h/0 [h.0 h.1]"
    ∷ codes "frame 020e00060209010902"
    ∷ codes "14 carry b a settled @b b.0"
    ∷ codes "frame 020c000b01"
    ∷ codes "settle @b b.0"
    ∷ codes "15 carry b h settled @b b.0"
    ∷ codes "frame 020c000b01"
    ∷ codes "16 idle"
    ∷ codes "17 idle"
    ∷ codes "18 idle"
    ∷ codes "19 idle"
    ∷ codes "20 idle"
    ∷ codes "21 idle"
    ∷ codes "22 idle"
    ∷ codes "23 idle"
    ∷ codes "24 idle"
    ∷ codes "25 idle"
    ∷ codes "26 idle"
    ∷ codes "end"
    ∷ [])

abbrev pub Holds : Type 0
Holds = wire_text play (acts play) ≡ due

unfoldable pub opened : Unit {0}
unfolding tree_0 tree_1 play
opened = tt
