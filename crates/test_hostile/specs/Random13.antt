-- A run with hostile vats, and its text with its frames.
use Rattle.std.specs.Prelude.{◌≡◌, ℕ, List, [], ◌∷◌, codes, None}
use Rattle.def_run.specs.World.{Carry, Turn, Script}
use Rattle.def_hostile.specs.Hostile.{Play, Does, Injects, acts}
use Rattle.def_hostile.specs.HostileText.{wire_text}
use Rattle.test_hostile.specs.Lines.{lines}
use Rattle.def_kernel.specs.declared.node.Literal.TheVariants as literal
use Rattle.def_kernel.specs.declared.node.Node.{Node}
use Rattle.def_kernel.specs.declared.node.Node.TheVariants.{Call, Def, Final, Lit, Method, Noun, Object, Sequence}

unfoldable pub tree_0 : List Node
tree_0 =
    Sequence (1 ∷ 9 ∷ 15 ∷ 24 ∷ [])
    ∷ Def 2 None 3
    ∷ Final (codes "x") None
    ∷ Call 4 (codes "send") (5 ∷ 6 ∷ 7 ∷ [])
    ∷ Noun (codes "E")
    ∷ Noun (codes "h")
    ∷ Lit (literal.Text (codes "f"))
    ∷ Call 8 (codes "run") []
    ∷ Noun (codes "__makeList")
    ∷ Call 10 (codes "send") (11 ∷ 12 ∷ 13 ∷ [])
    ∷ Noun (codes "E")
    ∷ Noun (codes "x")
    ∷ Lit (literal.Text (codes "g"))
    ∷ Call 14 (codes "run") []
    ∷ Noun (codes "__makeList")
    ∷ Object 16 [] (17 ∷ [])
    ∷ Final (codes "go") None
    ∷ Method (codes "run") [] 18
    ∷ Call 19 (codes "send") (20 ∷ 21 ∷ 22 ∷ [])
    ∷ Noun (codes "E")
    ∷ Noun (codes "x")
    ∷ Lit (literal.Text (codes "k"))
    ∷ Call 23 (codes "run") []
    ∷ Noun (codes "__makeList")
    ∷ Call 25 (codes "send") (26 ∷ 27 ∷ 28 ∷ [])
    ∷ Noun (codes "E")
    ∷ Noun (codes "go")
    ∷ Lit (literal.Text (codes "run"))
    ∷ Call 29 (codes "run") []
    ∷ Noun (codes "__makeList")
    ∷ []

unfoldable pub play : Play
play = record {
  script = record {
    key = (0 ∷ 0 ∷ 0 ∷ 0 ∷ 0 ∷ 0 ∷ 0 ∷ 0 ∷ 0 ∷ 0 ∷ 0 ∷ 0 ∷ 0 ∷ 0 ∷ 0 ∷ 0 ∷ 0 ∷ 0 ∷ 0 ∷ 0 ∷ 0 ∷ 0 ∷ 0 ∷ 0 ∷ 0 ∷ 0 ∷ 0 ∷ 0 ∷ 0 ∷ 0 ∷ 0 ∷ 0 ∷ []);
    fuel = 1000000;
    depth = 400;
    vats =
        record { name = codes "a"; knows = (1 ∷ []); tree = tree_0 } ∷
        record { name = codes "h"; knows = []; tree = [] } ∷
        [];
    schedule = [];
  };
  hostile = (1 ∷ []);
  doings = Does (Carry 0 1) ∷ Does (Carry 0 1) ∷ Injects 1 0 (2 ∷ 14 ∷ 0 ∷ 11 ∷ 1 ∷ []) ∷ Does (Carry 1 0) ∷ Does (Turn 0) ∷ Injects 1 0 (2 ∷ 14 ∷ 0 ∷ 3 ∷ 5 ∷ []) ∷ Does (Carry 1 0) ∷ Does (Turn 0) ∷ Does (Turn 1) ∷ Does (Carry 0 1) ∷ Does (Carry 1 0) ∷ [];
}

-- what is due of it
abbrev pub due : List ℕ
due = lines (
    codes "open a"
    ∷ codes "!0 list a%0"
    ∷ codes "!0 send a/0 @h f -> h?a/0"
    ∷ codes "!0 list a%1"
    ∷ codes "!0 send a/1 h?a/0 g -> h?a/1"
    ∷ codes "!0 made a.0 go caps h?a/0"
    ∷ codes "!0 list a%2"
    ∷ codes "!0 send a/2 a.0 run -> a?a/2"
    ∷ codes "!0 done a?a/2"
    ∷ codes "wait @a a?a/2"
    ∷ codes "1 carry a h deliver a/0 @h f"
    ∷ codes "frame 01000900016600"
    ∷ codes "2 carry a h deliver a/1 h?a/0 g"
    ∷ codes "frame 01010a00016700"
    ∷ codes "3 inject h a 020e000b01"
    ∷ codes "4 carry h a settled h?a/0 h.0"
    ∷ codes "frame 020e000b01"
    ∷ codes "settle h?a/0 h.0"
    ∷ codes "5 turn a"
    ∷ codes "!1 take a/2 a.0 run"
    ∷ codes "!1 list a%3"
    ∷ codes "!1 send a/3 h?a/0 k -> h?a/3"
    ∷ codes "!1 done h?a/3"
    ∷ codes "wait a?a/2 h?a/3"
    ∷ codes "6 inject h a 020e000305"
    ∷ codes "7 carry h a settled h?a/0 5"
    ∷ codes "frame 020e000305"
    ∷ codes "8 idle"
    ∷ codes "9 idle"
    ∷ codes "10 carry a h deliver a/3 h.0 k"
    ∷ codes "frame 01020901016b00"
    ∷ codes "11 idle"
    ∷ codes "end"
    ∷ [])

abbrev pub Holds : Type 0
Holds = wire_text play (acts play) ≡ due

unfoldable pub opened : Unit {0}
unfolding tree_0 play
opened = tt
