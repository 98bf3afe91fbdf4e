-- A run with hostile vats, and its text with its frames.
use Rattle.std.specs.Prelude.{◌≡◌, ℕ, List, [], ◌∷◌, codes, None}
use Rattle.def_run.specs.World.{Carry, Turn, Script}
use Rattle.def_hostile.specs.Hostile.{Play, Does, Injects, acts}
use Rattle.def_hostile.specs.HostileText.{wire_text}
use Rattle.test_hostile.specs.Lines.{lines}
use Rattle.def_kernel.specs.declared.node.Literal.TheVariants as literal
use Rattle.def_kernel.specs.declared.node.Node.{Node}
use Rattle.def_kernel.specs.declared.node.Node.TheVariants.{Call, Final, Lit, Method, Noun, Object}

unfoldable pub tree_0 : List Node
tree_0 =
    Object 1 [] (2 ∷ [])
    ∷ Final (codes "t") None
    ∷ Method (codes "put") (3 ∷ []) 4
    ∷ Final (codes "x") None
    ∷ Call 5 (codes "send") (6 ∷ 7 ∷ 8 ∷ [])
    ∷ Noun (codes "E")
    ∷ Noun (codes "b")
    ∷ Lit (literal.Text (codes "take"))
    ∷ Call 9 (codes "run") (10 ∷ [])
    ∷ Noun (codes "__makeList")
    ∷ Noun (codes "x")
    ∷ []

unfoldable pub tree_1 : List Node
tree_1 =
    Object 1 [] (2 ∷ [])
    ∷ Final (codes "u") None
    ∷ Method (codes "take") (3 ∷ []) 4
    ∷ Final (codes "x") None
    ∷ Call 5 (codes "send") (6 ∷ 7 ∷ 8 ∷ [])
    ∷ Noun (codes "E")
    ∷ Noun (codes "x")
    ∷ Lit (literal.Text (codes "hi"))
    ∷ Call 9 (codes "run") (10 ∷ [])
    ∷ Noun (codes "__makeList")
    ∷ Noun (codes "x")
    ∷ []

unfoldable pub play : Play
play = record {
  script = record {
    key = (0 ∷ 0 ∷ 0 ∷ 0 ∷ 0 ∷ 0 ∷ 0 ∷ 0 ∷ 0 ∷ 0 ∷ 0 ∷ 0 ∷ 0 ∷ 0 ∷ 0 ∷ 0 ∷ 0 ∷ 0 ∷ 0 ∷ 0 ∷ 0 ∷ 0 ∷ 0 ∷ 0 ∷ 0 ∷ 0 ∷ 0 ∷ 0 ∷ 0 ∷ 0 ∷ 0 ∷ 0 ∷ []);
    fuel = 1000000;
    depth = 400;
    vats =
        record { name = codes "a"; knows = (1 ∷ []); tree = tree_0 } ∷
        record { name = codes "b"; knows = []; tree = tree_1 } ∷
        record { name = codes "h"; knows = (0 ∷ []); tree = [] } ∷
        [];
    schedule = [];
  };
  hostile = (2 ∷ []);
  doings = Injects 2 0 (6 ∷ 9 ∷ 0 ∷ 3 ∷ 112 ∷ 117 ∷ 116 ∷ 1 ∷ 11 ∷ 0 ∷ []) ∷ Does (Carry 2 0) ∷ Does (Turn 0) ∷ Does (Carry 0 1) ∷ Does (Turn 1) ∷ Does (Turn 0) ∷ Does (Turn 1) ∷ Does (Turn 2) ∷ Does (Carry 0 1) ∷ Does (Carry 0 2) ∷ Does (Carry 1 0) ∷ Does (Carry 1 2) ∷ Does (Carry 2 0) ∷ Does (Carry 2 1) ∷ Does (Turn 0) ∷ Does (Turn 1) ∷ Does (Turn 2) ∷ Does (Carry 0 1) ∷ Does (Carry 0 2) ∷ Does (Carry 1 0) ∷ Does (Carry 1 2) ∷ Does (Carry 2 0) ∷ Does (Carry 2 1) ∷ [];
}

-- what is due of it
abbrev pub due : List ℕ
due = lines (
    codes "open a"
    ∷ codes "!0 made a.0 t caps @b"
    ∷ codes "!0 done a.0"
    ∷ codes "settle @a a.0"
    ∷ codes "open b"
    ∷ codes "!0 made b.0 u"
    ∷ codes "!0 done b.0"
    ∷ codes "settle @b b.0"
    ∷ codes "1 inject h a 06090003707574010b00"
    ∷ codes "2 carry h a deliveronly h/0 @a put h.0"
    ∷ codes "frame 06090003707574010b00"
    ∷ codes "3 turn a"
    ∷ codes "!1 take h/0 a.0 put h.0"
    ∷ codes "!1 list a%0 h.0"
    ∷ codes "!1 send a/0 @b take h.0 -> b?a/0"
    ∷ codes "!1 done b?a/0"
    ∷ codes "4 carry a b deliver a/0 @b take h^0"
    ∷ codes "frame 010009000474616b65010d0276b8e0ada0f13d90405d6ae55386bd28"
    ∷ codes "5 turn b"
    ∷ codes "!1 take a/0 b.0 take h^0"
    ∷ codes "!1 list b%0 h^0"
    ∷ codes "!1 send b/0 h^0 hi h^0 -> h?b/0"
    ∷ codes "!1 done h?b/0"
    ∷ codes "wait b?a/0 h?b/0"
    ∷ codes "6 idle"
    ∷ codes "7 idle"
    ∷ codes "8 idle"
    ∷ codes "9 idle"
    ∷ codes "10 carry a h settled @a a.0"
    ∷ codes "frame 020c000b01"
    ∷ codes "11 carry b a settled @b b.0"
    ∷ codes "frame 020c000b01"
    ∷ codes "settle @b b.0"
    ∷ codes "12 carry b h ask h^0 a"
    ∷ codes "frame 04000076b8e0ada0f13d90405d6ae55386bd28"
    ∷ codes "13 idle"
    ∷ codes "14 idle"
    ∷ codes "15 idle"
    ∷ codes "16 idle"
    ∷ codes "17 idle"
    ∷ codes "18 idle"
    ∷ codes "19 carry a h open h^0 h.0"
    ∷ codes "frame 03090076b8e0ada0f13d90405d6ae55386bd28"
    ∷ codes "20 idle"
    ∷ codes "21 carry b h deliver b/0 h^0 hi h^0"
    ∷ codes "frame 01010a00026869010a00"
    ∷ codes "22 idle"
    ∷ codes "23 idle"
    ∷ codes "end"
    ∷ [])

abbrev pub Holds : Type 0
Holds = wire_text play (acts play) ≡ due

unfoldable pub opened : Unit {0}
unfolding tree_0 tree_1 play
opened = tt
