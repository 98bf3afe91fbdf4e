-- A run with hostile vats, and its text with its frames.
use Rattle.std.specs.Prelude.{◌≡◌, ℕ, List, [], ◌∷◌, codes, None, pos}
use Rattle.def_run.specs.World.{Carry, Turn, Script}
use Rattle.def_hostile.specs.Hostile.{Play, Does, Injects, acts}
use Rattle.def_hostile.specs.HostileText.{wire_text}
use Rattle.test_hostile.specs.Lines.{lines}
use Rattle.def_kernel.specs.declared.node.Literal.TheVariants as literal
use Rattle.def_kernel.specs.declared.node.Node.{Node}
use Rattle.def_kernel.specs.declared.node.Node.TheVariants.{Final, Lit, Matcher, Method, Noun, Object, Sequence}

unfoldable pub tree_0 : List Node
tree_0 =
    Sequence (1 ∷ 9 ∷ [])
    ∷ Object 2 [] (3 ∷ 6 ∷ [])
    ∷ Final (codes "t") None
    ∷ Method (codes "put") (4 ∷ []) 5
    ∷ Final (codes "x") None
    ∷ Noun (codes "x")
    ∷ Matcher 7 8
    ∷ Final (codes "m") None
    ∷ Noun (codes "m")
    ∷ Lit (literal.Int (pos 0))
    ∷ []

unfoldable pub play : Play
play = record {
  script = record {
    key = (0 ∷ 0 ∷ 0 ∷ 0 ∷ 0 ∷ 0 ∷ 0 ∷ 0 ∷ 0 ∷ 0 ∷ 0 ∷ 0 ∷ 0 ∷ 0 ∷ 0 ∷ 0 ∷ 0 ∷ 0 ∷ 0 ∷ 0 ∷ 0 ∷ 0 ∷ 0 ∷ 0 ∷ 0 ∷ 0 ∷ 0 ∷ 0 ∷ 0 ∷ 0 ∷ 0 ∷ 0 ∷ []);
    fuel = 1000000;
    depth = 400;
    vats =
        record { name = codes "a"; knows = []; tree = tree_0 } ∷
        record { name = codes "h"; knows = (0 ∷ []); tree = [] } ∷
        [];
    schedule = [];
  };
  hostile = (1 ∷ []);
  doings = Injects 1 0 (1 ∷ 0 ∷ 9 ∷ 0 ∷ 3 ∷ 112 ∷ 117 ∷ 116 ∷ 1 ∷ 12 ∷ 0 ∷ []) ∷ Does (Carry 1 0) ∷ Does (Turn 0) ∷ Injects 1 0 (2 ∷ 12 ∷ 0 ∷ 15 ∷ 0 ∷ []) ∷ Does (Carry 1 0) ∷ Does (Carry 0 1) ∷ Does (Carry 0 1) ∷ Does (Carry 0 1) ∷ Injects 1 0 (3 ∷ 9 ∷ 0 ∷ 118 ∷ 184 ∷ 224 ∷ 173 ∷ 160 ∷ 241 ∷ 61 ∷ 144 ∷ 64 ∷ 93 ∷ 106 ∷ 229 ∷ 83 ∷ 134 ∷ 189 ∷ 40 ∷ []) ∷ Does (Carry 1 0) ∷ [];
}

-- what is due of it
abbrev pub due : List ℕ
due = lines (
    codes "open a"
    ∷ codes "!0 made a.0 t"
    ∷ codes "!0 done 0"
    ∷ codes "settle @a 0"
    ∷ codes "1 inject h a 0100090003707574010c00"
    ∷ codes "2 carry h a deliver h/0 @a put h~0"
    ∷ codes "frame 0100090003707574010c00"
    ∷ codes "3 turn a"
    ∷ codes "!1 take h/0 0 put h~0"
    ∷ codes "!1 threw \"no method\""
    ∷ codes "settle a?h/0 broken:\"no method\""
    ∷ codes "4 inject h a 020c000f00"
    ∷ codes "5 carry h a elsewhere h~0 a"
    ∷ codes "frame 020c000f00"
    ∷ codes "view h~0 a^0"
    ∷ codes "6 carry a h settled @a 0"
    ∷ codes "frame 020c000300"
    ∷ codes "7 carry a h settled a?h/0 broken:\"no method\""
    ∷ codes "frame 020e0008096e6f206d6574686f64"
    ∷ codes "8 carry a h shorten h~0 a^0"
    ∷ codes "frame 05090076b8e0ada0f13d90405d6ae55386bd28"
    ∷ codes "9 inject h a 03090076b8e0ada0f13d90405d6ae55386bd28"
    ∷ codes "10 carry h a open a^0 @a"
    ∷ codes "frame 03090076b8e0ada0f13d90405d6ae55386bd28"
    ∷ codes "settle a^0 0"
    ∷ codes "settle h~0 0"
    ∷ codes "end"
    ∷ [])

abbrev pub Holds : Type 0
Holds = wire_text play (acts play) ≡ due

unfoldable pub opened : Unit {0}
unfolding tree_0 play
opened = tt
