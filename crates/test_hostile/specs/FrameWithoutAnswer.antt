-- A run with hostile vats, and its text with its frames.
use Rattle.std.specs.Prelude.{◌≡◌, ℕ, List, [], ◌∷◌, codes, None, pos}
use Rattle.def_run.specs.World.{Carry, Turn, Script}
use Rattle.def_hostile.specs.Hostile.{Play, Does, Injects, acts}
use Rattle.def_hostile.specs.HostileText.{wire_text}
use Rattle.test_hostile.specs.Lines.{lines}
use Rattle.def_kernel.specs.declared.node.Literal.TheVariants as literal
use Rattle.def_kernel.specs.declared.node.Node.{Node}
use Rattle.def_kernel.specs.declared.node.Node.TheVariants.{Call, Final, Lit, Method, Noun, Object, Sequence}

unfoldable pub tree_0 : List Node
tree_0 =
    Object 1 [] (2 ∷ 12 ∷ [])
    ∷ Final (codes "t") None
    ∷ Method (codes "put") (3 ∷ []) 4
    ∷ Final (codes "x") None
    ∷ Sequence (5 ∷ 11 ∷ [])
    ∷ Call 6 (codes "send") (7 ∷ 8 ∷ 9 ∷ [])
    ∷ Noun (codes "E")
    ∷ Noun (codes "x")
    ∷ Lit (literal.Text (codes "hi"))
    ∷ Call 10 (codes "run") []
    ∷ Noun (codes "__makeList")
    ∷ Noun (codes "t")
    ∷ Method (codes "hi") [] 13
    ∷ Lit (literal.Int (pos 2))
    ∷ []

unfoldable pub play : Play
play = record {
  script = record {
    key = (0 ∷ 0 ∷ 0 ∷ 0 ∷ 0 ∷ 0 ∷ 0 ∷ 0 ∷ 0 ∷ 0 ∷ 0 ∷ 0 ∷ 0 ∷ 0 ∷ 0 ∷ 0 ∷ 0 ∷ 0 ∷ 0 ∷ 0 ∷ 0 ∷ 0 ∷ 0 ∷ 0 ∷ 0 ∷ 0 ∷ 0 ∷ 0 ∷ 0 ∷ 0 ∷ 0 ∷ 0 ∷ []);
    fuel = 1000000;
    depth = 400;
    vats =
        record { name = codes "a"; knows = []; tree = tree_0 } ∷
        record { name = codes "h"; knows = (0 ∷ []); tree = [] } ∷
        [];
    schedule = [];
  };
  hostile = (1 ∷ []);
  doings = Injects 1 0 (1 ∷ 0 ∷ 9 ∷ 0 ∷ 3 ∷ 112 ∷ 117 ∷ 116 ∷ 1 ∷ 11 ∷ 0 ∷ []) ∷ Does (Carry 1 0) ∷ Injects 1 0 (6 ∷ 10 ∷ 0 ∷ 2 ∷ 104 ∷ 105 ∷ 0 ∷ []) ∷ Does (Carry 1 0) ∷ Does (Turn 0) ∷ Does (Turn 0) ∷ Does (Turn 0) ∷ Does (Turn 1) ∷ Does (Carry 0 1) ∷ Does (Carry 1 0) ∷ Does (Turn 0) ∷ Does (Turn 1) ∷ Does (Carry 0 1) ∷ Does (Carry 1 0) ∷ [];
}

-- what is due of it
abbrev pub due : List ℕ
due = lines (
    codes "open a"
    ∷ codes "!0 made a.0 t caps a.0"
    ∷ codes "!0 done a.0"
    ∷ codes "settle @a a.0"
    ∷ codes "1 inject h a 0100090003707574010b00"
    ∷ codes "2 carry h a deliver h/0 @a put h.0"
    ∷ codes "frame 0100090003707574010b00"
    ∷ codes "3 inject h a 060a0002686900"
    ∷ codes "4 carry h a deliveronly h/1 a?h/0 hi"
    ∷ codes "frame 060a0002686900"
    ∷ codes "5 turn a"
    ∷ codes "!1 take h/0 a.0 put h.0"
    ∷ codes "!1 list a%0"
    ∷ codes "!1 send a/0 h.0 hi -> h?a/0"
    ∷ codes "!1 done a.0"
    ∷ codes "settle a?h/0 a.0"
    ∷ codes "6 turn a"
    ∷ codes "!2 take h/1 a.0 hi"
    ∷ codes "!2 done 2"
    ∷ codes "7 idle"
    ∷ codes "8 idle"
    ∷ codes "9 carry a h settled @a a.0"
    ∷ codes "frame 020c000b01"
    ∷ codes "10 idle"
    ∷ codes "11 idle"
    ∷ codes "12 idle"
    ∷ codes "13 carry a h deliver a/0 h.0 hi"
    ∷ codes "frame 0100090002686900"
    ∷ codes "14 idle"
    ∷ codes "left link a h settled a?h/0 a.0"
    ∷ codes "end"
    ∷ [])

abbrev pub Holds : Type 0
Holds = wire_text play (acts play) ≡ due

unfoldable pub opened : Unit {0}
unfolding tree_0 play
opened = tt
