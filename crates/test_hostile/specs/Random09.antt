-- A run with hostile vats, and its text with its frames.
use Rattle.std.specs.Prelude.{◌≡◌, ℕ, List, [], ◌∷◌, codes, None, Some, pos}
use Rattle.def_run.specs.World.{Carry, Turn, Script}
use Rattle.def_hostile.specs.Hostile.{Play, Does, Injects, acts}
use Rattle.def_hostile.specs.HostileText.{wire_text}
use Rattle.test_hostile.specs.Lines.{lines}
use Rattle.def_kernel.specs.declared.node.Literal.TheVariants as literal
use Rattle.def_kernel.specs.declared.node.Node.{Node}
use Rattle.def_kernel.specs.declared.node.Node.TheVariants.{Call, Def, Final, Lit, Matcher, Method, Noun, Object, Sequence, Try, Var}

unfoldable pub tree_1 : List Node
tree_1 =
    Sequence (1 ∷ 11 ∷ 19 ∷ [])
    ∷ Try 2 9 10
    ∷ Object 3 [] (4 ∷ [])
    ∷ Final (codes "v1") None
    ∷ Matcher 5 6
    ∷ Final (codes "v2") None
    ∷ Sequence (7 ∷ 8 ∷ [])
    ∷ Lit (literal.Int (pos 6))
    ∷ Noun (codes "a")
    ∷ Final (codes "v3") None
    ∷ Lit (literal.Int (pos 3))
    ∷ Def 12 None 14
    ∷ Var (codes "v4") (Some 13)
    ∷ Noun (codes "a")
    ∷ Call 15 (codes "run") (16 ∷ 18 ∷ [])
    ∷ Noun (codes "__makeList")
    ∷ Call 17 (codes "negate") []
    ∷ Lit (literal.Int (pos 8))
    ∷ Noun (codes "a")
    ∷ Object 20 [] (21 ∷ 26 ∷ [])
    ∷ Final (codes "root") None
    ∷ Method (codes "f") (22 ∷ []) 23
    ∷ Final (codes "v5") None
    ∷ Sequence (24 ∷ 25 ∷ [])
    ∷ Noun (codes "null")
    ∷ Noun (codes "null")
    ∷ Method (codes "get") (27 ∷ []) 28
    ∷ Final (codes "v6") None
    ∷ Noun (codes "true")
    ∷ []

unfoldable pub play : Play
play = record {
  script = record {
    key = (0 ∷ 0 ∷ 0 ∷ 0 ∷ 0 ∷ 0 ∷ 0 ∷ 0 ∷ 0 ∷ 0 ∷ 0 ∷ 0 ∷ 0 ∷ 0 ∷ 0 ∷ 0 ∷ 0 ∷ 0 ∷ 0 ∷ 0 ∷ 0 ∷ 0 ∷ 0 ∷ 0 ∷ 0 ∷ 0 ∷ 0 ∷ 0 ∷ 0 ∷ 0 ∷ 0 ∷ 0 ∷ []);
    fuel = 40000;
    depth = 400;
    vats =
        record { name = codes "a"; knows = (1 ∷ []); tree = [] } ∷
        record { name = codes "b"; knows = (0 ∷ []); tree = tree_1 } ∷
        [];
    schedule = [];
  };
  hostile = (0 ∷ []);
  doings = Injects 0 1 (3 ∷ 10 ∷ 0 ∷ 3 ∷ 0 ∷ 0 ∷ 0 ∷ 0 ∷ 0 ∷ 0 ∷ 0 ∷ 0 ∷ 0 ∷ 0 ∷ 0 ∷ 0 ∷ 0 ∷ 0 ∷ 0 ∷ []) ∷ Does (Carry 1 0) ∷ Does (Carry 0 1) ∷ Does (Turn 0) ∷ Does (Turn 1) ∷ Does (Carry 0 1) ∷ Does (Carry 1 0) ∷ Does (Turn 0) ∷ Does (Turn 1) ∷ Does (Carry 0 1) ∷ Does (Carry 1 0) ∷ [];
}

-- what is due of it
abbrev pub due : List ℕ
due = lines (
    codes "open b"
    ∷ codes "!0 made b.0 v1 caps @a"
    ∷ codes "!0 call 8 negate"
    ∷ codes "!0 back -8"
    ∷ codes "!0 list b%0 -8 @a"
    ∷ codes "!0 threw \"not a guard\""
    ∷ codes "settle @b broken:\"not a guard\""
    ∷ codes "1 inject a b 030a0003000000000000000000000000000000"
    ∷ codes "2 carry b a settled @b broken:\"not a guard\""
    ∷ codes "frame 020c00080b6e6f742061206775617264"
    ∷ codes "3 carry a b malformed 2"
    ∷ codes "settle @a broken:\"partition\""
    ∷ codes "4 idle"
    ∷ codes "5 idle"
    ∷ codes "6 idle"
    ∷ codes "7 idle"
    ∷ codes "8 idle"
    ∷ codes "9 idle"
    ∷ codes "10 idle"
    ∷ codes "11 idle"
    ∷ codes "end"
    ∷ [])

abbrev pub Holds : Type 0
Holds = wire_text play (acts play) ≡ due

unfoldable pub opened : Unit {0}
unfolding tree_1 play
opened = tt
