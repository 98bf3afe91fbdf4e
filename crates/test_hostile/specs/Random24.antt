-- A run with hostile vats, and its text.
use Rattle.std.specs.Prelude.{◌≡◌, ℕ, List, [], ◌∷◌, codes, None, pos}
use Rattle.def_run.specs.World.{Carry, Turn, Script}
use Rattle.def_hostile.specs.Hostile.{Play, Does, Injects, acts}
use Rattle.def_hostile.specs.HostileText.{text}
use Rattle.test_hostile.specs.Lines.{lines}
use Rattle.def_kernel.specs.declared.node.Literal.TheVariants as literal
use Rattle.def_kernel.specs.declared.node.Node.{Node}
use Rattle.def_kernel.specs.declared.node.Node.TheVariants.{Any, Call, Def, Final, Hide, ListPattern, Lit, Method, Noun, Object, Sequence, Try}

unfoldable pub tree_1 : List Node
tree_1 =
    Sequence (1 ∷ 11 ∷ 20 ∷ 36 ∷ 40 ∷ 46 ∷ 52 ∷ [])
    ∷ Try 2 9 10
    ∷ Try 3 7 8
    ∷ Call 4 (codes "floorDivide") (5 ∷ [])
    ∷ Lit (literal.Int (pos 0))
    ∷ Call 6 (codes "negate") []
    ∷ Lit (literal.Int (pos 9))
    ∷ Final (codes "q") None
    ∷ Noun (codes "q")
    ∷ Final (codes "v1") None
    ∷ Noun (codes "v1")
    ∷ Try 12 18 19
    ∷ Def 13 None 14
    ∷ Final (codes "v2") None
    ∷ Try 15 16 17
    ∷ Noun (codes "a")
    ∷ Final (codes "q") None
    ∷ Noun (codes "null")
    ∷ Final (codes "v3") None
    ∷ Noun (codes "v3")
    ∷ Try 21 34 35
    ∷ Object 22 (23 ∷ []) (24 ∷ 29 ∷ [])
    ∷ Any None
    ∷ Noun (codes "Functional")
    ∷ Method (codes "run") (25 ∷ []) 26
    ∷ Final (codes "v4") None
    ∷ Sequence (27 ∷ 28 ∷ [])
    ∷ Lit (literal.Int (pos 4))
    ∷ Noun (codes "v4")
    ∷ Method (codes "through") (30 ∷ []) 31
    ∷ Final (codes "v5") None
    ∷ Sequence (32 ∷ 33 ∷ [])
    ∷ Noun (codes "void")
    ∷ Noun (codes "null")
    ∷ Final (codes "v6") None
    ∷ Lit (literal.Text (codes "bad"))
    ∷ Def 37 None 38
    ∷ Final (codes "v7") None
    ∷ Hide 39
    ∷ Noun (codes "false")
    ∷ Def 41 None 44
    ∷ ListPattern (42 ∷ 43 ∷ [])
    ∷ Final (codes "v8") None
    ∷ Final (codes "v9") None
    ∷ Call 45 (codes "promise") []
    ∷ Noun (codes "Ref")
    ∷ Try 47 50 51
    ∷ Call 48 (codes "resolve") (49 ∷ [])
    ∷ Noun (codes "v9")
    ∷ Lit (literal.Text (codes "E"))
    ∷ Final (codes "v10") None
    ∷ Noun (codes "v10")
    ∷ Object 53 [] (54 ∷ [])
    ∷ Final (codes "root") None
    ∷ Method (codes "run") (55 ∷ []) 56
    ∷ Final (codes "v11") None
    ∷ Sequence (57 ∷ 58 ∷ [])
    ∷ Noun (codes "v11")
    ∷ Noun (codes "null")
    ∷ []

unfoldable pub play : Play
play = record {
  script = record {
    key = (2 ∷ 160 ∷ 48 ∷ 67 ∷ 231 ∷ 18 ∷ 17 ∷ 247 ∷ 177 ∷ 60 ∷ 137 ∷ 57 ∷ 130 ∷ 72 ∷ 109 ∷ 162 ∷ 238 ∷ 124 ∷ 217 ∷ 23 ∷ 129 ∷ 170 ∷ 58 ∷ 211 ∷ 75 ∷ 11 ∷ 61 ∷ 90 ∷ 74 ∷ 16 ∷ 53 ∷ 135 ∷ []);
    fuel = 40000;
    depth = 400;
    vats =
        record { name = codes "a"; knows = []; tree = [] } ∷
        record { name = codes "b"; knows = (0 ∷ []); tree = tree_1 } ∷
        [];
    schedule = [];
  };
  hostile = (0 ∷ []);
  doings = Does (Turn 0) ∷ Does (Turn 1) ∷ Does (Carry 0 1) ∷ Does (Carry 1 0) ∷ Does (Turn 0) ∷ Does (Turn 1) ∷ Does (Carry 0 1) ∷ Does (Carry 1 0) ∷ Does (Turn 0) ∷ Does (Turn 1) ∷ Does (Carry 0 1) ∷ Does (Carry 1 0) ∷ Does (Turn 0) ∷ Does (Turn 1) ∷ Does (Carry 0 1) ∷ Does (Carry 1 0) ∷ Does (Turn 0) ∷ Does (Turn 1) ∷ Does (Carry 0 1) ∷ Does (Carry 1 0) ∷ Does (Turn 0) ∷ Does (Turn 1) ∷ Does (Carry 0 1) ∷ Does (Carry 1 0) ∷ [];
}

-- what is due of it
abbrev pub due : List ℕ
due = lines (
    codes "open b"
    ∷ codes "!0 call 9 negate"
    ∷ codes "!0 back -9"
    ∷ codes "!0 call 0 floorDivide -9"
    ∷ codes "!0 back 0"
    ∷ codes "!0 made b.0 _ stamps <Functional>"
    ∷ codes "!0 promise b~0 b.1"
    ∷ codes "!0 list b%0 b~0 b.1"
    ∷ codes "!0 call b.1 resolve \"E\""
    ∷ codes "settle b~0 \"E\""
    ∷ codes "!0 back null"
    ∷ codes "!0 made b.2 root"
    ∷ codes "!0 done b.2"
    ∷ codes "settle @b b.2"
    ∷ codes "1 idle"
    ∷ codes "2 idle"
    ∷ codes "3 idle"
    ∷ codes "4 idle"
    ∷ codes "5 idle"
    ∷ codes "6 idle"
    ∷ codes "7 idle"
    ∷ codes "8 idle"
    ∷ codes "9 idle"
    ∷ codes "10 idle"
    ∷ codes "11 idle"
    ∷ codes "12 idle"
    ∷ codes "13 idle"
    ∷ codes "14 idle"
    ∷ codes "15 idle"
    ∷ codes "16 idle"
    ∷ codes "17 idle"
    ∷ codes "18 idle"
    ∷ codes "19 idle"
    ∷ codes "20 idle"
    ∷ codes "21 idle"
    ∷ codes "22 idle"
    ∷ codes "23 idle"
    ∷ codes "24 idle"
    ∷ codes "end"
    ∷ [])

abbrev pub Holds : Type 0
Holds = text play (acts play) ≡ due

unfoldable pub opened : Unit {0}
unfolding tree_1 play
opened = tt
