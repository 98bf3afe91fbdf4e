-- A run with hostile vats, and its text with its frames.
use Rattle.std.specs.Prelude.{◌≡◌, ℕ, List, [], ◌∷◌, codes, None, Some, pos}
use Rattle.def_run.specs.World.{Carry, Turn, Script}
use Rattle.def_hostile.specs.Hostile.{Play, Does, Injects, acts}
use Rattle.def_hostile.specs.HostileText.{wire_text}
use Rattle.test_hostile.specs.Lines.{lines}
use Rattle.def_kernel.specs.declared.node.Literal.TheVariants as literal
use Rattle.def_kernel.specs.declared.node.Node.{Node}
use Rattle.def_kernel.specs.declared.node.Node.TheVariants.{Call, Def, Final, Lit, Method, Noun, Object, Sequence, Try}

unfoldable pub tree_1 : List Node
tree_1 =
    Sequence (1 ∷ 10 ∷ 20 ∷ 30 ∷ [])
    ∷ Def 2 None 3
    ∷ Final (codes "v1") None
    ∷ Try 4 8 9
    ∷ Call 5 (codes "and") (7 ∷ [])
    ∷ Call 6 (codes "negate") []
    ∷ Lit (literal.Int (pos 4))
    ∷ Lit (literal.Int (pos 2))
    ∷ Final (codes "q") None
    ∷ Lit (literal.Int (pos 1))
    ∷ Try 11 18 19
    ∷ Try 12 16 17
    ∷ Call 13 (codes "put") (14 ∷ 15 ∷ [])
    ∷ Lit (literal.Text (codes "f"))
    ∷ Lit (literal.Text (codes "xxxxxxxxxxxxxxxxxxxxxxxxxxxxxxx"))
    ∷ Noun (codes "v1")
    ∷ Final (codes "q") None
    ∷ Noun (codes "q")
    ∷ Final (codes "v2") None
    ∷ Noun (codes "v2")
    ∷ Try 21 28 29
    ∷ Try 22 26 27
    ∷ Call 23 (codes "whenResolved") (24 ∷ 25 ∷ [])
    ∷ Noun (codes "Ref")
    ∷ Noun (codes "a")
    ∷ Noun (codes "v1")
    ∷ Final (codes "q") None
    ∷ Noun (codes "q")
    ∷ Final (codes "v3") None
    ∷ Noun (codes "v1")
    ∷ Object 31 (32 ∷ []) (33 ∷ 37 ∷ 43 ∷ 52 ∷ [])
    ∷ Final (codes "root") None
    ∷ Noun (codes "DeepFrozen")
    ∷ Method (codes "g") [] 34
    ∷ Sequence (35 ∷ 36 ∷ [])
    ∷ Noun (codes "boolean")
    ∷ Noun (codes "a")
    ∷ Method (codes "run") [] 38
    ∷ Sequence (39 ∷ 42 ∷ [])
    ∷ Sequence (40 ∷ 41 ∷ [])
    ∷ Noun (codes "a")
    ∷ Noun (codes "v1")
    ∷ Noun (codes "null")
    ∷ Method (codes "get") (44 ∷ []) 46
    ∷ Final (codes "v1") (Some 45)
    ∷ Noun (codes "char")
    ∷ Sequence (47 ∷ 51 ∷ [])
    ∷ Sequence (48 ∷ 49 ∷ 50 ∷ [])
    ∷ Noun (codes "char")
    ∷ Lit (literal.Int (pos 5))
    ∷ Noun (codes "v1")
    ∷ Noun (codes "null")
    ∷ Method (codes "f") [] 53
    ∷ Sequence (54 ∷ 57 ∷ [])
    ∷ Sequence (55 ∷ 56 ∷ [])
    ∷ Lit (literal.Int (pos 2))
    ∷ Lit (literal.Text (codes ""))
    ∷ Noun (codes "null")
    ∷ []

unfoldable pub play : Play
play = record {
  script = record {
    key = (102 ∷ 4 ∷ 89 ∷ 235 ∷ 154 ∷ 39 ∷ 194 ∷ 251 ∷ 176 ∷ 31 ∷ 162 ∷ 253 ∷ 214 ∷ 247 ∷ 143 ∷ 44 ∷ 74 ∷ 242 ∷ 254 ∷ 6 ∷ 71 ∷ 81 ∷ 5 ∷ 83 ∷ 147 ∷ 166 ∷ 38 ∷ 211 ∷ 189 ∷ 80 ∷ 237 ∷ 167 ∷ []);
    fuel = 419;
    depth = 400;
    vats =
        record { name = codes "a"; knows = (1 ∷ []); tree = [] } ∷
        record { name = codes "b"; knows = (0 ∷ []); tree = tree_1 } ∷
        [];
    schedule = [];
  };
  hostile = (0 ∷ []);
  doings = Does (Carry 1 0) ∷ Does (Turn 0) ∷ Does (Turn 1) ∷ Does (Carry 0 1) ∷ Does (Carry 1 0) ∷ [];
}

-- what is due of it
abbrev pub due : List ℕ
due = lines (
    codes "open b"
    ∷ codes "!0 call 4 negate"
    ∷ codes "!0 back -4"
    ∷ codes "!0 call -4 and 2"
    ∷ codes "!0 back 0"
    ∷ codes "!0 call \"f\" put \"xxxxxxxxxxxxxxxxxxxxxxxxxxxxxxx\" 0"
    ∷ codes "!0 thrown \"no method\""
    ∷ codes "!0 when b/0 @a 0 -> b?b/0"
    ∷ codes "!0 made b.0 root caps @a 0"
    ∷ codes "!0 done b.0"
    ∷ codes "settle @b b.0"
    ∷ codes "1 carry b a settled @b b.0"
    ∷ codes "frame 020c000b01"
    ∷ codes "2 idle"
    ∷ codes "3 idle"
    ∷ codes "4 idle"
    ∷ codes "5 idle"
    ∷ codes "left wait b @a b/0"
    ∷ codes "end"
    ∷ [])

abbrev pub Holds : Type 0
Holds = wire_text play (acts play) ≡ due

unfoldable pub opened : Unit {0}
unfolding tree_1 play
opened = tt
