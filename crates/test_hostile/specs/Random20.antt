-- A run with hostile vats, and its text.
use Rattle.std.specs.Prelude.{◌≡◌, ℕ, List, [], ◌∷◌, codes, None, Some, pos}
use Rattle.def_run.specs.World.{Carry, Script}
use Rattle.def_hostile.specs.Hostile.{Play, Does, Injects, acts}
use Rattle.def_hostile.specs.HostileText.{text}
use Rattle.test_hostile.specs.Lines.{lines}
use Rattle.def_kernel.specs.declared.node.Literal.TheVariants as literal
use Rattle.def_kernel.specs.declared.node.Node.{Node}
use Rattle.def_kernel.specs.declared.node.Node.TheVariants.{Any, Call, Def, Final, If, Lit, Method, Noun, Object, Sequence, Set, Try, Var}

unfoldable pub tree_0 : List Node
tree_0 =
    Sequence (1 ∷ 6 ∷ 13 ∷ 21 ∷ 33 ∷ 44 ∷ [])
    ∷ Def 2 None 3
    ∷ Var (codes "v1") None
    ∷ Call 4 (codes "isFar") (5 ∷ [])
    ∷ Noun (codes "Ref")
    ∷ Noun (codes "null")
    ∷ Set (codes "v1") 7
    ∷ Object 8 [] (9 ∷ [])
    ∷ Any None
    ∷ Method (codes "run") [] 10
    ∷ Sequence (11 ∷ 12 ∷ [])
    ∷ Lit (literal.Text (codes "f"))
    ∷ Noun (codes "v1")
    ∷ Try 14 19 20
    ∷ Def 15 None 16
    ∷ Final (codes "v2") None
    ∷ Call 17 (codes "broken") (18 ∷ [])
    ∷ Noun (codes "Ref")
    ∷ Lit (literal.Text (codes ""))
    ∷ Final (codes "v3") None
    ∷ Noun (codes "v3")
    ∷ Def 22 None 24
    ∷ Var (codes "v4") (Some 23)
    ∷ Noun (codes "near")
    ∷ If 25 29 30
    ∷ Call 26 (codes "sameEver") (27 ∷ 28 ∷ [])
    ∷ Noun (codes "__equalizer")
    ∷ Lit (literal.Int (pos 55296))
    ∷ Noun (codes "v1")
    ∷ Noun (codes "v1")
    ∷ Sequence (31 ∷ 32 ∷ [])
    ∷ Noun (codes "true")
    ∷ Noun (codes "v1")
    ∷ If 34 39 43
    ∷ Call 35 (codes "run") (36 ∷ 37 ∷ [])
    ∷ Noun (codes "v4")
    ∷ Noun (codes "v4")
    ∷ Call 38 (codes "negate") []
    ∷ Lit (literal.Int (pos 8))
    ∷ If 40 41 42
    ∷ Noun (codes "false")
    ∷ Noun (codes "true")
    ∷ Noun (codes "false")
    ∷ Noun (codes "false")
    ∷ Object 45 [] (46 ∷ 48 ∷ 54 ∷ 59 ∷ [])
    ∷ Any None
    ∷ Method (codes "put") [] 47
    ∷ Noun (codes "v4")
    ∷ Method (codes "g") [] 49
    ∷ Sequence (50 ∷ 53 ∷ [])
    ∷ Call 51 (codes "broken") (52 ∷ [])
    ∷ Noun (codes "Ref")
    ∷ Lit (literal.Text (codes "a b"))
    ∷ Noun (codes "null")
    ∷ Method (codes "f") (55 ∷ []) 56
    ∷ Final (codes "v5") None
    ∷ Sequence (57 ∷ 58 ∷ [])
    ∷ Noun (codes "v4")
    ∷ Noun (codes "v5")
    ∷ Method (codes "get") (60 ∷ []) 61
    ∷ Final (codes "v1") None
    ∷ Sequence (62 ∷ 66 ∷ [])
    ∷ Sequence (63 ∷ 64 ∷ 65 ∷ [])
    ∷ Noun (codes "v1")
    ∷ Noun (codes "v4")
    ∷ Lit (literal.Int (pos 6))
    ∷ Noun (codes "null")
    ∷ []

unfoldable pub play : Play
play = record {
  script = record {
    key = (0 ∷ 0 ∷ 0 ∷ 0 ∷ 0 ∷ 0 ∷ 0 ∷ 0 ∷ 0 ∷ 0 ∷ 0 ∷ 0 ∷ 0 ∷ 0 ∷ 0 ∷ 0 ∷ 0 ∷ 0 ∷ 0 ∷ 0 ∷ 0 ∷ 0 ∷ 0 ∷ 0 ∷ 0 ∷ 0 ∷ 0 ∷ 0 ∷ 0 ∷ 0 ∷ 0 ∷ 0 ∷ []);
    fuel = 303;
    depth = 400;
    vats =
        record { name = codes "a"; knows = []; tree = tree_0 } ∷
        record { name = codes "b"; knows = (0 ∷ []); tree = [] } ∷
        [];
    schedule = [];
  };
  hostile = (1 ∷ []);
  doings = Injects 1 0 (1 ∷ 0 ∷ 9 ∷ 0 ∷ 7 ∷ 114 ∷ 101 ∷ 115 ∷ 111 ∷ 108 ∷ 118 ∷ 101 ∷ 0 ∷ []) ∷ Does (Carry 1 0) ∷ Does (Carry 0 1) ∷ Injects 1 0 (4 ∷ 1 ∷ 1 ∷ 118 ∷ 184 ∷ 224 ∷ 173 ∷ 160 ∷ 241 ∷ 61 ∷ 144 ∷ 64 ∷ 93 ∷ 106 ∷ 229 ∷ 83 ∷ 134 ∷ 189 ∷ 40 ∷ []) ∷ Does (Carry 0 1) ∷ Does (Carry 1 0) ∷ [];
}

-- what is due of it
abbrev pub due : List ℕ
due = lines (
    codes "open a"
    ∷ codes "!0 slot a&0 false"
    ∷ codes "!0 made a.0 _ caps a&0"
    ∷ codes "!0 wrote a&0 a.0"
    ∷ codes "!0 read a&0 a.0"
    ∷ codes "!0 read a&0 a.0"
    ∷ codes "!0 slot a&1 a.0"
    ∷ codes "!0 read a&1 a.0"
    ∷ codes "!0 read a&1 a.0"
    ∷ codes "!0 call 8 negate"
    ∷ codes "!0 back -8"
    ∷ codes "!0 call a.0 run a.0 -8 as !1"
    ∷ codes "!0 thrown \"no method\""
    ∷ codes "!0 threw \"no method\""
    ∷ codes "settle @a broken:\"no method\""
    ∷ codes "1 inject b a 01000900077265736f6c766500"
    ∷ codes "2 carry b a deliver b/0 @a resolve"
    ∷ codes "lost b/0 broken"
    ∷ codes "settle a?b/0 broken:\"no method\""
    ∷ codes "3 carry a b settled @a broken:\"no method\""
    ∷ codes "4 inject b a 04010176b8e0ada0f13d90405d6ae55386bd28"
    ∷ codes "5 carry a b settled a?b/0 broken:\"no method\""
    ∷ codes "6 carry b a malformed 2"
    ∷ codes "end"
    ∷ [])

abbrev pub Holds : Type 0
Holds = text play (acts play) ≡ due

unfoldable pub opened : Unit {0}
unfolding tree_0 play
opened = tt
