-- A run with hostile vats, and its text.
use Rattle.std.specs.Prelude.{◌≡◌, ℕ, List, [], ◌∷◌, codes, None, Some, pos}
use Rattle.def_run.specs.World.{Carry, Script}
use Rattle.def_hostile.specs.Hostile.{Play, Does, Injects, acts}
use Rattle.def_hostile.specs.HostileText.{text}
use Rattle.test_hostile.specs.Lines.{lines}
use Rattle.def_kernel.specs.declared.node.Literal.TheVariants as literal
use Rattle.def_kernel.specs.declared.node.Node.{Node}
use Rattle.def_kernel.specs.declared.node.Node.TheVariants.{Call, Def, Final, Hide, If, Lit, Method, Noun, Object, Sequence, Try, Var}

unfoldable pub tree_1 : List Node
tree_1 =
    Sequence (1 ∷ 8 ∷ 21 ∷ 29 ∷ 36 ∷ 56 ∷ [])
    ∷ Def 2 None 3
    ∷ Var (codes "v3") None
    ∷ Hide 4
    ∷ Sequence (5 ∷ 6 ∷ [])
    ∷ Noun (codes "a")
    ∷ Call 7 (codes "run") []
    ∷ Noun (codes "__makeList")
    ∷ Try 9 17 18
    ∷ Call 10 (codes "sendOnly") (11 ∷ 12 ∷ 13 ∷ [])
    ∷ Noun (codes "E")
    ∷ Noun (codes "a")
    ∷ Lit (literal.Text (codes "put"))
    ∷ Call 14 (codes "run") (15 ∷ 16 ∷ [])
    ∷ Noun (codes "__makeList")
    ∷ Lit (literal.Char 10)
    ∷ Noun (codes "a")
    ∷ Final (codes "v3") None
    ∷ Call 19 (codes "broken") (20 ∷ [])
    ∷ Noun (codes "Ref")
    ∷ Lit (literal.Text (codes "bad"))
    ∷ Def 22 None 23
    ∷ Final (codes "v4") None
    ∷ Try 24 27 28
    ∷ Call 25 (codes "f") (26 ∷ [])
    ∷ Noun (codes "v3")
    ∷ Lit (literal.Int (pos 55296))
    ∷ Final (codes "q") None
    ∷ Lit (literal.Int (pos 1))
    ∷ Try 30 34 35
    ∷ Def 31 (Some 32) 33
    ∷ Final (codes "v5") None
    ∷ Noun (codes "null")
    ∷ Noun (codes "true")
    ∷ Final (codes "v3") None
    ∷ Noun (codes "v3")
    ∷ Try 37 54 55
    ∷ Try 38 52 53
    ∷ If 39 43 51
    ∷ Call 40 (codes "sameEver") (41 ∷ 42 ∷ [])
    ∷ Noun (codes "__equalizer")
    ∷ Lit (literal.Int (pos 2))
    ∷ Lit (literal.Int (pos 0))
    ∷ If 44 49 50
    ∷ Call 45 (codes "not") []
    ∷ Call 46 (codes "sameEver") (47 ∷ 48 ∷ [])
    ∷ Noun (codes "__equalizer")
    ∷ Lit (literal.Int (pos 6))
    ∷ Lit (literal.Int (pos 1000000007))
    ∷ Noun (codes "true")
    ∷ Noun (codes "false")
    ∷ Noun (codes "false")
    ∷ Final (codes "q") None
    ∷ Noun (codes "q")
    ∷ Final (codes "v6") None
    ∷ Noun (codes "v6")
    ∷ Object 57 [] (58 ∷ 65 ∷ 69 ∷ [])
    ∷ Final (codes "root") None
    ∷ Method (codes "get") (59 ∷ 60 ∷ []) 61
    ∷ Final (codes "v7") None
    ∷ Final (codes "v8") None
    ∷ Sequence (62 ∷ 63 ∷ 64 ∷ [])
    ∷ Lit (literal.Text (codes "f"))
    ∷ Noun (codes "v4")
    ∷ Noun (codes "v3")
    ∷ Method (codes "f") [] 66
    ∷ Sequence (67 ∷ 68 ∷ [])
    ∷ Noun (codes "true")
    ∷ Noun (codes "null")
    ∷ Method (codes "g") [] 70
    ∷ Sequence (71 ∷ 76 ∷ [])
    ∷ Sequence (72 ∷ 75 ∷ [])
    ∷ Call 73 (codes "broken") (74 ∷ [])
    ∷ Noun (codes "Ref")
    ∷ Lit (literal.Text (codes "f"))
    ∷ Lit (literal.Int (pos 65536))
    ∷ Noun (codes "null")
    ∷ []

unfoldable pub play : Play
play = record {
  script = record {
    key = (114 ∷ 57 ∷ 177 ∷ 0 ∷ 117 ∷ 183 ∷ 162 ∷ 59 ∷ 23 ∷ 35 ∷ 54 ∷ 99 ∷ 255 ∷ 195 ∷ 131 ∷ 74 ∷ 81 ∷ 129 ∷ 110 ∷ 166 ∷ 147 ∷ 80 ∷ 19 ∷ 212 ∷ 230 ∷ 92 ∷ 230 ∷ 128 ∷ 80 ∷ 28 ∷ 94 ∷ 164 ∷ []);
    fuel = 2472;
    depth = 400;
    vats =
        record { name = codes "a"; knows = (1 ∷ []); tree = [] } ∷
        record { name = codes "b"; knows = (0 ∷ []); tree = tree_1 } ∷
        [];
    schedule = [];
  };
  hostile = (0 ∷ []);
  doings = Does (Carry 1 0) ∷ Does (Carry 1 0) ∷ Injects 0 1 (6 ∷ 9 ∷ 1 ∷ 1 ∷ 103 ∷ 2 ∷ 13 ∷ 1 ∷ 56 ∷ 138 ∷ 194 ∷ 115 ∷ 131 ∷ 242 ∷ 156 ∷ 56 ∷ 79 ∷ 37 ∷ 7 ∷ 67 ∷ 104 ∷ 140 ∷ 195 ∷ 137 ∷ 11 ∷ 1 ∷ []) ∷ Does (Carry 0 1) ∷ [];
}

-- what is due of it
abbrev pub due : List ℕ
due = lines (
    codes "open b"
    ∷ codes "!0 list b%0"
    ∷ codes "!0 slot b&0 b%0"
    ∷ codes "!0 list b%1 '\\n' @a"
    ∷ codes "!0 sendonly b/0 @a put '\\n' @a"
    ∷ codes "!0 read b&0 b%0"
    ∷ codes "!0 call b%0 f 55296"
    ∷ codes "!0 thrown \"no method\""
    ∷ codes "!0 made b.0 root caps 1 b&0"
    ∷ codes "!0 done b.0"
    ∷ codes "settle @b b.0"
    ∷ codes "1 carry b a deliveronly b/0 @a put '\\n' @a"
    ∷ codes "2 carry b a settled @b b.0"
    ∷ codes "3 inject a b 0609010167020d01388ac27383f29c384f250743688cc3890b01"
    ∷ codes "4 carry a b malformed 7"
    ∷ codes "settle @a broken:\"partition\""
    ∷ codes "end"
    ∷ [])

abbrev pub Holds : Type 0
Holds = text play (acts play) ≡ due

unfoldable pub opened : Unit {0}
unfolding tree_1 play
opened = tt
