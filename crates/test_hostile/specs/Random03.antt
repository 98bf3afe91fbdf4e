-- A run with hostile vats, and its text.
use Rattle.std.specs.Prelude.{◌≡◌, ℕ, List, [], ◌∷◌, codes, None, pos}
use Rattle.def_run.specs.World.{Carry, Script}
use Rattle.def_hostile.specs.Hostile.{Play, Does, Injects, acts}
use Rattle.def_hostile.specs.HostileText.{text}
use Rattle.test_hostile.specs.Lines.{lines}
use Rattle.def_kernel.specs.declared.node.Literal.TheVariants as literal
use Rattle.def_kernel.specs.declared.node.Node.{Node}
use Rattle.def_kernel.specs.declared.node.Node.TheVariants.{Any, Call, Def, Escape, Final, Lit, Method, Noun, Object, Sequence, Try}

unfoldable pub tree_1 : List Node
tree_1 =
    Sequence (1 ∷ 17 ∷ [])
    ∷ Try 2 15 16
    ∷ Call 3 (codes "negate") []
    ∷ Object 4 [] (5 ∷ [])
    ∷ Any None
    ∷ Method (codes "run") (6 ∷ 7 ∷ []) 8
    ∷ Final (codes "v1") None
    ∷ Final (codes "v2") None
    ∷ Sequence (9 ∷ 12 ∷ 14 ∷ [])
    ∷ Call 10 (codes "broken") (11 ∷ [])
    ∷ Noun (codes "Ref")
    ∷ Lit (literal.Text (codes "run"))
    ∷ Call 13 (codes "negate") []
    ∷ Lit (literal.Int (pos 8))
    ∷ Noun (codes "v1")
    ∷ Final (codes "q") None
    ∷ Noun (codes "q")
    ∷ Def 18 None 19
    ∷ Final (codes "v4") None
    ∷ Escape 20 21 None
    ∷ Final (codes "v3") None
    ∷ Noun (codes "v3")
    ∷ []

unfoldable pub play : Play
play = record {
  script = record {
    key = (46 ∷ 209 ∷ 65 ∷ 7 ∷ 245 ∷ 153 ∷ 59 ∷ 67 ∷ 124 ∷ 8 ∷ 0 ∷ 77 ∷ 206 ∷ 202 ∷ 204 ∷ 96 ∷ 34 ∷ 148 ∷ 177 ∷ 239 ∷ 92 ∷ 155 ∷ 12 ∷ 134 ∷ 30 ∷ 139 ∷ 87 ∷ 233 ∷ 58 ∷ 52 ∷ 43 ∷ 95 ∷ []);
    fuel = 40000;
    depth = 400;
    vats =
        record { name = codes "a"; knows = (1 ∷ []); tree = [] } ∷
        record { name = codes "b"; knows = []; tree = tree_1 } ∷
        [];
    schedule = [];
  };
  hostile = (0 ∷ []);
  doings = Injects 0 1 (1 ∷ 0 ∷ 10 ∷ 0 ∷ 7 ∷ 114 ∷ 101 ∷ 115 ∷ 111 ∷ 108 ∷ 118 ∷ 101 ∷ 1 ∷ 9 ∷ 0 ∷ []) ∷ Injects 0 1 (2 ∷ 14 ∷ 0 ∷ 15 ∷ 1 ∷ []) ∷ Does (Carry 1 0) ∷ Does (Carry 0 1) ∷ [];
}

-- what is due of it
abbrev pub due : List ℕ
due = lines (
    codes "open b"
    ∷ codes "!0 made b.0 _"
    ∷ codes "!0 call b.0 negate as !1"
    ∷ codes "!0 thrown \"no method\""
    ∷ codes "!0 ejector b.1"
    ∷ codes "!0 done b.1"
    ∷ codes "settle @b b.1"
    ∷ codes "1 inject a b 01000a00077265736f6c7665010900"
    ∷ codes "2 inject a b 020e000f01"
    ∷ codes "3 carry b a settled @b b.1"
    ∷ codes "4 carry a b malformed 3"
    ∷ codes "end"
    ∷ [])

abbrev pub Holds : Type 0
Holds = text play (acts play) ≡ due

unfoldable pub opened : Unit {0}
unfolding tree_1 play
opened = tt
