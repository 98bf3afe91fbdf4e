-- A run with hostile vats, and its text.
use Rattle.std.specs.Prelude.{◌≡◌, ℕ, List, [], ◌∷◌, codes, None, pos}
use Rattle.def_run.specs.World.{Carry, Script}
use Rattle.def_hostile.specs.Hostile.{Play, Does, Injects, acts}
use Rattle.def_hostile.specs.HostileText.{text}
use Rattle.test_hostile.specs.Lines.{lines}
use Rattle.def_kernel.specs.declared.node.Literal.TheVariants as literal
use Rattle.def_kernel.specs.declared.node.Node.{Node}
use Rattle.def_kernel.specs.declared.node.Node.TheVariants.{Call, Final, Lit, Method, Noun, Object, Sequence, Try}

unfoldable pub tree_1 : List Node
tree_1 =
    Sequence (1 ∷ 9 ∷ 15 ∷ 33 ∷ [])
    ∷ Call 2 (codes "sendOnly") (3 ∷ 4 ∷ 5 ∷ [])
    ∷ Noun (codes "E")
    ∷ Noun (codes "a")
    ∷ Lit (literal.Text (codes "g"))
    ∷ Call 6 (codes "run") (7 ∷ 8 ∷ [])
    ∷ Noun (codes "__makeList")
    ∷ Noun (codes "a")
    ∷ Lit (literal.Int (pos 3))
    ∷ Try 10 13 14
    ∷ Call 11 (codes "and") (12 ∷ [])
    ∷ Lit (literal.Int (pos 1))
    ∷ Noun (codes "a")
    ∷ Final (codes "q") None
    ∷ Noun (codes "q")
    ∷ Try 16 31 32
    ∷ Try 17 26 27
    ∷ Try 18 21 22
    ∷ Sequence (19 ∷ 20 ∷ [])
    ∷ Lit (literal.Text (codes "no"))
    ∷ Noun (codes "a")
    ∷ Final (codes "v1") None
    ∷ Sequence (23 ∷ 24 ∷ 25 ∷ [])
    ∷ Noun (codes "a")
    ∷ Lit (literal.Text (codes "bad"))
    ∷ Noun (codes "a")
    ∷ Final (codes "v2") None
    ∷ Sequence (28 ∷ 29 ∷ 30 ∷ [])
    ∷ Noun (codes "v2")
    ∷ Noun (codes "a")
    ∷ Noun (codes "a")
    ∷ Final (codes "q") None
    ∷ Noun (codes "q")
    ∷ Object 34 [] (35 ∷ 42 ∷ 49 ∷ 54 ∷ [])
    ∷ Final (codes "root") None
    ∷ Method (codes "g") (36 ∷ []) 37
    ∷ Final (codes "v3") None
    ∷ Sequence (38 ∷ 41 ∷ [])
    ∷ Call 39 (codes "broken") (40 ∷ [])
    ∷ Noun (codes "Ref")
    ∷ Lit (literal.Text (codes "no"))
    ∷ Noun (codes "a")
    ∷ Method (codes "put") (43 ∷ []) 44
    ∷ Final (codes "v4") None
    ∷ Sequence (45 ∷ 48 ∷ [])
    ∷ Sequence (46 ∷ 47 ∷ [])
    ∷ Noun (codes "a")
    ∷ Noun (codes "a")
    ∷ Noun (codes "null")
    ∷ Method (codes "run") (50 ∷ []) 51
    ∷ Final (codes "v5") None
    ∷ Sequence (52 ∷ 53 ∷ [])
    ∷ Noun (codes "a")
    ∷ Noun (codes "List")
    ∷ Method (codes "get") (55 ∷ []) 56
    ∷ Final (codes "v6") None
    ∷ Noun (codes "null")
    ∷ []

unfoldable pub play : Play
play = record {
  script = record {
    key = (230 ∷ 233 ∷ 45 ∷ 127 ∷ 192 ∷ 6 ∷ 205 ∷ 87 ∷ 225 ∷ 34 ∷ 47 ∷ 64 ∷ 252 ∷ 228 ∷ 178 ∷ 171 ∷ 104 ∷ 85 ∷ 4 ∷ 218 ∷ 252 ∷ 33 ∷ 155 ∷ 184 ∷ 241 ∷ 203 ∷ 50 ∷ 98 ∷ 204 ∷ 154 ∷ 228 ∷ 37 ∷ []);
    fuel = 40000;
    depth = 400;
    vats =
        record { name = codes "a"; knows = []; tree = [] } ∷
        record { name = codes "b"; knows = (0 ∷ []); tree = tree_1 } ∷
        [];
    schedule = [];
  };
  hostile = (0 ∷ []);
  doings = Does (Carry 1 0) ∷ [];
}

-- what is due of it
abbrev pub due : List ℕ
due = lines (
    codes "open b"
    ∷ codes "!0 list b%0 @a 3"
    ∷ codes "!0 sendonly b/0 @a g @a 3"
    ∷ codes "!0 call 1 and @a"
    ∷ codes "!0 thrown \"not int\""
    ∷ codes "!0 made b.0 root caps @a"
    ∷ codes "!0 done b.0"
    ∷ codes "settle @b b.0"
    ∷ codes "1 carry b a deliveronly b/0 @a g @a 3"
    ∷ codes "end"
    ∷ [])

abbrev pub Holds : Type 0
Holds = text play (acts play) ≡ due

unfoldable pub opened : Unit {0}
unfolding tree_1 play
opened = tt
