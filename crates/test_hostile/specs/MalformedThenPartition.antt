-- A run with hostile vats, and its text.
use Rattle.std.specs.Prelude.{◌≡◌, ℕ, List, [], ◌∷◌, codes, None, pos}
use Rattle.def_run.specs.World.{Carry, Turn, Script}
use Rattle.def_hostile.specs.Hostile.{Play, Does, Injects, acts}
use Rattle.def_hostile.specs.HostileText.{text}
use Rattle.test_hostile.specs.Lines.{lines}
use Rattle.def_kernel.specs.declared.node.Literal.TheVariants as literal
use Rattle.def_kernel.specs.declared.node.Node.{Node}
use Rattle.def_kernel.specs.declared.node.Node.TheVariants.{Any, Call, Final, Lit, Method, Noun, Object, Sequence, Try}

unfoldable pub tree_0 : List Node
tree_0 =
    Sequence (1 ∷ 8 ∷ [])
    ∷ Call 2 (codes "send") (3 ∷ 4 ∷ 5 ∷ [])
    ∷ Noun (codes "E")
    ∷ Noun (codes "h")
    ∷ Lit (literal.Text (codes "f"))
    ∷ Call 6 (codes "run") (7 ∷ [])
    ∷ Noun (codes "__makeList")
    ∷ Lit (literal.Int (pos 1))
    ∷ Call 9 (codes "whenResolved") (10 ∷ 11 ∷ [])
    ∷ Noun (codes "Ref")
    ∷ Noun (codes "h")
    ∷ Object 12 [] (13 ∷ [])
    ∷ Any None
    ∷ Method (codes "run") (14 ∷ []) 15
    ∷ Final (codes "__w") None
    ∷ Try 16 21 22
    ∷ Sequence (17 ∷ 20 ∷ [])
    ∷ Call 18 (codes "fulfillment") (19 ∷ [])
    ∷ Noun (codes "Ref")
    ∷ Noun (codes "__w")
    ∷ Lit (literal.Int (pos 1))
    ∷ Final (codes "e") None
    ∷ Noun (codes "e")
    ∷ []

unfoldable pub play : Play
play = record {
  script = record {
    key = (0 ∷ 0 ∷ 0 ∷ 0 ∷ 0 ∷ 0 ∷ 0 ∷ 0 ∷ 0 ∷ 0 ∷ 0 ∷ 0 ∷ 0 ∷ 0 ∷ 0 ∷ 0 ∷ 0 ∷ 0 ∷ 0 ∷ 0 ∷ 0 ∷ 0 ∷ 0 ∷ 0 ∷ 0 ∷ 0 ∷ 0 ∷ 0 ∷ 0 ∷ 0 ∷ 0 ∷ 0 ∷ []);
    fuel = 1000000;
    depth = 400;
    vats =
        record { name = codes "a"; knows = (1 ∷ []); tree = tree_0 } ∷
        record { name = codes "h"; knows = (0 ∷ []); tree = [] } ∷
        [];
    schedule = [];
  };
  hostile = (1 ∷ []);
  doings = Injects 1 0 (0 ∷ []) ∷ Does (Carry 0 1) ∷ Injects 1 0 (1 ∷ []) ∷ Does (Carry 1 0) ∷ Does (Turn 0) ∷ [];
}

-- what is due of it
abbrev pub due : List ℕ
due = lines (
    codes "open a"
    ∷ codes "!0 list a%0 1"
    ∷ codes "!0 send a/0 @h f 1 -> h?a/0"
    ∷ codes "!0 made a.0 _"
    ∷ codes "!0 when a/1 @h a.0 -> a?a/1"
    ∷ codes "!0 done a?a/1"
    ∷ codes "wait @a a?a/1"
    ∷ codes "1 inject h a 00"
    ∷ codes "2 carry a h deliver a/0 @h f 1"
    ∷ codes "3 inject h a 01"
    ∷ codes "4 carry h a malformed 0"
    ∷ codes "settle @h broken:\"partition\""
    ∷ codes "settle h?a/0 broken:\"partition\""
    ∷ codes "5 turn a"
    ∷ codes "!1 take a/1 a.0 run @h"
    ∷ codes "!1 done \"partition\""
    ∷ codes "settle a?a/1 \"partition\""
    ∷ codes "settle @a \"partition\""
    ∷ codes "end"
    ∷ [])

abbrev pub Holds : Type 0
Holds = text play (acts play) ≡ due

unfoldable pub opened : Unit {0}
unfolding tree_0 play
opened = tt
