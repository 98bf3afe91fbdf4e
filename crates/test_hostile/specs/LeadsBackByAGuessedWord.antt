-- A name is elsewhere under the word that would be drawn, and that gift is known: it breaks with a cycle, and nothing is shortened or asked for.
use Rattle.std.specs.Prelude.{◌≡◌, ℕ, List, [], ◌∷◌, codes, None, pos}
use Rattle.def_run.specs.World.{Carry, Script}
use Rattle.def_hostile.specs.Hostile.{Play, Does, Injects, acts}
use Rattle.def_hostile.specs.HostileText.{text}
use Rattle.test_hostile.specs.Lines.{lines}
use Rattle.def_kernel.specs.declared.node.Literal.TheVariants as literal
use Rattle.def_kernel.specs.declared.node.Node.{Node}
use Rattle.def_kernel.specs.declared.node.Node.TheVariants.{Call, Final, Lit, Method, Noun, Object, Sequence}

unfoldable pub tree_0 : List Node
tree_0 =
    Sequence (1 ∷ 7 ∷ []) ∷
    Call 2 (codes "send") (3 ∷ 4 ∷ 5 ∷ []) ∷
    Noun (codes "E") ∷
    Noun (codes "h") ∷
    Lit (literal.Text (codes "f")) ∷
    Call 6 (codes "run") [] ∷
    Noun (codes "__makeList") ∷
    Lit (literal.Int (pos 0)) ∷
    []

unfoldable pub tree_2 : List Node
tree_2 =
    Object 1 [] (2 ∷ []) ∷
    Final (codes "o") None ∷
    Method (codes "g") [] 3 ∷
    Lit (literal.Int (pos 2)) ∷
    []

unfoldable pub play : Play
play = record {
  script = record {
    key = (0 ∷ 0 ∷ 0 ∷ 0 ∷ 0 ∷ 0 ∷ 0 ∷ 0 ∷ 0 ∷ 0 ∷ 0 ∷ 0 ∷ 0 ∷ 0 ∷ 0 ∷ 0 ∷ 0 ∷ 0 ∷ 0 ∷ 0 ∷ 0 ∷ 0 ∷ 0 ∷ 0 ∷ 0 ∷ 0 ∷ 0 ∷ 0 ∷ 0 ∷ 0 ∷ 0 ∷ 0 ∷ []);
    fuel = 1000000;
    depth = 400;
    vats =
        record { name = codes "a"; knows = (1 ∷ 2 ∷ []); tree = tree_0 } ∷
        record { name = codes "h"; knows = (0 ∷ 2 ∷ []); tree = [] } ∷
        record { name = codes "c"; knows = []; tree = tree_2 } ∷
        [];
    schedule = [];
  };
  hostile = (1 ∷ []);
  doings =
      Injects 1 0 (6 ∷ 9 ∷ 0 ∷ 1 ∷ 112 ∷ 1 ∷ 13 ∷ 2 ∷ 118 ∷ 184 ∷ 224 ∷ 173 ∷ 160 ∷ 241 ∷ 61 ∷ 144 ∷ 64 ∷ 93 ∷ 106 ∷ 229 ∷ 83 ∷ 134 ∷ 189 ∷ 40 ∷ []) ∷
      Does (Carry 1 0) ∷
      Injects 1 0 (2 ∷ 12 ∷ 0 ∷ 15 ∷ 2 ∷ []) ∷
      Does (Carry 1 0) ∷
      Does (Carry 0 2) ∷
      Does (Carry 2 0) ∷
      [];
}

-- what is due of it
abbrev pub due : List ℕ
due = lines (
    codes "open a"
    ∷ codes "!0 list a%0"
    ∷ codes "!0 send a/0 @h f -> h?a/0"
    ∷ codes "!0 done 0"
    ∷ codes "settle @a 0"
    ∷ codes "open c"
    ∷ codes "!0 made c.0 o"
    ∷ codes "!0 done c.0"
    ∷ codes "settle @c c.0"
    ∷ codes "1 inject h a 0609000170010d0276b8e0ada0f13d90405d6ae55386bd28"
    ∷ codes "2 carry h a deliveronly h/0 @a p c^h:76b8e0ada0f13d90405d6ae55386bd28"
    ∷ codes "3 inject h a 020c000f02"
    ∷ codes "4 carry h a elsewhere @h c"
    ∷ codes "settle @h broken:\"cycle\""
    ∷ codes "5 carry a c ask c^h:76b8e0ada0f13d90405d6ae55386bd28 h"
    ∷ codes "6 carry c a settled @c c.0"
    ∷ codes "settle @c c.0"
    ∷ codes "left queue a h/0"
    ∷ codes "left link a h deliver a/0 @h f"
    ∷ codes "left link a h settled @a 0"
    ∷ codes "left link c h settled @c c.0"
    ∷ codes "end"
    ∷ [])

abbrev pub Holds : Type 0
Holds = text play (acts play) ≡ due

unfoldable pub opened : Unit {0}
unfolding tree_0 tree_2 play
opened = tt
