-- A name that settles to a list in which it stands breaks with a cycle, and the list is there.
use Rattle.std.specs.Prelude.{◌≡◌, ℕ, List, [], ◌∷◌, codes, None, pos}
use Rattle.def_run.specs.World.{Carry, Script, Turn}
use Rattle.def_hostile.specs.Hostile.{Play, Does, Injects, acts}
use Rattle.def_hostile.specs.HostileText.{text}
use Rattle.test_hostile.specs.Lines.{lines}
use Rattle.def_kernel.specs.declared.node.Literal.TheVariants as literal
use Rattle.def_kernel.specs.declared.node.Node.{Node}
use Rattle.def_kernel.specs.declared.node.Node.TheVariants.{Call, Def, Final, ListPattern, Lit, Method, Noun, Object, Sequence}

unfoldable pub tree_0 : List Node
tree_0 =
    Sequence (1 ∷ 7 ∷ 14 ∷ []) ∷
    Def 2 None 5 ∷
    ListPattern (3 ∷ 4 ∷ []) ∷
    Final (codes "p") None ∷
    Final (codes "r") None ∷
    Call 6 (codes "promise") [] ∷
    Noun (codes "Ref") ∷
    Object 8 [] (9 ∷ []) ∷
    Final (codes "o") None ∷
    Method (codes "put") (10 ∷ []) 11 ∷
    Final (codes "x") None ∷
    Call 12 (codes "resolve") (13 ∷ []) ∷
    Noun (codes "r") ∷
    Noun (codes "x") ∷
    Call 15 (codes "run") (16 ∷ 17 ∷ []) ∷
    Noun (codes "__makeList") ∷
    Noun (codes "h") ∷
    Noun (codes "p") ∷
    []

unfoldable pub tree_2 : List Node
tree_2 =
    Object 1 [] (2 ∷ []) ∷
    Final (codes "o") None ∷
    Method (codes "g") [] 3 ∷
    Lit (literal.Int (pos 2)) ∷
    []

unfoldable pub play : Play
play = record {
  script = record {
    key = (0 ∷ 0 ∷ 0 ∷ 0 ∷ 0 ∷ 0 ∷ 0 ∷ 0 ∷ 0 ∷ 0 ∷ 0 ∷ 0 ∷ 0 ∷ 0 ∷ 0 ∷ 0 ∷ 0 ∷ 0 ∷ 0 ∷ 0 ∷ 0 ∷ 0 ∷ 0 ∷ 0 ∷ 0 ∷ 0 ∷ 0 ∷ 0 ∷ 0 ∷ 0 ∷ 0 ∷ 0 ∷ []);
    fuel = 1000000;
    depth = 400;
    vats =
        record { name = codes "a"; knows = (1 ∷ 2 ∷ []); tree = tree_0 } ∷
        record { name = codes "h"; knows = (0 ∷ 2 ∷ []); tree = [] } ∷
        record { name = codes "c"; knows = []; tree = tree_2 } ∷
        [];
    schedule = [];
  };
  hostile = (1 ∷ []);
  doings =
      Injects 1 0 (2 ∷ 12 ∷ 0 ∷ 6 ∷ 2 ∷ 12 ∷ 0 ∷ 9 ∷ 0 ∷ []) ∷
      Does (Carry 1 0) ∷
      Injects 1 0 (6 ∷ 9 ∷ 0 ∷ 3 ∷ 112 ∷ 117 ∷ 116 ∷ 1 ∷ 6 ∷ 1 ∷ 12 ∷ 0 ∷ []) ∷
      Does (Carry 1 0) ∷
      Does (Turn 0) ∷
      Does (Turn 0) ∷
      Does (Carry 0 1) ∷
      Does (Carry 0 1) ∷
      [];
}

-- what is due of it
abbrev pub due : List ℕ
due = lines (
    codes "open a"
    ∷ codes "!0 promise a~0 a.0"
    ∷ codes "!0 list a%0 a~0 a.0"
    ∷ codes "!0 made a.1 o caps a.0"
    ∷ codes "!0 list a%1 @h a~0"
    ∷ codes "!0 done a%1"
    ∷ codes "settle @a a%1"
    ∷ codes "open c"
    ∷ codes "!0 made c.0 o"
    ∷ codes "!0 done c.0"
    ∷ codes "settle @c c.0"
    ∷ codes "1 inject h a 020c0006020c000900"
    ∷ codes "2 carry h a settled @h [@h @a]"
    ∷ codes "list a%2 @h @a"
    ∷ codes "settle @h broken:\"cycle\""
    ∷ codes "3 inject h a 060900037075740106010c00"
    ∷ codes "4 carry h a deliveronly h/0 @a put [@h]"
    ∷ codes "list a%3 @h"
    ∷ codes "5 turn a"
    ∷ codes "!1 take h/0 a%1 put a%3"
    ∷ codes "!1 threw \"no method\""
    ∷ codes "6 idle"
    ∷ codes "7 carry a h settled @a [@h a~0]"
    ∷ codes "8 idle"
    ∷ codes "left link c a settled @c c.0"
    ∷ codes "left link c h settled @c c.0"
    ∷ codes "end"
    ∷ [])

abbrev pub Holds : Type 0
Holds = text play (acts play) ≡ due

unfoldable pub opened : Unit {0}
unfolding tree_0 tree_2 play
opened = tt
