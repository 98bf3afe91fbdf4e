-- A hostile vat tells two vats of one gift that it did not open: both ask for it, and it stays unopened.
use Rattle.std.specs.Prelude.{◌≡◌, ℕ, List, [], ◌∷◌, codes, None, pos}
use Rattle.def_run.specs.World.{Carry, Script}
use Rattle.def_hostile.specs.Hostile.{Play, Does, Injects, acts}
use Rattle.def_hostile.specs.HostileText.{text}
use Rattle.test_hostile.specs.Lines.{lines}
use Rattle.def_kernel.specs.declared.node.Literal.TheVariants as literal
use Rattle.def_kernel.specs.declared.node.Node.{Node}
use Rattle.def_kernel.specs.declared.node.Node.TheVariants.{Final, Lit, Method, Object}

unfoldable pub tree_0 : List Node
tree_0 =
    Object 1 [] (2 ∷ []) ∷
    Final (codes "o") None ∷
    Method (codes "put") (3 ∷ []) 4 ∷
    Final (codes "x") None ∷
    Lit (literal.Int (pos 0)) ∷
    []

unfoldable pub tree_1 : List Node
tree_1 =
    Object 1 [] (2 ∷ []) ∷
    Final (codes "o") None ∷
    Method (codes "put") (3 ∷ []) 4 ∷
    Final (codes "x") None ∷
    Lit (literal.Int (pos 0)) ∷
    []

unfoldable pub tree_3 : List Node
tree_3 =
    Object 1 [] (2 ∷ []) ∷
    Final (codes "o") None ∷
    Method (codes "g") [] 3 ∷
    Lit (literal.Int (pos 2)) ∷
    []

unfoldable pub play : Play
play = record {
  script = record {
    key = (0 ∷ 0 ∷ 0 ∷ 0 ∷ 0 ∷ 0 ∷ 0 ∷ 0 ∷ 0 ∷ 0 ∷ 0 ∷ 0 ∷ 0 ∷ 0 ∷ 0 ∷ 0 ∷ 0 ∷ 0 ∷ 0 ∷ 0 ∷ 0 ∷ 0 ∷ 0 ∷ 0 ∷ 0 ∷ 0 ∷ 0 ∷ 0 ∷ 0 ∷ 0 ∷ 0 ∷ 0 ∷ []);
    fuel = 1000000;
    depth = 400;
    vats =
        record { name = codes "a"; knows = (3 ∷ []); tree = tree_0 } ∷
        record { name = codes "b"; knows = (3 ∷ []); tree = tree_1 } ∷
        record { name = codes "h"; knows = (0 ∷ 1 ∷ 3 ∷ []); tree = [] } ∷
        record { name = codes "c"; knows = []; tree = tree_3 } ∷
        [];
    schedule = [];
  };
  hostile = (2 ∷ []);
  doings =
      Injects 2 0 (6 ∷ 9 ∷ 0 ∷ 3 ∷ 112 ∷ 117 ∷ 116 ∷ 1 ∷ 13 ∷ 3 ∷ 51 ∷ 51 ∷ 51 ∷ 51 ∷ 51 ∷ 51 ∷ 51 ∷ 51 ∷ 51 ∷ 51 ∷ 51 ∷ 51 ∷ 51 ∷ 51 ∷ 51 ∷ 51 ∷ []) ∷
      Injects 2 1 (6 ∷ 9 ∷ 0 ∷ 3 ∷ 112 ∷ 117 ∷ 116 ∷ 1 ∷ 13 ∷ 3 ∷ 51 ∷ 51 ∷ 51 ∷ 51 ∷ 51 ∷ 51 ∷ 51 ∷ 51 ∷ 51 ∷ 51 ∷ 51 ∷ 51 ∷ 51 ∷ 51 ∷ 51 ∷ 51 ∷ []) ∷
      Does (Carry 2 0) ∷
      Does (Carry 2 1) ∷
      Does (Carry 0 3) ∷
      Does (Carry 1 3) ∷
      [];
}

-- what is due of it
abbrev pub due : List ℕ
due = lines (
    codes "open a"
    ∷ codes "!0 made a.0 o"
    ∷ codes "!0 done a.0"
    ∷ codes "settle @a a.0"
    ∷ codes "open b"
    ∷ codes "!0 made b.0 o"
    ∷ codes "!0 done b.0"
    ∷ codes "settle @b b.0"
    ∷ codes "open c"
    ∷ codes "!0 made c.0 o"
    ∷ codes "!0 done c.0"
    ∷ codes "settle @c c.0"
    ∷ codes "1 inject h a 06090003707574010d0333333333333333333333333333333333"
    ∷ codes "2 inject h b 06090003707574010d0333333333333333333333333333333333"
    ∷ codes "3 carry h a deliveronly h/0 @a put c^h:33333333333333333333333333333333"
    ∷ codes "4 carry h b deliveronly h/1 @b put c^h:33333333333333333333333333333333"
    ∷ codes "5 carry a c ask c^h:33333333333333333333333333333333 h"
    ∷ codes "6 carry b c ask c^h:33333333333333333333333333333333 h"
    ∷ codes "left queue a h/0"
    ∷ codes "left queue b h/1"
    ∷ codes "left link a h settled @a a.0"
    ∷ codes "left link b h settled @b b.0"
    ∷ codes "left link c a settled @c c.0"
    ∷ codes "left link c b settled @c c.0"
    ∷ codes "left link c h settled @c c.0"
    ∷ codes "end"
    ∷ [])

abbrev pub Holds : Type 0
Holds = text play (acts play) ≡ due

unfoldable pub opened : Unit {0}
unfolding tree_0 tree_1 tree_3 play
opened = tt
