-- A malformed frame cuts and is noticed at its receiver; a vat that was told of a gift by the hostile vat asks the receiver for it all the same.
use Rattle.std.specs.Prelude.{◌≡◌, ℕ, List, [], ◌∷◌, codes, None}
use Rattle.def_run.specs.World.{Carry, Script, Turn}
use Rattle.def_hostile.specs.Hostile.{Play, Does, Injects, acts}
use Rattle.def_hostile.specs.HostileText.{text}
use Rattle.test_hostile.specs.Lines.{lines}
use Rattle.def_kernel.specs.declared.node.Literal.TheVariants as literal
use Rattle.def_kernel.specs.declared.node.Node.{Node}
use Rattle.def_kernel.specs.declared.node.Node.TheVariants.{Call, Final, Lit, Method, Noun, Object, Sequence}

unfoldable pub tree_0 : List Node
tree_0 =
    Sequence (1 ∷ 13 ∷ []) ∷
    Object 2 [] (3 ∷ []) ∷
    Final (codes "o") None ∷
    Method (codes "put") (4 ∷ []) 5 ∷
    Final (codes "x") None ∷
    Sequence (6 ∷ 12 ∷ []) ∷
    Call 7 (codes "send") (8 ∷ 9 ∷ 10 ∷ []) ∷
    Noun (codes "E") ∷
    Noun (codes "x") ∷
    Lit (literal.Text (codes "f")) ∷
    Call 11 (codes "run") [] ∷
    Noun (codes "__makeList") ∷
    Noun (codes "x") ∷
    Noun (codes "o") ∷
    []

unfoldable pub tree_1 : List Node
tree_1 =
    Sequence (1 ∷ 6 ∷ []) ∷
    Object 2 [] (3 ∷ []) ∷
    Final (codes "o") None ∷
    Method (codes "put") (4 ∷ []) 5 ∷
    Final (codes "x") None ∷
    Noun (codes "x") ∷
    Noun (codes "o") ∷
    []

unfoldable pub play : Play
play = record {
  script = record {
    key = (0 ∷ 0 ∷ 0 ∷ 0 ∷ 0 ∷ 0 ∷ 0 ∷ 0 ∷ 0 ∷ 0 ∷ 0 ∷ 0 ∷ 0 ∷ 0 ∷ 0 ∷ 0 ∷ 0 ∷ 0 ∷ 0 ∷ 0 ∷ 0 ∷ 0 ∷ 0 ∷ 0 ∷ 0 ∷ 0 ∷ 0 ∷ 0 ∷ 0 ∷ 0 ∷ 0 ∷ 0 ∷ []);
    fuel = 1000000;
    depth = 400;
    vats =
        record { name = codes "a"; knows = (1 ∷ []); tree = tree_0 } ∷
        record { name = codes "b"; knows = (0 ∷ []); tree = tree_1 } ∷
        record { name = codes "h"; knows = (0 ∷ 1 ∷ []); tree = [] } ∷
        [];
    schedule = [];
  };
  hostile = (2 ∷ []);
  doings =
      Injects 2 1 (6 ∷ 9 ∷ 0 ∷ 3 ∷ 112 ∷ 117 ∷ 116 ∷ 1 ∷ 13 ∷ 0 ∷ 34 ∷ 34 ∷ 34 ∷ 34 ∷ 34 ∷ 34 ∷ 34 ∷ 34 ∷ 34 ∷ 34 ∷ 34 ∷ 34 ∷ 34 ∷ 34 ∷ 34 ∷ 34 ∷ []) ∷
      Does (Carry 2 1) ∷
      Does (Turn 1) ∷
      Does (Carry 1 0) ∷
      Injects 2 0 (1 ∷ []) ∷
      Does (Carry 2 0) ∷
      Does (Carry 0 1) ∷
      Does (Carry 0 1) ∷
      Does (Carry 0 1) ∷
      Injects 2 0 (1 ∷ []) ∷
      [];
}

-- what is due of it
abbrev pub due : List ℕ
due = lines (
    codes "open a"
    ∷ codes "!0 made a.0 o"
    ∷ codes "!0 done a.0"
    ∷ codes "settle @a a.0"
    ∷ codes "open b"
    ∷ codes "!0 made b.0 o"
    ∷ codes "!0 done b.0"
    ∷ codes "settle @b b.0"
    ∷ codes "1 inject h b 06090003707574010d0022222222222222222222222222222222"
    ∷ codes "2 carry h b deliveronly h/0 @b put a^h:22222222222222222222222222222222"
    ∷ codes "3 turn b"
    ∷ codes "!1 take h/0 b.0 put a^h:22222222222222222222222222222222"
    ∷ codes "!1 done a^h:22222222222222222222222222222222"
    ∷ codes "4 carry b a settled @b b.0"
    ∷ codes "settle @b b.0"
    ∷ codes "5 inject h a 01"
    ∷ codes "6 carry h a malformed 1"
    ∷ codes "7 carry a b settled @a a.0"
    ∷ codes "settle @a a.0"
    ∷ codes "8 idle"
    ∷ codes "9 idle"
    ∷ codes "10 inject h a cut"
    ∷ codes "left link b a ask a^h:22222222222222222222222222222222 h"
    ∷ codes "left link b h settled @b b.0"
    ∷ codes "end"
    ∷ [])

abbrev pub Holds : Type 0
Holds = text play (acts play) ≡ due

unfoldable pub opened : Unit {0}
unfolding tree_0 tree_1 play
opened = tt
