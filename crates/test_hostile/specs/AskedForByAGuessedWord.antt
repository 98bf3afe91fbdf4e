-- A hostile vat asks for an honest vat's gift under a word that it was not shown, and is told of it as the one to whom it was given.
use Rattle.std.specs.Prelude.{◌≡◌, ℕ, List, [], ◌∷◌, codes, None, pos}
use Rattle.def_run.specs.World.{Carry, Script}
use Rattle.def_hostile.specs.Hostile.{Play, Does, Injects, acts}
use Rattle.def_hostile.specs.HostileText.{text}
use Rattle.test_hostile.specs.Lines.{lines}
use Rattle.def_kernel.specs.declared.node.Literal.TheVariants as literal
use Rattle.def_kernel.specs.declared.node.Node.{Node}
use Rattle.def_kernel.specs.declared.node.Node.TheVariants.{Call, Final, Lit, Method, Noun, Object, Sequence}

unfoldable pub tree_0 : List Node
tree_0 =
    Sequence (1 ∷ 8 ∷ []) ∷
    Call 2 (codes "send") (3 ∷ 4 ∷ 5 ∷ []) ∷
    Noun (codes "E") ∷
    Noun (codes "b") ∷
    Lit (literal.Text (codes "take")) ∷
    Call 6 (codes "run") (7 ∷ []) ∷
    Noun (codes "__makeList") ∷
    Noun (codes "c") ∷
    Lit (literal.Int (pos 0)) ∷
    []

unfoldable pub tree_1 : List Node
tree_1 =
    Object 1 [] (2 ∷ []) ∷
    Final (codes "o") None ∷
    Method (codes "take") (3 ∷ []) 4 ∷
    Final (codes "x") None ∷
    Noun (codes "x") ∷
    []

unfoldable pub tree_2 : List Node
tree_2 =
    Object 1 [] (2 ∷ []) ∷
    Final (codes "o") None ∷
    Method (codes "g") [] 3 ∷
    Lit (literal.Int (pos 2)) ∷
    []

unfoldable pub play : Play
play = record {
  script = record {
    key = (0 ∷ 0 ∷ 0 ∷ 0 ∷ 0 ∷ 0 ∷ 0 ∷ 0 ∷ 0 ∷ 0 ∷ 0 ∷ 0 ∷ 0 ∷ 0 ∷ 0 ∷ 0 ∷ 0 ∷ 0 ∷ 0 ∷ 0 ∷ 0 ∷ 0 ∷ 0 ∷ 0 ∷ 0 ∷ 0 ∷ 0 ∷ 0 ∷ 0 ∷ 0 ∷ 0 ∷ 0 ∷ []);
    fuel = 1000000;
    depth = 400;
    vats =
        record { name = codes "a"; knows = (1 ∷ 2 ∷ []); tree = tree_0 } ∷
        record { name = codes "b"; knows = []; tree = tree_1 } ∷
        record { name = codes "c"; knows = (3 ∷ []); tree = tree_2 } ∷
        record { name = codes "h"; knows = (2 ∷ []); tree = [] } ∷
        [];
    schedule = [];
  };
  hostile = (3 ∷ []);
  doings =
      Injects 3 2 (4 ∷ 0 ∷ 0 ∷ 118 ∷ 184 ∷ 224 ∷ 173 ∷ 160 ∷ 241 ∷ 61 ∷ 144 ∷ 64 ∷ 93 ∷ 106 ∷ 229 ∷ 83 ∷ 134 ∷ 189 ∷ 40 ∷ []) ∷
      Does (Carry 3 2) ∷
      Does (Carry 0 1) ∷
      Does (Carry 1 2) ∷
      Does (Carry 0 2) ∷
      [];
}

-- what is due of it
abbrev pub due : List ℕ
due = lines (
    codes "open a"
    ∷ codes "!0 list a%0 @c"
    ∷ codes "!0 send a/0 @b take @c -> b?a/0"
    ∷ codes "!0 done 0"
    ∷ codes "settle @a 0"
    ∷ codes "open b"
    ∷ codes "!0 made b.0 o"
    ∷ codes "!0 done b.0"
    ∷ codes "settle @b b.0"
    ∷ codes "open c"
    ∷ codes "!0 made c.0 o"
    ∷ codes "!0 done c.0"
    ∷ codes "settle @c c.0"
    ∷ codes "1 inject h c 04000076b8e0ada0f13d90405d6ae55386bd28"
    ∷ codes "2 carry h c ask c^0 a"
    ∷ codes "3 carry a b deliver a/0 @b take c^0"
    ∷ codes "4 carry b c ask c^0 a"
    ∷ codes "5 carry a c open c^0 @c"
    ∷ codes "settle c^0 c.0"
    ∷ codes "left queue b a/0"
    ∷ codes "left link b a settled @b b.0"
    ∷ codes "left link c a settled @c c.0"
    ∷ codes "left link c b settled c^0 c.0"
    ∷ codes "left link c h settled @c c.0"
    ∷ codes "left link c h settled c^0 c.0"
    ∷ codes "end"
    ∷ [])

abbrev pub Holds : Type 0
Holds = text play (acts play) ≡ due

unfoldable pub opened : Unit {0}
unfolding tree_0 tree_1 tree_2 play
opened = tt
