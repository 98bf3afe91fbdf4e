-- A word that an honest vat drew for its gift passes as one of a hostile provider too, twice in one frame and once more: another gift, which is asked for once.
use Rattle.std.specs.Prelude.{◌≡◌, ℕ, List, [], ◌∷◌, codes, None, pos}
use Rattle.def_run.specs.World.{Carry, Script, Turn}
use Rattle.def_hostile.specs.Hostile.{Play, Does, Injects, acts}
use Rattle.def_hostile.specs.HostileText.{text}
use Rattle.test_hostile.specs.Lines.{lines}
use Rattle.def_kernel.specs.declared.node.Literal.TheVariants as literal
use Rattle.def_kernel.specs.declared.node.Node.{Node}
use Rattle.def_kernel.specs.declared.node.Node.TheVariants.{Call, Final, Lit, Method, Noun, Object, Sequence}

unfoldable pub tree_0 : List Node
tree_0 =
    Sequence (1 ∷ 6 ∷ 13 ∷ []) ∷
    Object 2 [] (3 ∷ []) ∷
    Final (codes "o") None ∷
    Method (codes "put") (4 ∷ []) 5 ∷
    Final (codes "x") None ∷
    Lit (literal.Int (pos 0)) ∷
    Call 7 (codes "send") (8 ∷ 9 ∷ 10 ∷ []) ∷
    Noun (codes "E") ∷
    Noun (codes "h") ∷
    Lit (literal.Text (codes "take")) ∷
    Call 11 (codes "run") (12 ∷ []) ∷
    Noun (codes "__makeList") ∷
    Noun (codes "c") ∷
    Noun (codes "o") ∷
    []

unfoldable pub tree_2 : List Node
tree_2 =
    Object 1 [] (2 ∷ []) ∷
    Final (codes "o") None ∷
    Method (codes "g") [] 3 ∷
    Lit (literal.Int (pos 2)) ∷
    []

unfoldable pub play : Play
play = record {
  script = record {
    key = (0 ∷ 0 ∷ 0 ∷ 0 ∷ 0 ∷ 0 ∷ 0 ∷ 0 ∷ 0 ∷ 0 ∷ 0 ∷ 0 ∷ 0 ∷ 0 ∷ 0 ∷ 0 ∷ 0 ∷ 0 ∷ 0 ∷ 0 ∷ 0 ∷ 0 ∷ 0 ∷ 0 ∷ 0 ∷ 0 ∷ 0 ∷ 0 ∷ 0 ∷ 0 ∷ 0 ∷ 0 ∷ []);
    fuel = 1000000;
    depth = 400;
    vats =
        record { name = codes "a"; knows = (1 ∷ 2 ∷ []); tree = tree_0 } ∷
        record { name = codes "h"; knows = (0 ∷ 2 ∷ []); tree = [] } ∷
        record { name = codes "c"; knows = []; tree = tree_2 } ∷
        [];
    schedule = [];
  };
  hostile = (1 ∷ []);
  doings =
      Injects 1 0 (6 ∷ 9 ∷ 0 ∷ 3 ∷ 112 ∷ 117 ∷ 116 ∷ 2 ∷ 13 ∷ 2 ∷ 118 ∷ 184 ∷ 224 ∷ 173 ∷ 160 ∷ 241 ∷ 61 ∷ 144 ∷ 64 ∷ 93 ∷ 106 ∷ 229 ∷ 83 ∷ 134 ∷ 189 ∷ 40 ∷ 13 ∷ 2 ∷ 118 ∷ 184 ∷ 224 ∷ 173 ∷ 160 ∷ 241 ∷ 61 ∷ 144 ∷ 64 ∷ 93 ∷ 106 ∷ 229 ∷ 83 ∷ 134 ∷ 189 ∷ 40 ∷ []) ∷
      Does (Carry 2 0) ∷
      Does (Carry 1 0) ∷
      Does (Turn 0) ∷
      Injects 1 0 (6 ∷ 9 ∷ 0 ∷ 3 ∷ 112 ∷ 117 ∷ 116 ∷ 1 ∷ 13 ∷ 2 ∷ 118 ∷ 184 ∷ 224 ∷ 173 ∷ 160 ∷ 241 ∷ 61 ∷ 144 ∷ 64 ∷ 93 ∷ 106 ∷ 229 ∷ 83 ∷ 134 ∷ 189 ∷ 40 ∷ []) ∷
      Does (Carry 1 0) ∷
      Does (Turn 0) ∷
      [];
}

-- what is due of it
abbrev pub due : List ℕ
due = lines (
    codes "open a"
    ∷ codes "!0 made a.0 o"
    ∷ codes "!0 list a%0 @c"
    ∷ codes "!0 send a/0 @h take @c -> h?a/0"
    ∷ codes "!0 done a.0"
    ∷ codes "settle @a a.0"
    ∷ codes "open c"
    ∷ codes "!0 made c.0 o"
    ∷ codes "!0 done c.0"
    ∷ codes "settle @c c.0"
    ∷ codes "1 inject h a 06090003707574020d0276b8e0ada0f13d90405d6ae55386bd280d0276b8e0ada0f13d90405d6ae55386bd28"
    ∷ codes "2 carry c a settled @c c.0"
    ∷ codes "settle @c c.0"
    ∷ codes "3 carry h a deliveronly h/0 @a put c^h:76b8e0ada0f13d90405d6ae55386bd28 c^h:76b8e0ada0f13d90405d6ae55386bd28"
    ∷ codes "4 turn a"
    ∷ codes "!1 take h/0 a.0 put c^h:76b8e0ada0f13d90405d6ae55386bd28 c^h:76b8e0ada0f13d90405d6ae55386bd28"
    ∷ codes "!1 threw \"no method\""
    ∷ codes "5 inject h a 06090003707574010d0276b8e0ada0f13d90405d6ae55386bd28"
    ∷ codes "6 carry h a deliveronly h/1 @a put c^h:76b8e0ada0f13d90405d6ae55386bd28"
    ∷ codes "7 turn a"
    ∷ codes "!2 take h/1 a.0 put c^h:76b8e0ada0f13d90405d6ae55386bd28"
    ∷ codes "!2 done 0"
    ∷ codes "left link a h deliver a/0 @h take c^0"
    ∷ codes "left link a h settled @a a.0"
    ∷ codes "left link a c open c^0 @c"
    ∷ codes "left link a c ask c^h:76b8e0ada0f13d90405d6ae55386bd28 h"
    ∷ codes "left link c h settled @c c.0"
    ∷ codes "end"
    ∷ [])

abbrev pub Holds : Type 0
Holds = text play (acts play) ≡ due

unfoldable pub opened : Unit {0}
unfolding tree_0 tree_2 play
opened = tt
