-- Two opens of one gift stand on a link, the second since a hostile vat asked for it: a gift is opened once.
use Rattle.std.specs.Prelude.{◌≡◌, ℕ, List, [], ◌∷◌, codes, None, pos}
use Rattle.def_run.specs.World.{Carry, Script}
use Rattle.def_hostile.specs.Hostile.{Play, Does, Injects, acts}
use Rattle.def_hostile.specs.HostileText.{text}
use Rattle.test_hostile.specs.Lines.{lines}
use Rattle.def_kernel.specs.declared.node.Literal.TheVariants as literal
use Rattle.def_kernel.specs.declared.node.Node.{Node}
use Rattle.def_kernel.specs.declared.node.Node.TheVariants.{Call, Final, Lit, Method, Noun, Object, Sequence}

unfoldable pub tree_0 : List Node
tree_0 =
    Sequence (1 ∷ 5 ∷ 12 ∷ []) ∷
    Object 2 [] (3 ∷ []) ∷
    Final (codes "o") None ∷
    Method (codes "go") [] 4 ∷
    Lit (literal.Int (pos 0)) ∷
    Call 6 (codes "send") (7 ∷ 8 ∷ 9 ∷ []) ∷
    Noun (codes "E") ∷
    Noun (codes "h") ∷
    Lit (literal.Text (codes "take")) ∷
    Call 10 (codes "run") (11 ∷ []) ∷
    Noun (codes "__makeList") ∷
    Noun (codes "c") ∷
    Noun (codes "c") ∷
    []

unfoldable pub tree_2 : List Node
tree_2 =
    Object 1 [] (2 ∷ []) ∷
    Final (codes "o") None ∷
    Method (codes "g") [] 3 ∷
    Lit (literal.Int (pos 2)) ∷
    []

unfoldable pub play : Play
play = record {
  script = record {
    key = (0 ∷ 0 ∷ 0 ∷ 0 ∷ 0 ∷ 0 ∷ 0 ∷ 0 ∷ 0 ∷ 0 ∷ 0 ∷ 0 ∷ 0 ∷ 0 ∷ 0 ∷ 0 ∷ 0 ∷ 0 ∷ 0 ∷ 0 ∷ 0 ∷ 0 ∷ 0 ∷ 0 ∷ 0 ∷ 0 ∷ 0 ∷ 0 ∷ 0 ∷ 0 ∷ 0 ∷ 0 ∷ []);
    fuel = 1000000;
    depth = 400;
    vats =
        record { name = codes "a"; knows = (1 ∷ 2 ∷ []); tree = tree_0 } ∷
        record { name = codes "h"; knows = (0 ∷ 2 ∷ []); tree = [] } ∷
        record { name = codes "c"; knows = []; tree = tree_2 } ∷
        [];
    schedule = [];
  };
  hostile = (1 ∷ []);
  doings =
      Does (Carry 2 0) ∷
      Injects 1 0 (5 ∷ 9 ∷ 0 ∷ 118 ∷ 184 ∷ 224 ∷ 173 ∷ 160 ∷ 241 ∷ 61 ∷ 144 ∷ 64 ∷ 93 ∷ 106 ∷ 229 ∷ 83 ∷ 134 ∷ 189 ∷ 40 ∷ []) ∷
      Does (Carry 1 0) ∷
      Does (Carry 0 2) ∷
      Does (Carry 0 2) ∷
      [];
}

-- what is due of it
abbrev pub due : List ℕ
due = lines (
    codes "open a"
    ∷ codes "!0 made a.0 o"
    ∷ codes "!0 list a%0 @c"
    ∷ codes "!0 send a/0 @h take @c -> h?a/0"
    ∷ codes "!0 done @c"
    ∷ codes "wait @a @c"
    ∷ codes "open c"
    ∷ codes "!0 made c.0 o"
    ∷ codes "!0 done c.0"
    ∷ codes "settle @c c.0"
    ∷ codes "1 carry c a settled @c c.0"
    ∷ codes "settle @c c.0"
    ∷ codes "settle @a c.0"
    ∷ codes "2 inject h a 05090076b8e0ada0f13d90405d6ae55386bd28"
    ∷ codes "3 carry h a shorten @a c^0"
    ∷ codes "4 carry a c open c^0 @c"
    ∷ codes "settle c^0 c.0"
    ∷ codes "5 carry a c open c^0 c.0"
    ∷ codes "left link a h deliver a/0 @h take c^0"
    ∷ codes "left link a h elsewhere @a c"
    ∷ codes "left link c h settled @c c.0"
    ∷ codes "end"
    ∷ [])

abbrev pub Holds : Type 0
Holds = text play (acts play) ≡ due

unfoldable pub opened : Unit {0}
unfolding tree_0 tree_2 play
opened = tt
