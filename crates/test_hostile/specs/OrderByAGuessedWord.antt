-- A hostile vat says the word of the next draw: that gift is opened for another name first, so a message goes before one that was sent earlier.
use Rattle.std.specs.Prelude.{◌≡◌, ℕ, List, [], ◌∷◌, codes, None, pos}
use Rattle.def_run.specs.World.{Carry, Script, Turn}
use Rattle.def_hostile.specs.Hostile.{Play, Does, Injects, acts}
use Rattle.def_hostile.specs.HostileText.{text}
use Rattle.test_hostile.specs.Lines.{lines}
use Rattle.def_kernel.specs.declared.node.Literal.TheVariants as literal
use Rattle.def_kernel.specs.declared.node.Node.{Node}
use Rattle.def_kernel.specs.declared.node.Node.TheVariants.{Call, Def, Final, Lit, Method, Noun, Object, Sequence}

unfoldable pub tree_0 : List Node
tree_0 =
    Sequence (1 ∷ 26 ∷ 32 ∷ []) ∷
    Object 2 [] (3 ∷ []) ∷
    Final (codes "o") None ∷
    Method (codes "go") [] 4 ∷
    Sequence (5 ∷ 13 ∷ 19 ∷ []) ∷
    Def 6 None 7 ∷
    Final (codes "y") None ∷
    Call 8 (codes "send") (9 ∷ 10 ∷ 11 ∷ []) ∷
    Noun (codes "E") ∷
    Noun (codes "c") ∷
    Lit (literal.Text (codes "get")) ∷
    Call 12 (codes "run") [] ∷
    Noun (codes "__makeList") ∷
    Call 14 (codes "send") (15 ∷ 16 ∷ 17 ∷ []) ∷
    Noun (codes "E") ∷
    Noun (codes "y") ∷
    Lit (literal.Text (codes "f")) ∷
    Call 18 (codes "run") [] ∷
    Noun (codes "__makeList") ∷
    Call 20 (codes "send") (21 ∷ 22 ∷ 23 ∷ []) ∷
    Noun (codes "E") ∷
    Noun (codes "b") ∷
    Lit (literal.Text (codes "take")) ∷
    Call 24 (codes "run") (25 ∷ []) ∷
    Noun (codes "__makeList") ∷
    Noun (codes "y") ∷
    Call 27 (codes "send") (28 ∷ 29 ∷ 30 ∷ []) ∷
    Noun (codes "E") ∷
    Noun (codes "o") ∷
    Lit (literal.Text (codes "go")) ∷
    Call 31 (codes "run") [] ∷
    Noun (codes "__makeList") ∷
    Noun (codes "c") ∷
    []

unfoldable pub tree_1 : List Node
tree_1 =
    Object 1 [] (2 ∷ []) ∷
    Final (codes "o") None ∷
    Method (codes "take") (3 ∷ []) 4 ∷
    Final (codes "x") None ∷
    Call 5 (codes "send") (6 ∷ 7 ∷ 8 ∷ []) ∷
    Noun (codes "E") ∷
    Noun (codes "x") ∷
    Lit (literal.Text (codes "g")) ∷
    Call 9 (codes "run") [] ∷
    Noun (codes "__makeList") ∷
    []

unfoldable pub tree_2 : List Node
tree_2 =
    Object 1 [] (2 ∷ 11 ∷ []) ∷
    Final (codes "o") None ∷
    Method (codes "get") [] 3 ∷
    Sequence (4 ∷ 10 ∷ []) ∷
    Object 5 [] (6 ∷ 8 ∷ []) ∷
    Final (codes "p") None ∷
    Method (codes "f") [] 7 ∷
    Lit (literal.Int (pos 1)) ∷
    Method (codes "g") [] 9 ∷
    Lit (literal.Int (pos 3)) ∷
    Noun (codes "p") ∷
    Method (codes "g") [] 12 ∷
    Lit (literal.Int (pos 2)) ∷
    []

unfoldable pub play : Play
play = record {
  script = record {
    key = (0 ∷ 0 ∷ 0 ∷ 0 ∷ 0 ∷ 0 ∷ 0 ∷ 0 ∷ 0 ∷ 0 ∷ 0 ∷ 0 ∷ 0 ∷ 0 ∷ 0 ∷ 0 ∷ 0 ∷ 0 ∷ 0 ∷ 0 ∷ 0 ∷ 0 ∷ 0 ∷ 0 ∷ 0 ∷ 0 ∷ 0 ∷ 0 ∷ 0 ∷ 0 ∷ 0 ∷ 0 ∷ []);
    fuel = 1000000;
    depth = 400;
    vats =
        record { name = codes "a"; knows = (2 ∷ 1 ∷ []); tree = tree_0 } ∷
        record { name = codes "b"; knows = []; tree = tree_1 } ∷
        record { name = codes "c"; knows = []; tree = tree_2 } ∷
        record { name = codes "h"; knows = (0 ∷ []); tree = [] } ∷
        [];
    schedule = [];
  };
  hostile = (3 ∷ []);
  doings =
      Does (Carry 2 0) ∷
      Does (Carry 1 0) ∷
      Injects 3 0 (5 ∷ 9 ∷ 0 ∷ 118 ∷ 184 ∷ 224 ∷ 173 ∷ 160 ∷ 241 ∷ 61 ∷ 144 ∷ 64 ∷ 93 ∷ 106 ∷ 229 ∷ 83 ∷ 134 ∷ 189 ∷ 40 ∷ []) ∷
      Does (Carry 3 0) ∷
      Does (Turn 0) ∷
      Does (Carry 0 1) ∷
      Does (Turn 1) ∷
      Does (Carry 0 2) ∷
      Does (Carry 0 2) ∷
      Does (Carry 1 2) ∷
      Does (Carry 1 2) ∷
      Does (Turn 2) ∷
      Does (Turn 2) ∷
      Does (Turn 2) ∷
      Does (Carry 0 2) ∷
      Does (Carry 0 2) ∷
      Does (Turn 2) ∷
      [];
}

-- what is due of it
abbrev pub due : List ℕ
due = lines (
    codes "open a"
    ∷ codes "!0 made a.0 o caps @c @b"
    ∷ codes "!0 list a%0"
    ∷ codes "!0 send a/0 a.0 go -> a?a/0"
    ∷ codes "!0 done @c"
    ∷ codes "wait @a @c"
    ∷ codes "open b"
    ∷ codes "!0 made b.0 o"
    ∷ codes "!0 done b.0"
    ∷ codes "settle @b b.0"
    ∷ codes "open c"
    ∷ codes "!0 made c.0 o"
    ∷ codes "!0 done c.0"
    ∷ codes "settle @c c.0"
    ∷ codes "1 carry c a settled @c c.0"
    ∷ codes "settle @c c.0"
    ∷ codes "settle @a c.0"
    ∷ codes "2 carry b a settled @b b.0"
    ∷ codes "settle @b b.0"
    ∷ codes "3 inject h a 05090076b8e0ada0f13d90405d6ae55386bd28"
    ∷ codes "4 carry h a shorten @a c^a:76b8e0ada0f13d90405d6ae55386bd28"
    ∷ codes "5 turn a"
    ∷ codes "!1 take a/0 a.0 go"
    ∷ codes "!1 list a%1"
    ∷ codes "!1 send a/1 @c get -> c?a/1"
    ∷ codes "!1 list a%2"
    ∷ codes "!1 send a/2 c?a/1 f -> c?a/2"
    ∷ codes "!1 list a%3 c?a/1"
    ∷ codes "!1 send a/3 @b take c?a/1 -> b?a/3"
    ∷ codes "!1 done b?a/3"
    ∷ codes "wait a?a/0 b?a/3"
    ∷ codes "6 carry a b deliver a/3 b.0 take c^a:76b8e0ada0f13d90405d6ae55386bd28"
    ∷ codes "7 turn b"
    ∷ codes "!1 take a/3 b.0 take c^a:76b8e0ada0f13d90405d6ae55386bd28"
    ∷ codes "!1 list b%0"
    ∷ codes "!1 send b/0 c^a:76b8e0ada0f13d90405d6ae55386bd28 g -> c?b/0"
    ∷ codes "!1 done c?b/0"
    ∷ codes "wait b?a/3 c?b/0"
    ∷ codes "8 carry a c open c^a:76b8e0ada0f13d90405d6ae55386bd28 c.0"
    ∷ codes "settle c^a:76b8e0ada0f13d90405d6ae55386bd28 c.0"
    ∷ codes "9 carry a c deliver a/1 c.0 get"
    ∷ codes "10 carry b c ask c^a:76b8e0ada0f13d90405d6ae55386bd28 a"
    ∷ codes "11 carry b c deliver b/0 c^a:76b8e0ada0f13d90405d6ae55386bd28 g"
    ∷ codes "12 turn c"
    ∷ codes "!1 take a/1 c.0 get"
    ∷ codes "!1 made c.1 p"
    ∷ codes "!1 done c.1"
    ∷ codes "settle c?a/1 c.1"
    ∷ codes "13 turn c"
    ∷ codes "!2 take b/0 c.0 g"
    ∷ codes "!2 done 2"
    ∷ codes "settle c?b/0 2"
    ∷ codes "14 idle"
    ∷ codes "15 carry a c deliver a/2 c?a/1 f"
    ∷ codes "16 carry a c open c^a:76b8e0ada0f13d90405d6ae55386bd28 c?a/1"
    ∷ codes "17 turn c"
    ∷ codes "!3 take a/2 c.1 f"
    ∷ codes "!3 done 1"
    ∷ codes "settle c?a/2 1"
    ∷ codes "left link a h elsewhere @a c"
    ∷ codes "left link c a settled c?a/1 c.1"
    ∷ codes "left link c a settled c?a/2 1"
    ∷ codes "left link c b settled c^a:76b8e0ada0f13d90405d6ae55386bd28 c.0"
    ∷ codes "left link c b settled c?b/0 2"
    ∷ codes "end"
    ∷ [])

abbrev pub Holds : Type 0
Holds = text play (acts play) ≡ due

unfoldable pub opened : Unit {0}
unfolding tree_0 tree_1 tree_2 play
opened = tt
