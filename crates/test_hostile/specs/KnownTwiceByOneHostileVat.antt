-- A vat knows a gift by a position and as a gift, of one hostile provider; its host tells it once, and what was sent on the other entry stays unsettled.
use Rattle.std.specs.Prelude.{◌≡◌, ℕ, List, [], ◌∷◌, codes, None, pos}
use Rattle.def_run.specs.World.{Carry, Script, Turn}
use Rattle.def_hostile.specs.Hostile.{Play, Does, Injects, acts}
use Rattle.def_hostile.specs.HostileText.{text}
use Rattle.test_hostile.specs.Lines.{lines}
use Rattle.def_kernel.specs.declared.node.Literal.TheVariants as literal
use Rattle.def_kernel.specs.declared.node.Node.{Node}
use Rattle.def_kernel.specs.declared.node.Node.TheVariants.{Call, Final, Lit, Method, Noun, Object, Sequence}

unfoldable pub tree_0 : List Node
tree_0 =
    Sequence (1 ∷ 11 ∷ []) ∷
    Object 2 [] (3 ∷ []) ∷
    Final (codes "o") None ∷
    Method (codes "put") (4 ∷ []) 5 ∷
    Final (codes "x") None ∷
    Call 6 (codes "send") (7 ∷ 8 ∷ 9 ∷ []) ∷
    Noun (codes "E") ∷
    Noun (codes "x") ∷
    Lit (literal.Text (codes "f")) ∷
    Call 10 (codes "run") [] ∷
    Noun (codes "__makeList") ∷
    Noun (codes "o") ∷
    []

unfoldable pub tree_1 : List Node
tree_1 =
    Sequence (1 ∷ 12 ∷ []) ∷
    Object 2 [] (3 ∷ []) ∷
    Final (codes "o") None ∷
    Method (codes "put") (4 ∷ []) 5 ∷
    Final (codes "x") None ∷
    Call 6 (codes "send") (7 ∷ 8 ∷ 9 ∷ []) ∷
    Noun (codes "E") ∷
    Noun (codes "c") ∷
    Lit (literal.Text (codes "put")) ∷
    Call 10 (codes "run") (11 ∷ []) ∷
    Noun (codes "__makeList") ∷
    Noun (codes "x") ∷
    Noun (codes "o") ∷
    []

unfoldable pub tree_2 : List Node
tree_2 =
    Sequence (1 ∷ 14 ∷ []) ∷
    Object 2 [] (3 ∷ 12 ∷ []) ∷
    Final (codes "o") None ∷
    Method (codes "put") (4 ∷ []) 5 ∷
    Final (codes "x") None ∷
    Call 6 (codes "send") (7 ∷ 8 ∷ 9 ∷ []) ∷
    Noun (codes "E") ∷
    Noun (codes "a") ∷
    Lit (literal.Text (codes "put")) ∷
    Call 10 (codes "run") (11 ∷ []) ∷
    Noun (codes "__makeList") ∷
    Noun (codes "x") ∷
    Method (codes "f") [] 13 ∷
    Lit (literal.Int (pos 7)) ∷
    Noun (codes "o") ∷
    []

unfoldable pub play : Play
play = record {
  script = record {
    key = (0 ∷ 0 ∷ 0 ∷ 0 ∷ 0 ∷ 0 ∷ 0 ∷ 0 ∷ 0 ∷ 0 ∷ 0 ∷ 0 ∷ 0 ∷ 0 ∷ 0 ∷ 0 ∷ 0 ∷ 0 ∷ 0 ∷ 0 ∷ 0 ∷ 0 ∷ 0 ∷ 0 ∷ 0 ∷ 0 ∷ 0 ∷ 0 ∷ 0 ∷ 0 ∷ 0 ∷ 0 ∷ []);
    fuel = 1000000;
    depth = 400;
    vats =
        record { name = codes "a"; knows = (1 ∷ []); tree = tree_0 } ∷
        record { name = codes "b"; knows = (2 ∷ []); tree = tree_1 } ∷
        record { name = codes "c"; knows = (0 ∷ []); tree = tree_2 } ∷
        record { name = codes "h"; knows = (0 ∷ 1 ∷ 2 ∷ []); tree = [] } ∷
        [];
    schedule = [];
  };
  hostile = (3 ∷ []);
  doings =
      Injects 3 1 (6 ∷ 9 ∷ 0 ∷ 3 ∷ 112 ∷ 117 ∷ 116 ∷ 1 ∷ 13 ∷ 2 ∷ 17 ∷ 17 ∷ 17 ∷ 17 ∷ 17 ∷ 17 ∷ 17 ∷ 17 ∷ 17 ∷ 17 ∷ 17 ∷ 17 ∷ 17 ∷ 17 ∷ 17 ∷ 17 ∷ []) ∷
      Does (Carry 3 1) ∷
      Does (Turn 1) ∷
      Does (Carry 1 2) ∷
      Does (Carry 1 2) ∷
      Does (Turn 2) ∷
      Does (Turn 2) ∷
      Does (Carry 2 0) ∷
      Does (Carry 2 0) ∷
      Does (Turn 0) ∷
      Injects 3 0 (6 ∷ 9 ∷ 0 ∷ 3 ∷ 112 ∷ 117 ∷ 116 ∷ 1 ∷ 13 ∷ 2 ∷ 17 ∷ 17 ∷ 17 ∷ 17 ∷ 17 ∷ 17 ∷ 17 ∷ 17 ∷ 17 ∷ 17 ∷ 17 ∷ 17 ∷ 17 ∷ 17 ∷ 17 ∷ 17 ∷ []) ∷
      Does (Carry 3 0) ∷
      Does (Turn 0) ∷
      Does (Turn 0) ∷
      Does (Carry 0 2) ∷
      Does (Carry 0 2) ∷
      Does (Carry 0 2) ∷
      Injects 3 2 (3 ∷ 9 ∷ 0 ∷ 17 ∷ 17 ∷ 17 ∷ 17 ∷ 17 ∷ 17 ∷ 17 ∷ 17 ∷ 17 ∷ 17 ∷ 17 ∷ 17 ∷ 17 ∷ 17 ∷ 17 ∷ 17 ∷ []) ∷
      Does (Carry 3 2) ∷
      Does (Turn 2) ∷
      Does (Turn 2) ∷
      Does (Carry 2 0) ∷
      Does (Carry 2 0) ∷
      Does (Carry 2 0) ∷
      [];
}

-- what is due of it
abbrev pub due : List ℕ
due = lines (
    codes "open a"
    ∷ codes "!0 made a.0 o"
    ∷ codes "!0 done a.0"
    ∷ codes "settle @a a.0"
    ∷ codes "open b"
    ∷ codes "!0 made b.0 o caps @c"
    ∷ codes "!0 done b.0"
    ∷ codes "settle @b b.0"
    ∷ codes "open c"
    ∷ codes "!0 made c.0 o caps @a"
    ∷ codes "!0 done c.0"
    ∷ codes "settle @c c.0"
    ∷ codes "1 inject h b 06090003707574010d0211111111111111111111111111111111"
    ∷ codes "2 carry h b deliveronly h/0 @b put c^h:11111111111111111111111111111111"
    ∷ codes "3 turn b"
    ∷ codes "!1 take h/0 b.0 put c^h:11111111111111111111111111111111"
    ∷ codes "!1 list b%0 c^h:11111111111111111111111111111111"
    ∷ codes "!1 send b/0 @c put c^h:11111111111111111111111111111111 -> c?b/0"
    ∷ codes "!1 done c?b/0"
    ∷ codes "4 carry b c ask c^h:11111111111111111111111111111111 h"
    ∷ codes "5 carry b c deliver b/0 @c put c^h:11111111111111111111111111111111"
    ∷ codes "6 turn c"
    ∷ codes "!1 take b/0 c.0 put c^h:11111111111111111111111111111111"
    ∷ codes "!1 list c%0 c^h:11111111111111111111111111111111"
    ∷ codes "!1 send c/0 @a put c^h:11111111111111111111111111111111 -> a?c/0"
    ∷ codes "!1 done a?c/0"
    ∷ codes "wait c?b/0 a?c/0"
    ∷ codes "7 idle"
    ∷ codes "8 carry c a deliver c/0 @a put c^h:11111111111111111111111111111111"
    ∷ codes "9 idle"
    ∷ codes "10 turn a"
    ∷ codes "!1 take c/0 a.0 put c^h:11111111111111111111111111111111"
    ∷ codes "!1 list a%0"
    ∷ codes "!1 send a/0 c^h:11111111111111111111111111111111 f -> c?a/0"
    ∷ codes "!1 done c?a/0"
    ∷ codes "wait a?c/0 c?a/0"
    ∷ codes "11 inject h a 06090003707574010d0211111111111111111111111111111111"
    ∷ codes "12 carry h a deliveronly h/1 @a put c^h:11111111111111111111111111111111"
    ∷ codes "13 turn a"
    ∷ codes "!2 take h/1 a.0 put c^h:11111111111111111111111111111111"
    ∷ codes "!2 list a%1"
    ∷ codes "!2 send a/1 c^h:11111111111111111111111111111111 f -> c?a/1"
    ∷ codes "!2 done c?a/1"
    ∷ codes "14 idle"
    ∷ codes "15 carry a c settled @a a.0"
    ∷ codes "settle @a a.0"
    ∷ codes "16 carry a c deliver a/0 c^h:11111111111111111111111111111111 f"
    ∷ codes "17 carry a c ask c^h:11111111111111111111111111111111 h"
    ∷ codes "18 inject h c 03090011111111111111111111111111111111"
    ∷ codes "19 carry h c open c^h:11111111111111111111111111111111 @c"
    ∷ codes "settle c^h:11111111111111111111111111111111 c.0"
    ∷ codes "20 turn c"
    ∷ codes "!2 take a/0 c.0 f"
    ∷ codes "!2 done 7"
    ∷ codes "settle c?a/0 7"
    ∷ codes "21 idle"
    ∷ codes "22 carry c a settled c^h:11111111111111111111111111111111 c.0"
    ∷ codes "settle c^h:11111111111111111111111111111111 c.0"
    ∷ codes "23 carry c a settled c?a/0 7"
    ∷ codes "settle c?a/0 7"
    ∷ codes "settle a?c/0 7"
    ∷ codes "24 idle"
    ∷ codes "left link a c deliver a/1 c^h:11111111111111111111111111111111 f"
    ∷ codes "left link a c settled a?c/0 7"
    ∷ codes "left link a h settled @a a.0"
    ∷ codes "left link b a settled @b b.0"
    ∷ codes "left link b h settled @b b.0"
    ∷ codes "left link c b settled @c c.0"
    ∷ codes "left link c b settled c^h:11111111111111111111111111111111 c.0"
    ∷ codes "left link c h settled @c c.0"
    ∷ codes "end"
    ∷ [])

abbrev pub Holds : Type 0
Holds = text play (acts play) ≡ due

unfoldable pub opened : Unit {0}
unfolding tree_0 tree_1 tree_2 play
opened = tt
