-- A message is lost on a link that is cut, while the hostile vat leads its reference elsewhere: a later one on it is taken.
use Rattle.std.specs.Prelude.{◌≡◌, ℕ, List, [], ◌∷◌, codes, None, pos}
use Rattle.def_run.specs.World.{Carry, CutLink, Script, Turn}
use Rattle.def_hostile.specs.Hostile.{Play, Does, Injects, acts}
use Rattle.def_hostile.specs.HostileText.{text}
use Rattle.test_hostile.specs.Lines.{lines}
use Rattle.def_kernel.specs.declared.node.Literal.TheVariants as literal
use Rattle.def_kernel.specs.declared.node.Node.{Node}
use Rattle.def_kernel.specs.declared.node.Node.TheVariants.{Call, Def, Final, Lit, Method, Noun, Object, Sequence}

unfoldable pub tree_0 : List Node
tree_0 =
    Sequence (1 ∷ 9 ∷ 15 ∷ 24 ∷ 30 ∷ []) ∷
    Def 2 None 3 ∷
    Final (codes "x") None ∷
    Call 4 (codes "send") (5 ∷ 6 ∷ 7 ∷ []) ∷
    Noun (codes "E") ∷
    Noun (codes "w") ∷
    Lit (literal.Text (codes "get")) ∷
    Call 8 (codes "run") [] ∷
    Noun (codes "__makeList") ∷
    Call 10 (codes "send") (11 ∷ 12 ∷ 13 ∷ []) ∷
    Noun (codes "E") ∷
    Noun (codes "x") ∷
    Lit (literal.Text (codes "f")) ∷
    Call 14 (codes "run") [] ∷
    Noun (codes "__makeList") ∷
    Object 16 [] (17 ∷ []) ∷
    Final (codes "o") None ∷
    Method (codes "go") [] 18 ∷
    Call 19 (codes "send") (20 ∷ 21 ∷ 22 ∷ []) ∷
    Noun (codes "E") ∷
    Noun (codes "x") ∷
    Lit (literal.Text (codes "g")) ∷
    Call 23 (codes "run") [] ∷
    Noun (codes "__makeList") ∷
    Call 25 (codes "send") (26 ∷ 27 ∷ 28 ∷ []) ∷
    Noun (codes "E") ∷
    Noun (codes "o") ∷
    Lit (literal.Text (codes "go")) ∷
    Call 29 (codes "run") [] ∷
    Noun (codes "__makeList") ∷
    Noun (codes "o") ∷
    []

unfoldable pub tree_1 : List Node
tree_1 =
    Object 1 [] (2 ∷ []) ∷
    Final (codes "o") None ∷
    Method (codes "get") [] 3 ∷
    Noun (codes "h") ∷
    []

unfoldable pub tree_3 : List Node
tree_3 =
    Object 1 [] (2 ∷ 4 ∷ []) ∷
    Final (codes "o") None ∷
    Method (codes "f") [] 3 ∷
    Lit (literal.Int (pos 1)) ∷
    Method (codes "g") [] 5 ∷
    Lit (literal.Int (pos 2)) ∷
    []

unfoldable pub play : Play
play = record {
  script = record {
    key = (0 ∷ 0 ∷ 0 ∷ 0 ∷ 0 ∷ 0 ∷ 0 ∷ 0 ∷ 0 ∷ 0 ∷ 0 ∷ 0 ∷ 0 ∷ 0 ∷ 0 ∷ 0 ∷ 0 ∷ 0 ∷ 0 ∷ 0 ∷ 0 ∷ 0 ∷ 0 ∷ 0 ∷ 0 ∷ 0 ∷ 0 ∷ 0 ∷ 0 ∷ 0 ∷ 0 ∷ 0 ∷ []);
    fuel = 1000000;
    depth = 400;
    vats =
        record { name = codes "a"; knows = (1 ∷ []); tree = tree_0 } ∷
        record { name = codes "w"; knows = (2 ∷ []); tree = tree_1 } ∷
        record { name = codes "h"; knows = (3 ∷ []); tree = [] } ∷
        record { name = codes "d"; knows = []; tree = tree_3 } ∷
        [];
    schedule = [];
  };
  hostile = (2 ∷ []);
  doings =
      Does (Carry 1 0) ∷
      Does (Carry 0 1) ∷
      Does (Turn 1) ∷
      Injects 2 1 (2 ∷ 12 ∷ 0 ∷ 11 ∷ 1 ∷ []) ∷
      Does (Carry 2 1) ∷
      Does (Carry 1 0) ∷
      Does (CutLink 0 1) ∷
      Injects 2 0 (2 ∷ 14 ∷ 0 ∷ 15 ∷ 3 ∷ []) ∷
      Does (Carry 2 0) ∷
      Injects 2 3 (3 ∷ 9 ∷ 0 ∷ 189 ∷ 210 ∷ 25 ∷ 184 ∷ 160 ∷ 141 ∷ 237 ∷ 26 ∷ 168 ∷ 54 ∷ 239 ∷ 204 ∷ 139 ∷ 119 ∷ 13 ∷ 199 ∷ []) ∷
      Does (Carry 2 3) ∷
      Does (Turn 0) ∷
      Does (Turn 0) ∷
      Does (Carry 0 3) ∷
      Does (Carry 0 3) ∷
      Does (Turn 3) ∷
      Does (Turn 3) ∷
      [];
}

-- what is due of it
abbrev pub due : List ℕ
due = lines (
    codes "open a"
    ∷ codes "!0 list a%0"
    ∷ codes "!0 send a/0 @w get -> w?a/0"
    ∷ codes "!0 list a%1"
    ∷ codes "!0 send a/1 w?a/0 f -> w?a/1"
    ∷ codes "!0 made a.0 o caps w?a/0"
    ∷ codes "!0 list a%2"
    ∷ codes "!0 send a/2 a.0 go -> a?a/2"
    ∷ codes "!0 done a.0"
    ∷ codes "settle @a a.0"
    ∷ codes "open w"
    ∷ codes "!0 made w.0 o caps @h"
    ∷ codes "!0 done w.0"
    ∷ codes "settle @w w.0"
    ∷ codes "open d"
    ∷ codes "!0 made d.0 o"
    ∷ codes "!0 done d.0"
    ∷ codes "settle @d d.0"
    ∷ codes "1 carry w a settled @w w.0"
    ∷ codes "settle @w w.0"
    ∷ codes "2 carry a w deliver a/0 @w get"
    ∷ codes "3 turn w"
    ∷ codes "!1 take a/0 w.0 get"
    ∷ codes "!1 done @h"
    ∷ codes "wait w?a/0 @h"
    ∷ codes "4 inject h w 020c000b01"
    ∷ codes "5 carry h w settled @h h.0"
    ∷ codes "settle @h h.0"
    ∷ codes "settle w?a/0 h.0"
    ∷ codes "6 carry w a elsewhere w?a/0 h"
    ∷ codes "view w?a/0 h^0"
    ∷ codes "7 cut a w"
    ∷ codes "lost a/1 cut"
    ∷ codes "8 inject h a 020e000f03"
    ∷ codes "9 carry h a elsewhere h^0 d"
    ∷ codes "view h^0 d^1"
    ∷ codes "10 inject h d 030900bdd219b8a08ded1aa836efcc8b770dc7"
    ∷ codes "11 carry h d open d^1 @d"
    ∷ codes "settle d^1 d.0"
    ∷ codes "12 turn a"
    ∷ codes "!1 take a/2 a.0 go"
    ∷ codes "!1 list a%3"
    ∷ codes "!1 send a/3 w?a/0 g -> d?a/3"
    ∷ codes "!1 done d?a/3"
    ∷ codes "wait a?a/2 d?a/3"
    ∷ codes "13 idle"
    ∷ codes "14 carry a d ask d^1 h"
    ∷ codes "15 carry a d deliver a/3 d^1 g"
    ∷ codes "16 turn d"
    ∷ codes "!1 take a/3 d.0 g"
    ∷ codes "!1 done 2"
    ∷ codes "settle d?a/3 2"
    ∷ codes "17 idle"
    ∷ codes "left link a h ask h^0 w"
    ∷ codes "left link a h shorten h^0 d^1"
    ∷ codes "left link d a settled d^1 d.0"
    ∷ codes "left link d a settled d?a/3 2"
    ∷ codes "left link d h settled @d d.0"
    ∷ codes "end"
    ∷ [])

abbrev pub Holds : Type 0
Holds = text play (acts play) ≡ due

unfoldable pub opened : Unit {0}
unfolding tree_0 tree_1 tree_3 play
opened = tt
