-- Lists up to 100 high come in a frame; what would pass above the limit of height passes as broken.
use Rattle.std.specs.Prelude.{◌≡◌, ℕ, List, [], ◌∷◌, codes, None}
use Rattle.def_run.specs.World.{Carry, Script, Turn}
use Rattle.def_hostile.specs.Hostile.{Play, Does, Injects, acts}
use Rattle.def_hostile.specs.HostileText.{text}
use Rattle.test_hostile.specs.Lines.{lines}
use Rattle.def_kernel.specs.declared.node.Literal.TheVariants as literal
use Rattle.def_kernel.specs.declared.node.Node.{Node}
use Rattle.def_kernel.specs.declared.node.Node.TheVariants.{Call, Final, Lit, Method, Noun, Object, Sequence}

unfoldable pub tree_0 : List Node
tree_0 =
    Sequence (1 ∷ 34 ∷ []) ∷
    Object 2 [] (3 ∷ []) ∷
    Final (codes "o") None ∷
    Method (codes "put") (4 ∷ []) 5 ∷
    Final (codes "x") None ∷
    Sequence (6 ∷ 13 ∷ 22 ∷ 33 ∷ []) ∷
    Call 7 (codes "send") (8 ∷ 9 ∷ 10 ∷ []) ∷
    Noun (codes "E") ∷
    Noun (codes "b") ∷
    Lit (literal.Text (codes "put")) ∷
    Call 11 (codes "run") (12 ∷ []) ∷
    Noun (codes "__makeList") ∷
    Noun (codes "x") ∷
    Call 14 (codes "send") (15 ∷ 16 ∷ 17 ∷ []) ∷
    Noun (codes "E") ∷
    Noun (codes "b") ∷
    Lit (literal.Text (codes "put")) ∷
    Call 18 (codes "run") (19 ∷ []) ∷
    Noun (codes "__makeList") ∷
    Call 20 (codes "run") (21 ∷ []) ∷
    Noun (codes "__makeList") ∷
    Noun (codes "x") ∷
    Call 23 (codes "sendOnly") (24 ∷ 25 ∷ 26 ∷ []) ∷
    Noun (codes "E") ∷
    Noun (codes "b") ∷
    Lit (literal.Text (codes "put")) ∷
    Call 27 (codes "run") (28 ∷ []) ∷
    Noun (codes "__makeList") ∷
    Call 29 (codes "run") (30 ∷ []) ∷
    Noun (codes "__makeList") ∷
    Call 31 (codes "run") (32 ∷ []) ∷
    Noun (codes "__makeList") ∷
    Noun (codes "x") ∷
    Noun (codes "x") ∷
    Noun (codes "o") ∷
    []

unfoldable pub tree_1 : List Node
tree_1 =
    Object 1 [] (2 ∷ []) ∷
    Final (codes "o") None ∷
    Method (codes "put") (3 ∷ []) 4 ∷
    Final (codes "x") None ∷
    Noun (codes "x") ∷
    []

unfoldable pub play : Play
play = record {
  script = record {
    key = (0 ∷ 0 ∷ 0 ∷ 0 ∷ 0 ∷ 0 ∷ 0 ∷ 0 ∷ 0 ∷ 0 ∷ 0 ∷ 0 ∷ 0 ∷ 0 ∷ 0 ∷ 0 ∷ 0 ∷ 0 ∷ 0 ∷ 0 ∷ 0 ∷ 0 ∷ 0 ∷ 0 ∷ 0 ∷ 0 ∷ 0 ∷ 0 ∷ 0 ∷ 0 ∷ 0 ∷ 0 ∷ []);
    fuel = 1000000;
    depth = 400;
    vats =
        record { name = codes "a"; knows = (1 ∷ []); tree = tree_0 } ∷
        record { name = codes "b"; knows = (0 ∷ []); tree = tree_1 } ∷
        record { name = codes "h"; knows = (0 ∷ 1 ∷ []); tree = [] } ∷
        [];
    schedule = [];
  };
  hostile = (2 ∷ []);
  doings =
      Injects 2 0 (6 ∷ 9 ∷ 0 ∷ 3 ∷ 112 ∷ 117 ∷ 116 ∷ 1 ∷ 6 ∷ 1 ∷ 6 ∷ 1 ∷ 6 ∷ 1 ∷ 6 ∷ 1 ∷ 6 ∷ 1 ∷ 6 ∷ 1 ∷ 6 ∷ 1 ∷ 6 ∷ 1 ∷ 6 ∷ 1 ∷ 6 ∷ 1 ∷ 6 ∷ 1 ∷ 6 ∷ 1 ∷ 6 ∷ 1 ∷ 6 ∷ 1 ∷ 6 ∷ 1 ∷ 6 ∷ 1 ∷ 6 ∷ 1 ∷ 6 ∷ 1 ∷ 6 ∷ 1 ∷ 6 ∷ 1 ∷ 6 ∷ 1 ∷ 6 ∷ 1 ∷ 6 ∷ 1 ∷ 6 ∷ 1 ∷ 6 ∷ 1 ∷ 6 ∷ 1 ∷ 6 ∷ 1 ∷ 6 ∷ 1 ∷ 6 ∷ 1 ∷ 6 ∷ 1 ∷ 6 ∷ 1 ∷ 6 ∷ 1 ∷ 6 ∷ 1 ∷ 6 ∷ 1 ∷ 6 ∷ 1 ∷ 6 ∷ 1 ∷ 6 ∷ 1 ∷ 6 ∷ 1 ∷ 6 ∷ 1 ∷ 6 ∷ 1 ∷ 6 ∷ 1 ∷ 6 ∷ 1 ∷ 6 ∷ 1 ∷ 6 ∷ 1 ∷ 6 ∷ 1 ∷ 6 ∷ 1 ∷ 6 ∷ 1 ∷ 6 ∷ 1 ∷ 6 ∷ 1 ∷ 6 ∷ 1 ∷ 6 ∷ 1 ∷ 6 ∷ 1 ∷ 6 ∷ 1 ∷ 6 ∷ 1 ∷ 6 ∷ 1 ∷ 6 ∷ 1 ∷ 6 ∷ 1 ∷ 6 ∷ 1 ∷ 6 ∷ 1 ∷ 6 ∷ 1 ∷ 6 ∷ 1 ∷ 6 ∷ 1 ∷ 6 ∷ 1 ∷ 6 ∷ 1 ∷ 6 ∷ 1 ∷ 6 ∷ 1 ∷ 6 ∷ 1 ∷ 6 ∷ 1 ∷ 6 ∷ 1 ∷ 6 ∷ 1 ∷ 6 ∷ 1 ∷ 6 ∷ 1 ∷ 6 ∷ 1 ∷ 6 ∷ 1 ∷ 6 ∷ 1 ∷ 6 ∷ 1 ∷ 6 ∷ 1 ∷ 6 ∷ 1 ∷ 6 ∷ 1 ∷ 6 ∷ 1 ∷ 6 ∷ 1 ∷ 6 ∷ 1 ∷ 6 ∷ 1 ∷ 6 ∷ 1 ∷ 6 ∷ 1 ∷ 6 ∷ 1 ∷ 6 ∷ 1 ∷ 6 ∷ 1 ∷ 6 ∷ 1 ∷ 6 ∷ 1 ∷ 6 ∷ 1 ∷ 6 ∷ 1 ∷ 6 ∷ 1 ∷ 6 ∷ 1 ∷ 6 ∷ 1 ∷ 6 ∷ 1 ∷ 6 ∷ 1 ∷ 6 ∷ 1 ∷ 6 ∷ 1 ∷ 6 ∷ 0 ∷ []) ∷
      Does (Carry 2 0) ∷
      Injects 2 0 (6 ∷ 9 ∷ 0 ∷ 3 ∷ 112 ∷ 117 ∷ 116 ∷ 1 ∷ 6 ∷ 1 ∷ 6 ∷ 1 ∷ 6 ∷ 1 ∷ 6 ∷ 1 ∷ 6 ∷ 1 ∷ 6 ∷ 1 ∷ 6 ∷ 1 ∷ 6 ∷ 1 ∷ 6 ∷ 1 ∷ 6 ∷ 1 ∷ 6 ∷ 1 ∷ 6 ∷ 1 ∷ 6 ∷ 1 ∷ 6 ∷ 1 ∷ 6 ∷ 1 ∷ 6 ∷ 1 ∷ 6 ∷ 1 ∷ 6 ∷ 1 ∷ 6 ∷ 1 ∷ 6 ∷ 1 ∷ 6 ∷ 1 ∷ 6 ∷ 1 ∷ 6 ∷ 1 ∷ 6 ∷ 1 ∷ 6 ∷ 1 ∷ 6 ∷ 1 ∷ 6 ∷ 1 ∷ 6 ∷ 1 ∷ 6 ∷ 1 ∷ 6 ∷ 1 ∷ 6 ∷ 1 ∷ 6 ∷ 1 ∷ 6 ∷ 1 ∷ 6 ∷ 1 ∷ 6 ∷ 1 ∷ 6 ∷ 1 ∷ 6 ∷ 1 ∷ 6 ∷ 1 ∷ 6 ∷ 1 ∷ 6 ∷ 1 ∷ 6 ∷ 1 ∷ 6 ∷ 1 ∷ 6 ∷ 1 ∷ 6 ∷ 1 ∷ 6 ∷ 1 ∷ 6 ∷ 1 ∷ 6 ∷ 1 ∷ 6 ∷ 1 ∷ 6 ∷ 1 ∷ 6 ∷ 1 ∷ 6 ∷ 1 ∷ 6 ∷ 1 ∷ 6 ∷ 1 ∷ 6 ∷ 1 ∷ 6 ∷ 1 ∷ 6 ∷ 1 ∷ 6 ∷ 1 ∷ 6 ∷ 1 ∷ 6 ∷ 1 ∷ 6 ∷ 1 ∷ 6 ∷ 1 ∷ 6 ∷ 1 ∷ 6 ∷ 1 ∷ 6 ∷ 1 ∷ 6 ∷ 1 ∷ 6 ∷ 1 ∷ 6 ∷ 1 ∷ 6 ∷ 1 ∷ 6 ∷ 1 ∷ 6 ∷ 1 ∷ 6 ∷ 1 ∷ 6 ∷ 1 ∷ 6 ∷ 1 ∷ 6 ∷ 1 ∷ 6 ∷ 1 ∷ 6 ∷ 1 ∷ 6 ∷ 1 ∷ 6 ∷ 1 ∷ 6 ∷ 1 ∷ 6 ∷ 1 ∷ 6 ∷ 1 ∷ 6 ∷ 1 ∷ 6 ∷ 1 ∷ 6 ∷ 1 ∷ 6 ∷ 1 ∷ 6 ∷ 1 ∷ 6 ∷ 1 ∷ 6 ∷ 1 ∷ 6 ∷ 1 ∷ 6 ∷ 1 ∷ 6 ∷ 1 ∷ 6 ∷ 1 ∷ 6 ∷ 1 ∷ 6 ∷ 1 ∷ 6 ∷ 1 ∷ 6 ∷ 1 ∷ 6 ∷ 1 ∷ 6 ∷ 1 ∷ 6 ∷ 1 ∷ 6 ∷ 1 ∷ 6 ∷ 0 ∷ []) ∷
      Does (Turn 0) ∷
      Does (Turn 0) ∷
      Does (Carry 1 0) ∷
      Does (Carry 0 1) ∷
      Does (Carry 0 1) ∷
      Does (Carry 0 1) ∷
      Does (Turn 1) ∷
      Does (Turn 1) ∷
      Does (Turn 1) ∷
      Does (Carry 2 0) ∷
      [];
}

-- what is due of it
abbrev pub due : List ℕ
due = lines (
    codes "open a"
    ∷ codes "!0 made a.0 o caps @b"
    ∷ codes "!0 done a.0"
    ∷ codes "settle @a a.0"
    ∷ codes "open b"
    ∷ codes "!0 made b.0 o"
    ∷ codes "!0 done b.0"
    ∷ codes "settle @b b.0"
    ∷ codes "1 inject h a 06090003707574010601060106010601060106010601060106010601060106010601060106010601060106010601060106010601060106010601060106010601060106010601060106010601060106010601060106010601060106010601060106010601060106010601060106010601060106010601060106010601060106010601060106010601060106010601060106010601060106010601060106010601060106010601060106010601060106010601060106010601060106010601060106010601060106010601060106010600"
    ∷ codes "2 carry h a deliveronly h/0 @a put [[[[[[[[[[[[[[[[[[[[[[[[[[[[[[[[[[[[[[[[[[[[[[[[[[[[[[[[[[[[[[[[[[[[[[[[[[[[[[[[[[[[[[[[[[[[[[[[[[[[]]]]]]]]]]]]]]]]]]]]]]]]]]]]]]]]]]]]]]]]]]]]]]]]]]]]]]]]]]]]]]]]]]]]]]]]]]]]]]]]]]]]]]]]]]]]]]]]]]]]"
    ∷ codes "list a%0"
    ∷ codes "list a%1 a%0"
    ∷ codes "list a%2 a%1"
    ∷ codes "list a%3 a%2"
    ∷ codes "list a%4 a%3"
    ∷ codes "list a%5 a%4"
    ∷ codes "list a%6 a%5"
    ∷ codes "list a%7 a%6"
    ∷ codes "list a%8 a%7"
    ∷ codes "list a%9 a%8"
    ∷ codes "list a%10 a%9"
    ∷ codes "list a%11 a%10"
    ∷ codes "list a%12 a%11"
    ∷ codes "list a%13 a%12"
    ∷ codes "list a%14 a%13"
    ∷ codes "list a%15 a%14"
    ∷ codes "list a%16 a%15"
    ∷ codes "list a%17 a%16"
    ∷ codes "list a%18 a%17"
    ∷ codes "list a%19 a%18"
    ∷ codes "list a%20 a%19"
    ∷ codes "list a%21 a%20"
    ∷ codes "list a%22 a%21"
    ∷ codes "list a%23 a%22"
    ∷ codes "list a%24 a%23"
    ∷ codes "list a%25 a%24"
    ∷ codes "list a%26 a%25"
    ∷ codes "list a%27 a%26"
    ∷ codes "list a%28 a%27"
    ∷ codes "list a%29 a%28"
    ∷ codes "list a%30 a%29"
    ∷ codes "list a%31 a%30"
    ∷ codes "list a%32 a%31"
    ∷ codes "list a%33 a%32"
    ∷ codes "list a%34 a%33"
    ∷ codes "list a%35 a%34"
    ∷ codes "list a%36 a%35"
    ∷ codes "list a%37 a%36"
    ∷ codes "list a%38 a%37"
    ∷ codes "list a%39 a%38"
    ∷ codes "list a%40 a%39"
    ∷ codes "list a%41 a%40"
    ∷ codes "list a%42 a%41"
    ∷ codes "list a%43 a%42"
    ∷ codes "list a%44 a%43"
    ∷ codes "list a%45 a%44"
    ∷ codes "list a%46 a%45"
    ∷ codes "list a%47 a%46"
    ∷ codes "list a%48 a%47"
    ∷ codes "list a%49 a%48"
    ∷ codes "list a%50 a%49"
    ∷ codes "list a%51 a%50"
    ∷ codes "list a%52 a%51"
    ∷ codes "list a%53 a%52"
    ∷ codes "list a%54 a%53"
    ∷ codes "list a%55 a%54"
    ∷ codes "list a%56 a%55"
    ∷ codes "list a%57 a%56"
    ∷ codes "list a%58 a%57"
    ∷ codes "list a%59 a%58"
    ∷ codes "list a%60 a%59"
    ∷ codes "list a%61 a%60"
    ∷ codes "list a%62 a%61"
    ∷ codes "list a%63 a%62"
    ∷ codes "list a%64 a%63"
    ∷ codes "list a%65 a%64"
    ∷ codes "list a%66 a%65"
    ∷ codes "list a%67 a%66"
    ∷ codes "list a%68 a%67"
    ∷ codes "list a%69 a%68"
    ∷ codes "list a%70 a%69"
    ∷ codes "list a%71 a%70"
    ∷ codes "list a%72 a%71"
    ∷ codes "list a%73 a%72"
    ∷ codes "list a%74 a%73"
    ∷ codes "list a%75 a%74"
    ∷ codes "list a%76 a%75"
    ∷ codes "list a%77 a%76"
    ∷ codes "list a%78 a%77"
    ∷ codes "list a%79 a%78"
    ∷ codes "list a%80 a%79"
    ∷ codes "list a%81 a%80"
    ∷ codes "list a%82 a%81"
    ∷ codes "list a%83 a%82"
    ∷ codes "list a%84 a%83"
    ∷ codes "list a%85 a%84"
    ∷ codes "list a%86 a%85"
    ∷ codes "list a%87 a%86"
    ∷ codes "list a%88 a%87"
    ∷ codes "list a%89 a%88"
    ∷ codes "list a%90 a%89"
    ∷ codes "list a%91 a%90"
    ∷ codes "list a%92 a%91"
    ∷ codes "list a%93 a%92"
    ∷ codes "list a%94 a%93"
    ∷ codes "list a%95 a%94"
    ∷ codes "list a%96 a%95"
    ∷ codes "list a%97 a%96"
    ∷ codes "list a%98 a%97"
    ∷ codes "list a%99 a%98"
    ∷ codes "3 inject h a 060900037075740106010601060106010601060106010601060106010601060106010601060106010601060106010601060106010601060106010601060106010601060106010601060106010601060106010601060106010601060106010601060106010601060106010601060106010601060106010601060106010601060106010601060106010601060106010601060106010601060106010601060106010601060106010601060106010601060106010601060106010601060106010601060106010601060106010601060106010600"
    ∷ codes "4 turn a"
    ∷ codes "!1 take h/0 a.0 put a%99"
    ∷ codes "!1 threw \"too heavy\""
    ∷ codes "5 idle"
    ∷ codes "6 carry b a settled @b b.0"
    ∷ codes "settle @b b.0"
    ∷ codes "7 carry a b settled @a a.0"
    ∷ codes "settle @a a.0"
    ∷ codes "8 idle"
    ∷ codes "9 idle"
    ∷ codes "10 idle"
    ∷ codes "11 idle"
    ∷ codes "12 idle"
    ∷ codes "13 carry h a malformed 208"
    ∷ codes "left link b h settled @b b.0"
    ∷ codes "end"
    ∷ [])

abbrev pub Holds : Type 0
Holds = text play (acts play) ≡ due

unfoldable pub opened : Unit {0}
unfolding tree_0 tree_1 play
opened = tt
