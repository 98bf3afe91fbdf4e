-- A run with hostile vats, and its text with its frames.
use Rattle.std.specs.Prelude.{◌≡◌, ℕ, List, [], ◌∷◌, codes}
use Rattle.def_run.specs.World.{Carry, CutLink, NoticeLink, Turn, Script}
use Rattle.def_hostile.specs.Hostile.{Play, Does, Injects, acts}
use Rattle.def_hostile.specs.HostileText.{wire_text}
use Rattle.test_hostile.specs.Lines.{lines}
use Rattle.def_kernel.specs.declared.node.Literal.TheVariants as literal
use Rattle.def_kernel.specs.declared.node.Node.{Node}
use Rattle.def_kernel.specs.declared.node.Node.TheVariants.{Call, Lit, Noun}

unfoldable pub tree_0 : List Node
tree_0 =
    Call 1 (codes "send") (2 ∷ 3 ∷ 4 ∷ [])
    ∷ Noun (codes "E")
    ∷ Noun (codes "h")
    ∷ Lit (literal.Text (codes "hi"))
    ∷ Call 5 (codes "run") []
    ∷ Noun (codes "__makeList")
    ∷ []

unfoldable pub play : Play
play = record {
  script = record {
    key = (0 ∷ 0 ∷ 0 ∷ 0 ∷ 0 ∷ 0 ∷ 0 ∷ 0 ∷ 0 ∷ 0 ∷ 0 ∷ 0 ∷ 0 ∷ 0 ∷ 0 ∷ 0 ∷ 0 ∷ 0 ∷ 0 ∷ 0 ∷ 0 ∷ 0 ∷ 0 ∷ 0 ∷ 0 ∷ 0 ∷ 0 ∷ 0 ∷ 0 ∷ 0 ∷ 0 ∷ 0 ∷ []);
    fuel = 1000000;
    depth = 400;
    vats =
        record { name = codes "a"; knows = (1 ∷ []); tree = tree_0 } ∷
        record { name = codes "h"; knows = (0 ∷ 2 ∷ []); tree = [] } ∷
        record { name = codes "i"; knows = (1 ∷ []); tree = [] } ∷
        [];
    schedule = [];
  };
  hostile = (1 ∷ 2 ∷ []);
  doings = Injects 1 2 (255 ∷ 0 ∷ []) ∷ Injects 2 1 (0 ∷ []) ∷ Does (Carry 1 2) ∷ Does (Carry 2 1) ∷ Injects 1 2 (1 ∷ []) ∷ Does (CutLink 1 0) ∷ Does (NoticeLink 1 0) ∷ Does (Carry 0 1) ∷ Injects 1 0 (2 ∷ []) ∷ Does (Turn 1) ∷ Does (CutLink 1 2) ∷ Injects 2 1 (3 ∷ []) ∷ [];
}

-- what is due of it
abbrev pub due : List ℕ
due = lines (
    codes "open a"
    ∷ codes "!0 list a%0"
    ∷ codes "!0 send a/0 @h hi -> h?a/0"
    ∷ codes "!0 done h?a/0"
    ∷ codes "wait @a h?a/0"
    ∷ codes "1 inject h i ff00"
    ∷ codes "2 inject i h 00"
    ∷ codes "3 carry h i bytes ff00"
    ∷ codes "4 carry i h bytes 00"
    ∷ codes "5 inject h i 01"
    ∷ codes "6 cut h a"
    ∷ codes "lost a/0 cut"
    ∷ codes "7 notice h a"
    ∷ codes "8 idle"
    ∷ codes "9 inject h a cut"
    ∷ codes "10 idle"
    ∷ codes "11 cut h i"
    ∷ codes "12 inject i h cut"
    ∷ codes "end"
    ∷ [])

abbrev pub Holds : Type 0
Holds = wire_text play (acts play) ≡ due

unfoldable pub opened : Unit {0}
unfolding tree_0 play
opened = tt
