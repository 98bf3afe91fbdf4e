-- A run with hostile vats, and its text with its frames.
use Rattle.std.specs.Prelude.{◌≡◌, ℕ, List, [], ◌∷◌, codes, pos}
use Rattle.def_run.specs.World.{Carry, Turn, Script}
use Rattle.def_hostile.specs.Hostile.{Play, Does, Injects, acts}
use Rattle.def_hostile.specs.HostileText.{wire_text}
use Rattle.test_hostile.specs.Lines.{lines}
use Rattle.def_kernel.specs.declared.node.Literal.TheVariants as literal
use Rattle.def_kernel.specs.declared.node.Node.{Node}
use Rattle.def_kernel.specs.declared.node.Node.TheVariants.{Call, Lit, Noun, Sequence}

unfoldable pub tree_0 : List Node
tree_0 =
    Sequence (1 ∷ 8 ∷ [])
    ∷ Call 2 (codes "send") (3 ∷ 4 ∷ 5 ∷ [])
    ∷ Noun (codes "E")
    ∷ Noun (codes "h")
    ∷ Lit (literal.Text (codes "f"))
    ∷ Call 6 (codes "run") (7 ∷ [])
    ∷ Noun (codes "__makeList")
    ∷ Lit (literal.Int (pos 1))
    ∷ Call 9 (codes "send") (10 ∷ 11 ∷ 12 ∷ [])
    ∷ Noun (codes "E")
    ∷ Noun (codes "h")
    ∷ Lit (literal.Text (codes "g"))
    ∷ Call 13 (codes "run") []
    ∷ Noun (codes "__makeList")
    ∷ []

unfoldable pub play : Play
play = record {
  script = record {
    key = (0 ∷ 0 ∷ 0 ∷ 0 ∷ 0 ∷ 0 ∷ 0 ∷ 0 ∷ 0 ∷ 0 ∷ 0 ∷ 0 ∷ 0 ∷ 0 ∷ 0 ∷ 0 ∷ 0 ∷ 0 ∷ 0 ∷ 0 ∷ 0 ∷ 0 ∷ 0 ∷ 0 ∷ 0 ∷ 0 ∷ 0 ∷ 0 ∷ 0 ∷ 0 ∷ 0 ∷ 0 ∷ []);
    fuel = 1000000;
    depth = 400;
    vats =
        record { name = codes "a"; knows = (1 ∷ []); tree = tree_0 } ∷
        record { name = codes "h"; knows = []; tree = [] } ∷
        [];
    schedule = [];
  };
  hostile = (1 ∷ []);
  doings = Does (Carry 0 1) ∷ Injects 1 0 (2 ∷ 14 ∷ 0 ∷ 11 ∷ 0 ∷ []) ∷ Does (Carry 1 0) ∷ Injects 1 0 (2 ∷ 14 ∷ 1 ∷ 15 ∷ 0 ∷ []) ∷ Does (Carry 1 0) ∷ Does (Turn 0) ∷ Does (Turn 1) ∷ Does (Carry 0 1) ∷ Does (Carry 1 0) ∷ Does (Turn 0) ∷ Does (Turn 1) ∷ Does (Carry 0 1) ∷ Does (Carry 1 0) ∷ [];
}

-- what is due of it
abbrev pub due : List ℕ
due = lines (
    codes "open a"
    ∷ codes "!0 list a%0 1"
    ∷ codes "!0 send a/0 @h f 1 -> h?a/0"
    ∷ codes "!0 list a%1"
    ∷ codes "!0 send a/1 @h g -> h?a/1"
    ∷ codes "!0 done h?a/1"
    ∷ codes "wait @a h?a/1"
    ∷ codes "1 carry a h deliver a/0 @h f 1"
    ∷ codes "frame 010009000166010301"
    ∷ codes "2 inject h a 020e000b00"
    ∷ codes "3 carry h a malformed 4"
    ∷ codes "lost a/1 cut"
    ∷ codes "settle @h broken:\"partition\""
    ∷ codes "settle h?a/0 broken:\"partition\""
    ∷ codes "settle h?a/1 broken:\"partition\""
    ∷ codes "settle @a broken:\"partition\""
    ∷ codes "4 inject h a cut"
    ∷ codes "5 idle"
    ∷ codes "6 idle"
    ∷ codes "7 idle"
    ∷ codes "8 idle"
    ∷ codes "9 idle"
    ∷ codes "10 idle"
    ∷ codes "11 idle"
    ∷ codes "12 idle"
    ∷ codes "13 idle"
    ∷ codes "end"
    ∷ [])

abbrev pub Holds : Type 0
Holds = wire_text play (acts play) ≡ due

unfoldable pub opened : Unit {0}
unfolding tree_0 play
opened = tt
