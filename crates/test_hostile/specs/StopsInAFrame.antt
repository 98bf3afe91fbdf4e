-- A step that stops leaves the scene before it: the frame whose note is received on too little fuel is on its link, what it makes and names came to nothing.
use Rattle.std.specs.Prelude.{◌≡◌, ℕ, zero, List, [], ◌∷◌, codes, pos}
use Rattle.def_machine.specs.State.{Stop, Fuel}
use Rattle.def_run.specs.World.{Carry, Script}
use Rattle.def_hostile.specs.Hostile.{Play, Does, Injects, Acted, Plays, Breaks, then_plays, starts, opens_from, does_all, acts}
use Rattle.def_hostile.specs.HostileText.{text}
use Rattle.test_hostile.specs.Lines.{lines}
use Rattle.def_kernel.specs.declared.node.Literal.TheVariants as literal
use Rattle.def_kernel.specs.declared.node.Node.{Node}
use Rattle.def_kernel.specs.declared.node.Node.TheVariants.{Lit, Noun}

unfoldable pub tree_0 : List Node
tree_0 = Noun (codes "h") ∷ []

unfoldable pub tree_2 : List Node
tree_2 = Lit (literal.Int (pos 1)) ∷ []

-- h's root settles to a list of a gift of c and a new object of h: told to h by the root that waits on it, it weighs more than the fuel left
unfoldable pub frame : List ℕ
frame = 2 ∷ 12 ∷ 0 ∷ 6 ∷ 2 ∷ 13 ∷ 2 ∷ 0 ∷ 0 ∷ 0 ∷ 0 ∷ 0 ∷ 0 ∷ 0 ∷ 0 ∷ 0 ∷ 0 ∷ 0 ∷ 0 ∷ 0 ∷ 0 ∷ 0 ∷ 0 ∷ 11 ∷ 1 ∷ []

unfoldable pub play : Play
play = record {
  script = record {
    key = (0 ∷ 0 ∷ 0 ∷ 0 ∷ 0 ∷ 0 ∷ 0 ∷ 0 ∷ 0 ∷ 0 ∷ 0 ∷ 0 ∷ 0 ∷ 0 ∷ 0 ∷ 0 ∷ 0 ∷ 0 ∷ 0 ∷ 0 ∷ 0 ∷ 0 ∷ 0 ∷ 0 ∷ 0 ∷ 0 ∷ 0 ∷ 0 ∷ 0 ∷ 0 ∷ 0 ∷ 0 ∷ []);
    fuel = 3;
    depth = 400;
    vats =
        record { name = codes "a"; knows = (1 ∷ []); tree = tree_0 } ∷
        record { name = codes "h"; knows = (0 ∷ []); tree = [] } ∷
        record { name = codes "c"; knows = []; tree = tree_2 } ∷
        [];
    schedule = [];
  };
  hostile = (1 ∷ []);
  doings = Injects 1 0 frame ∷ Does (Carry 1 0) ∷ [];
}

-- that far, and then a stop
unfoldable pub stops_at : Stop → ℕ → Acted → Acted
stops_at c k (Plays s) = Breaks c k s
stops_at c k (Breaks d n s) = Breaks d n s

-- the scene after the first entry
unfoldable pub before : Acted
before = then_plays (opens_from play zero play.script.vats (starts play)) (does_all play (Injects 1 0 frame ∷ []) 1)

abbrev pub Holds : Type 0
Holds = acts play ≡ stops_at Fuel 3 before

abbrev pub Told : Type 0
Told = text play (acts play) ≡ lines (
    codes "open a"
    ∷ codes "!0 done @h"
    ∷ codes "wait @a @h"
    ∷ codes "open c"
    ∷ codes "!0 done 1"
    ∷ codes "settle @c 1"
    ∷ codes "1 inject h a 020c0006020d02000000000000000000000000000000000b01"
    ∷ codes "stop fuel 3"
    ∷ [])

unfoldable pub opened : Unit {0}
unfolding tree_0 tree_2 frame play stops_at before
opened = tt
