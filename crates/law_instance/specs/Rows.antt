-- Two worked scripts without hostile vats: a vat introduces another to a third, with enough fuel and with little.
use Rattle.std.specs.Prelude.{◌≡◌, ℕ, pos, List, [], ◌∷◌, ◌++◌, None, codes}
use Rattle.def_kernel.specs.declared.node.Literal.TheVariants as literal
use Rattle.def_kernel.specs.declared.node.Node.{Node}
use Rattle.def_kernel.specs.declared.node.Node.TheVariants.{Lit, Noun, Call, Sequence, Object, Method, Final}
use Rattle.def_machine.specs.Values.{Words}
use Rattle.def_run.specs.World.{Turn, Carry, Script}
use Rattle.def_hostile.specs.Hostile.{acts}
use Rattle.def_hostile.specs.HostileText.{text}
use Rattle.law_instance.specs.Honest.{honest, IsAccepted}
use lib.Utf8.{encodes}

-- lines, each with its end
unfoldable pub lines : List Words → Words
lines [] = []
lines (l ∷ ls) = l ++ 10 ∷ lines ls

unfoldable pub key : List ℕ
key = 0 ∷ 0 ∷ 0 ∷ 0 ∷ 0 ∷ 0 ∷ 0 ∷ 0 ∷ 0 ∷ 0 ∷ 0 ∷ 0 ∷ 0 ∷ 0 ∷ 0 ∷ 0 ∷ 0 ∷ 0 ∷ 0 ∷ 0 ∷ 0 ∷ 0 ∷ 0 ∷ 0 ∷ 0 ∷ 0 ∷ 0 ∷ 0 ∷ 0 ∷ 0 ∷ 0 ∷ 0 ∷ []

-- c <- put(0); b <- meet(c)
unfoldable pub tree_a : List Node
tree_a =
    Sequence (1 ∷ 8 ∷ [])
    ∷ Call 2 (codes "send") (3 ∷ 4 ∷ 5 ∷ [])
    ∷ Noun (codes "E")
    ∷ Noun (codes "c")
    ∷ Lit (literal.Text (codes "put"))
    ∷ Call 6 (codes "run") (7 ∷ [])
    ∷ Noun (codes "__makeList")
    ∷ Lit (literal.Int (pos 0))
    ∷ Call 9 (codes "send") (10 ∷ 11 ∷ 12 ∷ [])
    ∷ Noun (codes "E")
    ∷ Noun (codes "b")
    ∷ Lit (literal.Text (codes "meet"))
    ∷ Call 13 (codes "run") (14 ∷ [])
    ∷ Noun (codes "__makeList")
    ∷ Noun (codes "c")
    ∷ []

-- def t { method meet(p) { p <- put(2) } }
unfoldable pub tree_b : List Node
tree_b =
    Object 1 [] (2 ∷ [])
    ∷ Final (codes "t") None
    ∷ Method (codes "meet") (3 ∷ []) 4
    ∷ Final (codes "p") None
    ∷ Call 5 (codes "send") (6 ∷ 7 ∷ 8 ∷ [])
    ∷ Noun (codes "E")
    ∷ Noun (codes "p")
    ∷ Lit (literal.Text (codes "put"))
    ∷ Call 9 (codes "run") (10 ∷ [])
    ∷ Noun (codes "__makeList")
    ∷ Lit (literal.Int (pos 2))
    ∷ []

-- def o { method put(x) { x } }
unfoldable pub tree_c : List Node
tree_c =
    Object 1 [] (2 ∷ [])
    ∷ Final (codes "o") None
    ∷ Method (codes "put") (3 ∷ []) 4
    ∷ Final (codes "x") None
    ∷ Noun (codes "x")
    ∷ []

-- with so much fuel
unfoldable pub introduction : ℕ → Script
introduction fuel = record {
  key = key;
  fuel = fuel;
  depth = 400;
  vats =
      record { name = codes "a"; knows = 1 ∷ 2 ∷ []; tree = tree_a } ∷
      record { name = codes "b"; knows = []; tree = tree_b } ∷
      record { name = codes "c"; knows = []; tree = tree_c } ∷
      [];
  schedule = Carry 0 1 ∷ Turn 1 ∷ Carry 1 2 ∷ Carry 1 2 ∷ Carry 0 2 ∷ Carry 0 2 ∷ Turn 2 ∷ Turn 2 ∷ [];
}

-- It has what each script has that is read, so the laws speak of it.
abbrev pub IntroductionIsAccepted : Type 0
IntroductionIsAccepted = (fuel : ℕ) → IsAccepted (introduction fuel)

-- A gift is opened, asked for and settled; the text is the one of the run of today.
abbrev pub IntroductionIsTold : Type 0
IntroductionIsTold = text (honest (introduction 1000000)) (acts (honest (introduction 1000000))) ≡ lines (
    codes "open a"
    ∷ codes "!0 list a%0 0"
    ∷ codes "!0 send a/0 @c put 0 -> c?a/0"
    ∷ codes "!0 list a%1 @c"
    ∷ codes "!0 send a/1 @b meet @c -> b?a/1"
    ∷ codes "!0 done b?a/1"
    ∷ codes "wait @a b?a/1"
    ∷ codes "open b"
    ∷ codes "!0 made b.0 t"
    ∷ codes "!0 done b.0"
    ∷ codes "settle @b b.0"
    ∷ codes "open c"
    ∷ codes "!0 made c.0 o"
    ∷ codes "!0 done c.0"
    ∷ codes "settle @c c.0"
    ∷ codes "1 carry a b deliver a/1 @b meet c^0"
    ∷ codes "2 turn b"
    ∷ codes "!1 take a/1 b.0 meet c^0"
    ∷ codes "!1 list b%0 2"
    ∷ codes "!1 send b/0 c^0 put 2 -> c?b/0"
    ∷ codes "!1 done c?b/0"
    ∷ codes "wait b?a/1 c?b/0"
    ∷ codes "3 carry b c ask c^0 a"
    ∷ codes "4 carry b c deliver b/0 c^0 put 2"
    ∷ codes "5 carry a c deliver a/0 @c put 0"
    ∷ codes "6 carry a c open c^0 @c"
    ∷ codes "settle c^0 c.0"
    ∷ codes "7 turn c"
    ∷ codes "!1 take a/0 c.0 put 0"
    ∷ codes "!1 done 0"
    ∷ codes "settle c?a/0 0"
    ∷ codes "8 turn c"
    ∷ codes "!2 take b/0 c.0 put 2"
    ∷ codes "!2 done 2"
    ∷ codes "settle c?b/0 2"
    ∷ codes "left link b a settled @b b.0"
    ∷ codes "left link c a settled @c c.0"
    ∷ codes "left link c a settled c?a/0 0"
    ∷ codes "left link c b settled c^0 c.0"
    ∷ codes "left link c b settled c?b/0 2"
    ∷ codes "end"
    ∷ [])

-- With little fuel it stops in a turn.
abbrev pub IntroductionStops : Type 0
IntroductionStops = text (honest (introduction 30)) (acts (honest (introduction 30))) ≡ lines (
    codes "open a"
    ∷ codes "!0 list a%0 0"
    ∷ codes "!0 send a/0 @c put 0 -> c?a/0"
    ∷ codes "!0 list a%1 @c"
    ∷ codes "!0 send a/1 @b meet @c -> b?a/1"
    ∷ codes "!0 done b?a/1"
    ∷ codes "wait @a b?a/1"
    ∷ codes "open b"
    ∷ codes "!0 made b.0 t"
    ∷ codes "!0 done b.0"
    ∷ codes "settle @b b.0"
    ∷ codes "open c"
    ∷ codes "!0 made c.0 o"
    ∷ codes "!0 done c.0"
    ∷ codes "settle @c c.0"
    ∷ codes "1 carry a b deliver a/1 @b meet c^0"
    ∷ codes "stop fuel 4"
    ∷ [])

-- opens each definition of this file
unfoldable pub opened_rows : Unit {0}
unfolding lines key tree_a tree_b tree_c introduction encodes
opened_rows = tt
