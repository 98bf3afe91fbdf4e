-- A run in which one message is taken, one stands in the closing list and one is lost.
use Rattle.std.specs.Prelude.{◌≡◌, ℕ, pos, List, [], ◌∷◌, None, codes}
use Rattle.def_machine.specs.Values.{Sent}
use Rattle.def_run.specs.World.{Turn, Script, Event, Run, Goes, Stopped, run}
use Rattle.def_kernel.specs.declared.node.Literal.TheVariants as literal
use Rattle.def_kernel.specs.declared.node.Node.{Node}
use Rattle.def_kernel.specs.declared.node.Node.TheVariants.{Lit, Noun, Call, Sequence, Object, Method, Final}
use Rattle.law_fate.specs.Fates.Fate.{sent, takes, losses, leavings}

-- def o { method f(x) { x } }; o <- f(1); o <- f(2); Ref.broken("gone") <- g()
unfoldable pub tree_a : List Node
tree_a =
    Sequence (1 ∷ 6 ∷ 13 ∷ 20 ∷ [])
    ∷ Object 2 [] (3 ∷ [])
    ∷ Final (codes "o") None
    ∷ Method (codes "f") (4 ∷ []) 5
    ∷ Final (codes "x") None
    ∷ Noun (codes "x")
    ∷ Call 7 (codes "send") (8 ∷ 9 ∷ 10 ∷ [])
    ∷ Noun (codes "E")
    ∷ Noun (codes "o")
    ∷ Lit (literal.Text (codes "f"))
    ∷ Call 11 (codes "run") (12 ∷ [])
    ∷ Noun (codes "__makeList")
    ∷ Lit (literal.Int (pos 1))
    ∷ Call 14 (codes "send") (15 ∷ 16 ∷ 17 ∷ [])
    ∷ Noun (codes "E")
    ∷ Noun (codes "o")
    ∷ Lit (literal.Text (codes "f"))
    ∷ Call 18 (codes "run") (19 ∷ [])
    ∷ Noun (codes "__makeList")
    ∷ Lit (literal.Int (pos 2))
    ∷ Call 21 (codes "send") (22 ∷ 25 ∷ 26 ∷ [])
    ∷ Noun (codes "E")
    ∷ Call 23 (codes "broken") (24 ∷ [])
    ∷ Noun (codes "Ref")
    ∷ Lit (literal.Text (codes "gone"))
    ∷ Lit (literal.Text (codes "g"))
    ∷ Call 27 (codes "run") []
    ∷ Noun (codes "__makeList")
    ∷ []

-- with one turn
unfoldable pub script : Script
script = record { key = []; fuel = 1000; depth = 100; vats = record { name = codes "a"; knows = []; tree = tree_a } ∷ []; schedule = Turn 0 ∷ [] }

unfoldable pub history_of : Run → List Event
history_of (Goes w) = w.history
history_of (Stopped c k w) = w.history

-- how often message n of vat 0 was sent, taken, lost, and stands in the closing list
unfoldable pub counts : ℕ → List ℕ
counts n = let x = Sent (record { sender = 0; number = n }) in let es = history_of (run script) in sent x es ∷ takes x es ∷ losses x es ∷ leavings x es ∷ []

-- the first is taken, the second is left, the third is lost, and there is no fourth
abbrev pub FatesAreMet : Type 0
FatesAreMet = (counts 0 ≡ 1 ∷ 1 ∷ 0 ∷ 0 ∷ []) × (counts 1 ≡ 1 ∷ 0 ∷ 0 ∷ 1 ∷ []) × (counts 2 ≡ 1 ∷ 0 ∷ 1 ∷ 0 ∷ []) × (counts 3 ≡ 0 ∷ 0 ∷ 0 ∷ 0 ∷ [])

-- opens the definitions of this file
unfoldable pub opened_example : Unit {0}
unfolding tree_a script history_of counts
opened_example = tt
